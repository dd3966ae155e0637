-- What a terminal is shown of a code or of a file's name.
use Rattle.std.specs.Prelude.{◌≡◌, Bool, false, ◌||◌, List, ◌++◌, ℕ, ◌≤◌, ◌<◌, eqb, ltb, get_or}
use Rattle.std.specs.List.{All}

-- a byte that may do something to a terminal
abbrev pub is_control : ℕ → Bool
is_control b = ltb b 32 || eqb b 127

-- a line goes on from what it was, by bytes none of which is such a byte
pub record Clean (before after : List ℕ) : Type 0 where
  pub shown : List ℕ
  pub goes_on : after ≡ before ++ shown
  pub clean : All (λ (b : ℕ). is_control b ≡ false) shown

-- a line has no such byte from one place up to another, and before the first it is as it was
pub record CleanFrom (before after : List ℕ) (from to : ℕ) : Type 0 where
  pub grown : from ≤ to
  pub kept : (k : ℕ) → k < from → get_or after k 0 ≡ get_or before k 0
  pub clean : (k : ℕ) → from ≤ k → k < to → is_control (get_or after k 0) ≡ false
