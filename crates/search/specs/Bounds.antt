-- Bounds of the moves that keep the count within its type. No promise to a user names them: a call's moves are at most twice its place when
-- it begins, and a byte adds at most a state's depth and two.
use Rattle.std.specs.Prelude.{List, ℕ, ◌+◌, ◌*◌, ◌≤◌, length, get_or, Result, Ok, Err}
use Rattle.list.specs.Limits.{most_text}
use Rattle.table.specs.declared.Damage.{Damage}
use Rattle.search.specs.declared.Search.{Search}
use Rattle.search.specs.declared.seek.Sought.{Sought}
use Rattle.search.specs.declared.seek.Sought.TheVariants as sought

-- the most moves before a byte: 2 ^ 62
abbrev pub most_before : ℕ
most_before = 4611686018427387904

-- the most moves before a byte is counted: 2 ^ 63
abbrev pub most_moves : ℕ
most_moves = 9223372036854775808

-- the most moves that a byte adds, whatever width a depth has: 2 ^ 32
abbrev pub most_added : ℕ
most_added = 4294967296

-- the most moves of a value at a place, in a call
abbrev pub most_at : ℕ → ℕ
most_at place = 2 * most_text + place * most_added

-- a depth is far below the bound of moves that a byte may add
abbrev pub Shallow : List ℕ → Type 0
Shallow depth = (i : ℕ) → get_or depth i 0 + 2 ≤ most_added

-- a value lies in the text and has few moves
pub record Bounded (text : List ℕ) (v : Search) : Type 0 where
  pub inside : v.place ≤ length text
  pub few : v.moves ≤ most_at v.place

-- a walk arrives in the text, with few moves, at an output that begins in the text
abbrev pub Arrives : List ℕ → Result Sought Damage → Type 0
Arrives text (Ok (sought.Given row at)) = Bounded text at × (row.length ≤ at.place)
Arrives text (Ok (sought.End at)) = Unit {0}
Arrives text (Err _) = Unit {0}
