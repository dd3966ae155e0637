-- The number that digits spell.
use Rattle.std.specs.Prelude.{Bool, true, ◌&&◌, not, List, [], ◌∷◌, ℕ, ◌+◌, ◌-◌, ◌*◌, leb, Option, Some, None}
use Rattle.paper.specs.Lists.{pick, is_nil}

-- the largest value
abbrev pub most_value : ℕ
most_value = 4294967295

-- a byte is one of the digits 0 to 9
abbrev pub is_digit : ℕ → Bool
is_digit b = leb 48 b && leb b 57

-- every byte is a digit
unfoldable pub all_digits : List ℕ → Bool
all_digits [] = true
all_digits (b ∷ bs) = is_digit b && all_digits bs

-- the number n with further decimal digits behind it
unfoldable pub decimal_from : ℕ → List ℕ → ℕ
decimal_from n [] = n
decimal_from n (b ∷ bs) = decimal_from (n * 10 + (b - 48)) bs

-- the number that bytes spell: none where there are none, where one is no digit, or above the largest value
abbrev pub number_of : List ℕ → Option ℕ
number_of bs = pick (not (is_nil bs) && (all_digits bs && leb (decimal_from 0 bs) most_value)) (Some (decimal_from 0 bs)) None
