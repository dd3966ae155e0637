-- The kinds by their numbers.
use Rattle.std.specs.Prelude.{ℕ, zero, suc}
use Rattle.paper.specs.Patterns.{Kind, standard, leftmost, longest, first}

-- 0 is Standard, 1 LeftmostLongest, 2 LeftmostFirst; a number above the last is refused before it is asked for
abbrev pub kind_of : ℕ → Kind
kind_of zero = standard
kind_of (suc zero) = leftmost longest
kind_of (suc (suc n)) = leftmost first
