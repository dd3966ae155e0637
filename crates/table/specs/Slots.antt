-- The slots that the columns of the cells have together.
use Rattle.std.specs.Prelude.{ℕ, min}

-- cell slots lie in five slices, of which the shortest counts
abbrev pub column_slots : ℕ → ℕ → ℕ → ℕ → ℕ → ℕ
column_slots base link output check depth = min (min (min (min base link) output) check) depth
