-- A table as a list of rows.
use Rattle.std.specs.Prelude.{List, [], ℕ, get_or, replicate}

-- a row of n zeros
abbrev pub zeros : ℕ → List ℕ
zeros n = replicate n 0

-- field j of row i, 0 past the end
abbrev pub field : List (List ℕ) → ℕ → ℕ → ℕ
field rows i j = get_or (get_or rows i []) j 0
