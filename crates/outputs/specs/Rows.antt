-- Stored outputs as a table has them, a row for each: value, length, place of the next one.
use Rattle.std.specs.Prelude.{List, [], ◌∷◌, map, ℕ, get_or}
use Rattle.plan.specs.Outputs.{Out}

-- the row of an output, with its pattern's value for its pattern's row
abbrev pub out_row : List ℕ → Out → List ℕ
out_row values x = get_or values x.row 0 ∷ x.size ∷ x.next ∷ []

-- the rows of outputs
abbrev pub out_rows : List ℕ → List Out → List (List ℕ)
out_rows values outs = map (out_row values) outs
