-- What stands in the slots of a column of cells.
use mathlib.Core.Path.{◌≡◌, sym, ◌∙◌}
use mathlib.Core.Bool.{true}
use mathlib.Core.List.{List, map}
use Prim.Native.Nat.{ℕ, ◌-◌, ◌≤◌, ◌<◌}
use native.Mathlib.Omega.{arith}
use lib.ListN.{length, get_or, replicate, length-append, length-map, length-replicate, get_or-append}
use Rattle.plan.specs.Cells.{Cell}
use Rattle.cells.specs.Columns.{column}
use Rattle.std.proofs.lemmas.List.{get_or-map}
use Rattle.table.specs.Readers.{there}
use Rattle.table.proofs.Inside.{there_yes}

module _ (part : Cell → ℕ) (cs : List Cell) (slots : ℕ) where
  pub column_length : length cs ≤ slots → length (column part cs slots) ≡ slots
  column_length h =
      omega (
        arith,
        length-append (map part cs) (replicate (slots - length cs) 0),
        length-map cs part,
        length-replicate {A = ℕ} (slots - length cs) 0,
      )

  -- inside the cells the cell that stands for none is never read
  pub column_at_lem : (d : Cell) (j : ℕ) → j < length cs → get_or (column part cs slots) j 0 ≡ part (get_or cs j d)
  column_at_lem d j h =
      get_or-append (map part cs) (replicate (slots - length cs) 0) 0 j (rw (length-map cs part) h) ∙ get_or-map part cs j d 0 h

  -- a cell is there in a column that has slots for all
  pub column_there : (count j : ℕ) → length cs ≡ count → count ≤ slots → j < count → there count (length (column part cs slots)) j ≡ true
  column_there count j e h l =
      sym (there_yes count (length (column part cs slots)) j l (omega (arith, column_length (omega arith))))
