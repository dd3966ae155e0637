-- Computed checks of the definitions: what a build makes in document 01's cases P1 and P9.
use Rattle.std.specs.Prelude.{◌≡◌, [], ◌∷◌}
use Rattle.paper.specs.Lists.{each}
use Rattle.paper.specs.Patterns.{standard, rows}
use Rattle.paper.specs.Cases.{list1, values3}
use Rattle.plan.specs.PlacementCases.{cell}
use Rattle.whole.specs.Whole.{state_count, cell_count, cells_of, outputs_of}

-- P1's counts, cells and outputs, and P9's counts; dead is counted among the states here
pub record WholeCases : Type 0 where
  pub p1_states : state_count (rows list1) ≡ 7
  pub p1_cell_count : cell_count (rows list1) ≡ 256
  pub p1_cells : cells_of standard (rows list1)
      ≡ cell 101 0 0 0 0
      ∷ cell 0 0 0 1 0
      ∷ cell 103 0 0 99 2
      ∷ cell 0 0 3 100 3
      ∷ cell 100 0 1 97 1
      ∷ cell 0 0 0 5 0
      ∷ cell 0 7 2 98 2
      ∷ cell 97 0 0 98 1
      ∷ each 8 248 (λ j. cell 0 0 0 j 0 ∷ [])
  pub p1_outputs : outputs_of standard (rows list1) values3
      ≡ (2 ∷ 1 ∷ 0 ∷ []) ∷ (1 ∷ 2 ∷ 0 ∷ []) ∷ (0 ∷ 3 ∷ 0 ∷ []) ∷ []
  pub p9_states : state_count [] ≡ 2
  pub p9_cell_count : cell_count [] ≡ 256
