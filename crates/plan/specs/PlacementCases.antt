-- Computed checks of the definitions: the cells of document 01's case P1, all 256 of them, with output places; and P9's block.
use Rattle.std.specs.Prelude.{◌≡◌, [], ◌∷◌, ℕ}
use Rattle.paper.specs.Lists.{each}
use Rattle.paper.specs.Patterns.{standard, rows}
use Rattle.paper.specs.Automaton.{Machine, machine, is_state, link}
use Rattle.paper.specs.Cases.{list1}
use Rattle.plan.specs.Breadth.{breadth}
use Rattle.plan.specs.Outputs.{Stored, store_all, nothing}
use Rattle.plan.specs.Groups.{groups}
use Rattle.plan.specs.Placement.{Layout, one_block, window_start, place_all}
use Rattle.plan.specs.Cells.{Cell, cells}

-- the machine of bcd, ab, a
abbrev pub machine1 : Machine
machine1 = machine standard (rows list1)

-- its layout: 256 letters, a window of 16 blocks, no state longer than 3
abbrev pub layout1 : Layout
layout1 = place_all 256 (window_start 16) one_block (groups 256 machine1.is_state 3)

-- its stored outputs
abbrev pub stored1 : Stored
stored1 = store_all machine1 nothing (breadth 256 machine1.is_state 3)

-- a cell as document 01 prints it: base, failure, output, check, depth
abbrev pub cell : ℕ → ℕ → ℕ → ℕ → ℕ → Cell
cell b f o c d = record { base = b; link = f; output = o; check = c; depth = d }

-- P1's cells, and P9's one block
pub record PlacementCases : Type 0 where
  pub p1 : cells 256 layout1 (link machine1) stored1.place
      ≡ cell 101 0 0 0 0
      ∷ cell 0 0 0 1 0
      ∷ cell 103 0 0 99 2
      ∷ cell 0 0 3 100 3
      ∷ cell 100 0 1 97 1
      ∷ cell 0 0 0 5 0
      ∷ cell 0 7 2 98 2
      ∷ cell 97 0 0 98 1
      ∷ each 8 248 (λ j. cell 0 0 0 j 0 ∷ [])
  pub p9 : (place_all 256 (window_start 16) one_block (groups 256 (is_state []) 0)).blocks ≡ 1
