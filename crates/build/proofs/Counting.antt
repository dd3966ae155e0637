-- Slots and blocks: which slices a number of cells fits into.
use mathlib.Core.Logic.{◌⊎◌, inl, inr}
use Prim.Native.Nat.{ℕ, ◌*◌, ◌/◌, ◌≤◌, ◌<◌}
use native.Mathlib.Omega.{arith}
use lib.Dec.{ltb}
use Rattle.std.proofs.lemmas.Bool.{ltb-true, ltb-false}
use Rattle.paper.proofs.Tests.{test}
use Rattle.list.specs.Limits.{block, most_cells}
use Rattle.list.proofs.Slots.{smaller_left, smaller_right}
use Rattle.table.specs.Slots.{column_slots}
use Rattle.table.specs.Claims.{Under}
use Rattle.table.proofs.Columns.{under}
use Rattle.build.specs.Lot.{cell_slots}
use Rattle.build.specs.Phases.{blocks_in}

-- a number of cells lies within the chart and within the columns
pub record Lying (n spots base link output check depth : ℕ) : Type 0 where
  pub in_spots : n ≤ spots
  pub columns : Under n base link output check depth

-- the shortest counts
pub lying : (n spots base link output check depth : ℕ) → n ≤ cell_slots spots base link output check depth → Lying n spots base link output check depth
lying n spots base link output check depth h =
    let b = column_slots base link output check depth in
    record { in_spots = omega (arith, smaller_left spots b); columns = under n base link output check depth (omega (arith, smaller_right spots b)) }

pub blocks_room : (slots : ℕ) → (blocks_in slots * block ≤ slots) × (blocks_in slots * block ≤ most_cells)
blocks_room slots =
    test (ltb slots most_cells) (λ h. let l = ltb-true slots most_cells h in rw h (omega arith, omega arith))
    (λ h. let l = ltb-false slots most_cells h in rw h (omega arith, omega arith))

-- more blocks than those are more cells than the slots or than the limit
pub blocks_full : (slots blocks : ℕ) → blocks_in slots < blocks → (slots < blocks * block) ⊎ (most_cells < blocks * block)
blocks_full slots blocks h =
    test (ltb slots most_cells) (λ t. let l = ltb-true slots most_cells t in let x : slots / block < blocks = (rw t at h) in inl (omega (arith, x)))
    (λ t. let x : most_cells / block < blocks = (rw t at h) in inr (omega (arith, x)))
