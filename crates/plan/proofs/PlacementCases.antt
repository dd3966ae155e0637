-- The computed checks hold.
use mathlib.Core.Path.{refl}
use Rattle.paper.specs.Lists.{same, prefix, those, each}
use Rattle.paper.specs.Patterns.{rows_from}
use Rattle.paper.specs.Automaton.{is_state, own_of, longest_state, failure, begins, before, is_dead, link}
use Rattle.plan.specs.Breadth.{kid_bytes, kids, below, level, breadth}
use Rattle.plan.specs.Outputs.{piled, store, store_all}
use Rattle.plan.specs.Groups.{joined, groups_from, groups}
use Rattle.plan.specs.Placement.{any_of, all_of, sits, taken_cell, used_base, fits, first_where, look, place, place_tasks, base_in}
use Rattle.plan.specs.Placement.{cell_from, child_at, owner_in, owner_of}
use Rattle.plan.specs.Cells.{unused_in, spare_check, last_byte, check_of, cell_at, cells}
use Rattle.plan.specs.PlacementCases.{PlacementCases}

pub placement_cases : PlacementCases
unfolding same prefix those each rows_from is_state own_of longest_state failure begins before is_dead link
    kid_bytes kids below level breadth piled store store_all joined groups_from groups
    any_of all_of sits taken_cell used_base fits first_where look place place_tasks base_in cell_from child_at owner_in owner_of
    unused_in spare_check last_byte check_of cell_at cells
placement_cases = record { p1 = refl; p9 = refl }
