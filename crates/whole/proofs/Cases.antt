-- The cases by computing.
use mathlib.Core.Path.{refl}
use Rattle.paper.specs.Lists.{same, prefix, those, each}
use Rattle.paper.specs.Patterns.{rows_from}
use Rattle.paper.specs.Automaton.{is_state, own_of, longest_state, failure, begins, before, is_dead, link}
use Rattle.plan.specs.Names.{has, made, along, names_from, root_and_dead, names}
use Rattle.plan.specs.Breadth.{kid_bytes, kids, below, level, breadth}
use Rattle.plan.specs.Outputs.{piled, store, store_all}
use Rattle.plan.specs.Groups.{joined, groups_from, groups}
use Rattle.plan.specs.Placement.{any_of, all_of, sits, taken_cell, used_base, fits, first_where, look, place, place_tasks, base_in}
use Rattle.plan.specs.Placement.{cell_from, child_at, owner_in, owner_of}
use Rattle.plan.specs.Cells.{unused_in, spare_check, last_byte, check_of, cell_at, cells}
use Rattle.whole.specs.Cases.{WholeCases}

pub cases : WholeCases
unfolding same prefix those each rows_from is_state own_of longest_state failure begins before is_dead link
    has made along names_from root_and_dead names
    kid_bytes kids below level breadth piled store store_all joined groups_from groups
    any_of all_of sits taken_cell used_base fits first_where look place place_tasks base_in cell_from child_at owner_in owner_of
    unused_in spare_check last_byte check_of cell_at cells
cases = record { p1_states = refl; p1_cell_count = refl; p1_cells = refl; p1_outputs = refl; p9_states = refl; p9_cell_count = refl }
