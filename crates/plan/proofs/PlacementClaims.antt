-- All claims hold: each field cites the law that proves it.
use Rattle.plan.specs.Placement.{one_block}
use Rattle.plan.specs.PlacementClaims.{PlacementClaims}
use Rattle.plan.proofs.Groups.{grouping, groups_after, flat_root, flat_pop}
use Rattle.plan.proofs.Layouts.{fits_is, begun_good, base_alone, cell_alone, child_inside, base_block}
use Rattle.plan.proofs.Placement.{place_cases, place_added, place_blocks, tasks_prefix, tasks_groups, tasks_good}
use Rattle.plan.proofs.Blocks.{full_block, block_zero, unused_some}
use Rattle.plan.proofs.Owners.{tasks_full, cell_child, probe_within, base_zero, cell_once, cell_within, zero_root, dead_free}
use Rattle.plan.proofs.Cells.{probe_exact, vacant_check, low_check, cell_check, child_check, state_cell_lem, vacant_cell, dead_cell}

pub placement : PlacementClaims
placement =
    record {
      grouping = grouping;
      parents_first = groups_after;
      stacked = flat_root;
      popped = flat_pop;
      fitting = fits_is;
      chosen = place_cases;
      added = place_added;
      one_block_lem = place_blocks;
      prefix = tasks_prefix;
      placed = λ a A ts. tasks_groups a A one_block ts (begun_good a);
      good = λ a A ts. tasks_good a A one_block ts (begun_good a);
      base_alone = base_alone;
      cell_alone = cell_alone;
      child_inside = child_inside;
      base_inside = base_block;
      filled = full_block;
      block_zero = block_zero;
      smallest = unused_some;
      full = tasks_full;
      probe = probe_exact;
      probe_within = probe_within;
      child = cell_child;
      childless = base_zero;
      different = cell_once;
      within = cell_within;
      root_alone = zero_root;
      dead_alone = dead_free;
      vacant_check = vacant_check;
      low_check = low_check;
      cell_check = cell_check;
      child_check = child_check;
      state_cell_lem = state_cell_lem;
      vacant_cell = vacant_cell;
      dead_cell = dead_cell;
    }
