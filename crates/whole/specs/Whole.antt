-- What a build makes of the accepted patterns of a kind: its states, its layout, its cells and its outputs, and the tables that hold them.
use Rattle.std.specs.Prelude.{List, ◌++◌, ℕ, ◌*◌, ◌-◌, ◌≤◌, length, replicate}
use Rattle.zeros.specs.Rows.{zeros}
use Rattle.paper.specs.Patterns.{Entry, Kind}
use Rattle.paper.specs.Automaton.{machine, link}
use Rattle.list.specs.Limits.{alphabet, block}
use Rattle.plan.specs.Names.{names}
use Rattle.plan.specs.Placement.{Layout}
use Rattle.plan.specs.Cells.{Cell, cells}
use Rattle.groups.specs.Ordered.{groups_of}
use Rattle.outputs.specs.Rows.{out_rows}
use Rattle.outputs.specs.Placed.{all_stored}
use Rattle.placement.specs.Laid.{laid_out}
use Rattle.cells.specs.Columns.{column}
use Rattle.table.specs.Agrees.{Tables}

-- how many states there are, root and dead counted
abbrev pub state_count : List Entry → ℕ
state_count es = length (names alphabet es)

-- the layout of their groups, taken depth first
abbrev pub layout_of : List Entry → Layout
layout_of es = laid_out (groups_of es)

-- how many cells the layout needs
abbrev pub cell_count : List Entry → ℕ
cell_count es = (layout_of es).blocks * block

-- the cells
abbrev pub cells_of : Kind → List Entry → List Cell
cells_of kind es = cells block (layout_of es) (link (machine kind es)) (all_stored kind es).place

-- the rows of the outputs: value, length, next place
abbrev pub outputs_of : Kind → List Entry → List ℕ → List (List ℕ)
outputs_of kind es values = out_rows values (all_stored kind es).outs

-- the slots of the tables that a build writes
pub record Slots : Type 0 where
  pub base : ℕ
  pub link : ℕ
  pub output : ℕ
  pub check : ℕ
  pub depth : ℕ
  pub outs : ℕ

-- there is a slot for each of so many cells and of so many outputs
pub record Enough (cells accepted : ℕ) (n : Slots) : Type 0 where
  pub base_room : cells ≤ n.base
  pub link_room : cells ≤ n.link
  pub output_room : cells ≤ n.output
  pub check_room : cells ≤ n.check
  pub depth_room : cells ≤ n.depth
  pub outs_room : accepted ≤ n.outs

-- the tables with these cells in columns and these outputs in rows, and 0 in all slots past them
abbrev pub tables_with : List Cell → ℕ → List (List ℕ) → ℕ → Slots → Tables
tables_with cs cells rows accepted n =
    record {
      base = column (λ x. x.base) cs n.base;
      link = column (λ x. x.link) cs n.link;
      output = column (λ x. x.output) cs n.output;
      check = column (λ x. x.check) cs n.check;
      depth = column (λ x. x.depth) cs n.depth;
      outs = rows ++ replicate (n.outs - accepted) (zeros 3);
      cells = cells;
      accepted = accepted;
    }

-- the tables of a build
abbrev pub tables_of : Kind → List Entry → List ℕ → Slots → Tables
tables_of kind es values n = tables_with (cells_of kind es) (cell_count es) (outputs_of kind es values) (length es) n
