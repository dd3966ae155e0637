-- What is lent to a build to write, as one lot: four working tables, the columns of the cells, and the outputs. A build's promise speaks of
-- the lot before and the lot after.
use Rattle.std.specs.Prelude.{List, ℕ, length}
use Rattle.list.specs.Limits.{smaller}
use Rattle.table.specs.Slots.{column_slots}
use Rattle.table.specs.Agrees.{Tables}
use Rattle.table.specs.declared.Counts.{Counts}
use Rattle.whole.specs.Refusing.{Lent}

-- the ten tables
pub record Lot : Type 0 where
  pub trie : List (List ℕ)
  pub owns : List (List ℕ)
  pub notes : List (List ℕ)
  pub spots : List (List ℕ)
  pub base : List ℕ
  pub link : List ℕ
  pub output : List ℕ
  pub check : List ℕ
  pub depth : List ℕ
  pub outs : List (List ℕ)

-- these tables as a lot
abbrev pub lot_of : List (List ℕ) → List (List ℕ) → List (List ℕ) → List (List ℕ)
    → List ℕ → List ℕ → List ℕ → List ℕ → List ℕ → List (List ℕ) → Lot
lot_of trie owns notes spots base link output check depth outs =
    record {
      trie = trie;
      owns = owns;
      notes = notes;
      spots = spots;
      base = base;
      link = link;
      output = output;
      check = check;
      depth = depth;
      outs = outs;
    }

-- where the cell slots lie in several slices, the shortest counts
abbrev pub cell_slots : ℕ → ℕ → ℕ → ℕ → ℕ → ℕ → ℕ
cell_slots spots base link output check depth = smaller spots (column_slots base link output check depth)

-- the slots of a lot
abbrev pub slots_of : Lot → Lent
slots_of l =
    record {
      states = smaller (length l.trie) (length l.notes);
      cells = cell_slots (length l.spots) (length l.base) (length l.link) (length l.output) (length l.check) (length l.depth);
      outputs = smaller (length l.owns) (length l.outs);
    }

-- what a search is lent of it, with the counts of the build
abbrev pub results_of : Lot → Counts → Tables
results_of l counts =
    record {
      base = l.base;
      link = l.link;
      output = l.output;
      check = l.check;
      depth = l.depth;
      outs = l.outs;
      cells = counts.cells;
      accepted = counts.accepted;
    }
