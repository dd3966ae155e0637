-- What is proved of the whole: each claim with its English above it. The proofs stand in ../proofs; `claims` there has them all.
use Rattle.std.specs.Prelude.{List, ℕ, length}
use Rattle.paper.specs.Patterns.{Entry, Kind, Proper}
use Rattle.list.specs.Limits.{alphabet, most_bytes}
use Rattle.plan.specs.Breadth.{Within}
use Rattle.table.specs.Agrees.{Agrees}
use Rattle.whole.specs.Whole.{cell_count, Slots, Enough, tables_of}
use Rattle.whole.specs.CellRules.{CellRules}

-- what is proved of the tables of a build
pub record WholeClaims : Type 0 where
  -- with enough slots they agree with the accepted patterns
  pub agrees : (kind : Kind) (es : List Entry) (values : List ℕ) (n : Slots) → Proper es → Within alphabet most_bytes es → Enough (cell_count es) (length es) n
      → Agrees (tables_of kind es values n) kind es values
  -- their layout and their cells keep document 01's rules
  pub cell_rules : (kind : Kind) (es : List Entry) → Proper es → Within alphabet most_bytes es → CellRules kind es
