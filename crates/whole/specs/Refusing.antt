-- Refusals 1 to 8 of document 01 as one list of number, condition and index, over what a build makes and the slots that are lent.
use Rattle.std.specs.Prelude.{◌||◌, List, [], ◌∷◌, ◌++◌, ℕ, ◌≤◌, ltb, length}
use Rattle.paper.specs.Patterns.{Entry}
use Rattle.list.specs.Limits.{most_cells}
use Rattle.list.specs.Refusals.{Refusal, plainly}
use Rattle.list.specs.Listed.{refusals}
use Rattle.nfa.specs.Grown.{accepted_of}
use Rattle.whole.specs.Whole.{state_count, cell_count}

-- how many slots of states, of cells and of outputs there are
pub record Lent : Type 0 where
  pub states : ℕ
  pub cells : ℕ
  pub outputs : ℕ

-- document 01's table, 6 to 8
unfoldable pub table_refusals : List Entry → Lent → List Refusal
table_refusals es slots =
    plainly 6 (ltb slots.states (state_count es))
    ∷ plainly 7 (ltb slots.cells (cell_count es) || ltb most_cells (cell_count es))
    ∷ plainly 8 (ltb slots.outputs (length es))
    ∷ []

-- document 01's table, 1 to 8
unfoldable pub all_refusals : ℕ → List ℕ → List ℕ → List ℕ → Lent → List Refusal
all_refusals kind bytes ends values slots = refusals kind bytes ends values ++ table_refusals (accepted_of kind bytes ends) slots

-- the slots suffice
pub record Suffices (es : List Entry) (slots : Lent) : Type 0 where
  pub states : state_count es ≤ slots.states
  pub cells : cell_count es ≤ slots.cells
  pub most : cell_count es ≤ most_cells
  pub outputs : length es ≤ slots.outputs
