-- Which row of the tables' refusals is the lowest that applies.
use mathlib.Core.Path.{◌≡◌}
use mathlib.Core.Bool.{true, ◌||◌, or-true}
use mathlib.Core.List.{List}
use mathlib.Core.Logic.{◌⊎◌, ⊎_elim}
use mathlib.Core.Option.{none, some}
use Prim.Native.Nat.{ℕ, ◌≤◌, ◌<◌}
use lib.Dec.{ltb}
use lib.ListN.{length}
use Rattle.paper.specs.Patterns.{Entry}
use Rattle.std.proofs.lemmas.Bool.{lt-ltb, le-ltb}
use Rattle.list.specs.Limits.{most_cells}
use Rattle.list.specs.Refusals.{lowest}
use Rattle.whole.specs.Whole.{state_count, cell_count}
use Rattle.whole.specs.Refusing.{Lent, table_refusals, Suffices}

over : (a b n : ℕ) → (a < n) ⊎ (b < n) → (ltb a n || ltb b n) ≡ true
over a b n q = ⊎_elim (λ h. rw (lt-ltb a n h)) (λ h. rw (lt-ltb b n h) (or-true (ltb a n))) q

module _ (es : List Entry) (lent : Lent) where
  pub lowest_six : lent.states < state_count es → lowest (table_refusals es lent) ≡ some (record { number = 6; index = 0 })
  unfolding table_refusals lowest
  lowest_six h = rw (lt-ltb lent.states (state_count es) h)

  pub lowest_seven : state_count es ≤ lent.states → (lent.cells < cell_count es) ⊎ (most_cells < cell_count es)
      → lowest (table_refusals es lent) ≡ some (record { number = 7; index = 0 })
  unfolding table_refusals lowest
  lowest_seven h q = rw (le-ltb lent.states (state_count es) h, over lent.cells most_cells (cell_count es) q)

  pub lowest_eight : state_count es ≤ lent.states → cell_count es ≤ lent.cells → cell_count es ≤ most_cells → lent.outputs < length es
      → lowest (table_refusals es lent) ≡ some (record { number = 8; index = 0 })
  unfolding table_refusals lowest
  lowest_eight h i j k =
      rw (le-ltb lent.states (state_count es) h, le-ltb lent.cells (cell_count es) i, le-ltb most_cells (cell_count es) j, lt-ltb lent.outputs (length es) k)

  pub lowest_fitting : Suffices es lent → lowest (table_refusals es lent) ≡ none
  unfolding table_refusals lowest
  lowest_fitting F =
      rw (
        le-ltb lent.states (state_count es) F.states,
        le-ltb lent.cells (cell_count es) F.cells,
        le-ltb most_cells (cell_count es) F.most,
        le-ltb lent.outputs (length es) F.outputs,
      )
