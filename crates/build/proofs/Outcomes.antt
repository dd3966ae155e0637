-- The outcome by its cases: what is told of a list that is not sound, and of a sound one by its slots.
use mathlib.Core.Path.{◌≡◌, sym, ap, ◌∙◌}
use mathlib.Core.List.{List}
use mathlib.Core.Logic.{◌⊎◌, ⊎_elim}
use mathlib.Core.Option.{some}
use Prim.Native.Nat.{ℕ, ◌≤◌, ◌<◌}
use lib.ListN.{length}
use Rattle.paper.specs.Patterns.{Entry}
use Rattle.list.specs.Limits.{most_cells}
use Rattle.list.specs.Refusals.{Told, lowest}
use Rattle.list.specs.Listed.{refusals}
use Rattle.list.specs.Claims.{Sound}
use Rattle.list.proofs.Refusals.{lowest_some, lowest_none}
use Rattle.list.proofs.Sound.{sound_untold}
use Rattle.nfa.specs.Grown.{accepted_of}
use Rattle.whole.specs.Whole.{state_count, cell_count}
use Rattle.whole.specs.Refusing.{Lent, table_refusals, all_refusals, Suffices}
use Rattle.whole.proofs.Refusing.{lowest_six, lowest_seven, lowest_eight, lowest_fitting}
use Rattle.build.specs.Outcome.{refused, made, refusal, counts_of, on_refusal, outcome_of}
use Rattle.build.specs.Phases.{Caused}

module _ (kind : ℕ) (bytes ends values : List ℕ) (slots : Lent) where
  -- ---- a list that is refused

  pub outcome_listed : (t : Told) → lowest (refusals kind bytes ends values) ≡ some t → outcome_of kind bytes ends values slots ≡ refused t
  unfolding outcome_of all_refusals
  outcome_listed t e = rw (lowest_some (refusals kind bytes ends values) (table_refusals (accepted_of kind bytes ends) slots) t e)

  -- ---- a sound one

  module _ (S : Sound kind bytes ends values) where
    abbrev es : List Entry
    es = accepted_of kind bytes ends

    by_table : outcome_of kind bytes ends values slots ≡ on_refusal (lowest (table_refusals es slots)) (made (counts_of kind es))
    unfolding outcome_of all_refusals
    by_table = rw (lowest_none (refusals kind bytes ends values) (table_refusals es slots) (sym (sound_untold kind bytes ends values S)))

    outcome_six : slots.states < state_count es → outcome_of kind bytes ends values slots ≡ refusal 6
    outcome_six h = by_table ∙ ap (λ o. on_refusal o (made (counts_of kind es))) (lowest_six es slots h)

    outcome_seven : state_count es ≤ slots.states → (slots.cells < cell_count es) ⊎ (most_cells < cell_count es) → outcome_of kind bytes ends values slots ≡ refusal 7
    outcome_seven h q = by_table ∙ ap (λ o. on_refusal o (made (counts_of kind es))) (lowest_seven es slots h q)

    outcome_eight : state_count es ≤ slots.states → cell_count es ≤ slots.cells → cell_count es ≤ most_cells → slots.outputs < length es
        → outcome_of kind bytes ends values slots ≡ refusal 8
    outcome_eight h i j k = by_table ∙ ap (λ o. on_refusal o (made (counts_of kind es))) (lowest_eight es slots h i j k)

    pub outcome_made : Suffices es slots → outcome_of kind bytes ends values slots ≡ made (counts_of kind es)
    outcome_made F = by_table ∙ ap (λ o. on_refusal o (made (counts_of kind es))) (lowest_fitting es slots F)

    -- a refusal with its cause is told
    pub outcome_caused : (n : ℕ) → Caused es slots n → outcome_of kind bytes ends values slots ≡ refusal n
    outcome_caused n C =
        ⊎_elim (λ e. rw e (outcome_six (C.six e)))
        (⊎_elim (λ e. let q = C.seven e in rw e (outcome_seven q.0 q.1))
        (λ e. let q = C.eight e in rw e (outcome_eight q.0 q.1 q.2 q.3))) C.known
