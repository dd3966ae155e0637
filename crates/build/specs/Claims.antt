-- What is proved of the promise of `build`: when each answer is given, that no second answer or lot could meet it, and that the tables of a
-- good build agree with the accepted patterns. The proofs stand in ../proofs; `claims` there has them all.
use Rattle.std.specs.Prelude.{◌≡◌, List, ◌⊎◌, ◌↔◌, ℕ, ◌≤◌, ◌<◌, length, Result, Ok}
use Rattle.std.proofs.Math.Option.{some}
use Rattle.list.specs.Limits.{most_cells}
use Rattle.list.specs.Kinds.{kind_of}
use Rattle.list.specs.Refusals.{Told, lowest, Exactly}
use Rattle.list.specs.Claims.{Bytes, Sound}
use Rattle.table.specs.Agrees.{Agrees}
use Rattle.nfa.specs.Grown.{accepted_of}
use Rattle.whole.specs.Whole.{state_count, cell_count}
use Rattle.whole.specs.Refusing.{Lent, all_refusals, Suffices}
use Rattle.build.specs.Lot.{Lot, results_of}
use Rattle.build.specs.Outcome.{refused, made, refusal, counts_of, outcome_of}
use Rattle.build.specs.Promise.{Promise}
use Rattle.table.specs.declared.Counts.{Counts}
use Rattle.build.specs.declared.Refusal.{Refusal}

-- when each answer is given
pub record AnswerClaims (kind : ℕ) (bytes ends values : List ℕ) (slots : Lent) : Type 0 where
  -- a refusal is told exactly if it is the lowest that applies
  pub lowest_told : (t : Told) → (outcome_of kind bytes ends values slots ≡ refused t) ↔ (lowest (all_refusals kind bytes ends values slots) ≡ some t)
  -- each number is told exactly when the condition of its row holds and none of a row before it does, 4 and 5 with their index
  pub exactly : (k : ℕ) → k < 8 → Exactly (all_refusals kind bytes ends values slots) k
  -- 6: the list is sound, and the trie states, root and dead counted, exceed the state slots lent
  pub six : (outcome_of kind bytes ends values slots ≡ refusal 6)
      ↔ (Sound kind bytes ends values × (slots.states < state_count (accepted_of kind bytes ends)))
  -- 7: they don't, and the placement needs more cells than lent, or than the limit
  pub seven : (outcome_of kind bytes ends values slots ≡ refusal 7)
      ↔ (Sound kind bytes ends values × (state_count (accepted_of kind bytes ends) ≤ slots.states)
      × ((slots.cells < cell_count (accepted_of kind bytes ends)) ⊎ (most_cells < cell_count (accepted_of kind bytes ends))))
  -- 8: it doesn't, and the accepted patterns exceed the output slots lent
  pub eight : (outcome_of kind bytes ends values slots ≡ refusal 8)
      ↔ (Sound kind bytes ends values × (state_count (accepted_of kind bytes ends) ≤ slots.states) × (cell_count (accepted_of kind bytes ends) ≤ slots.cells)
      × (cell_count (accepted_of kind bytes ends) ≤ most_cells) × (slots.outputs < length (accepted_of kind bytes ends)))
  -- a good build: the list is sound and the slots suffice
  pub good : (outcome_of kind bytes ends values slots ≡ made (counts_of kind (accepted_of kind bytes ends)))
      ↔ (Sound kind bytes ends values × Suffices (accepted_of kind bytes ends) slots)

-- of the promise for these inputs and this lot before
pub record BuildClaims (kind : ℕ) (bytes ends values : List ℕ) (before : Lot) : Type 0 where
  -- no second answer could meet it
  pub one_answer : (after after' : Lot) (r r' : Result Counts Refusal) → Promise kind bytes ends values before after r → Promise kind bytes ends values before after' r' → r ≡ r'
  -- and no second lot of tables
  pub one_lot : (after after' : Lot) (r r' : Result Counts Refusal) → Promise kind bytes ends values before after r → Promise kind bytes ends values before after' r' → after ≡ after'
  -- the tables of a good build agree with the accepted patterns
  pub agrees : (after : Lot) (counts : Counts) → Bytes bytes → Promise kind bytes ends values before after (Ok counts)
      → Agrees (results_of after counts) (kind_of kind) (accepted_of kind bytes ends) values
