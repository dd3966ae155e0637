-- The claims of the promise: when each answer is given, that it is the only one, and that a good build's tables agree.
use mathlib.Core.Path.{◌≡◌, refl, sym, ap, ◌∙◌}
use mathlib.Core.Bool.{true, false, ◌||◌}
use mathlib.Core.List.{List, [], ◌∷◌, ◌++◌}
use mathlib.Core.Logic.{◌⊎◌, inl, inr, ◌↔◌}
use mathlib.Core.Option.{Option, none, some, none-ne-some}
use Prim.Native.Nat.{ℕ, ◌≤◌, ◌<◌}
use native.Mathlib.Omega.{arith}
use lib.Dec.{eqb, ltb}
use lib.ListN.{length, take}
use Rattle.paper.specs.Lists.{pick}
use Rattle.paper.specs.Patterns.{Entry}
use Rattle.std.proofs.lemmas.Bool.{ltb-true, ltb-false, or_parts}
use Rattle.paper.proofs.Tests.{test}
use Rattle.list.specs.Limits.{most_cells}
use Rattle.list.specs.Kinds.{kind_of}
use Rattle.list.specs.Refusals.{Refusal, Told, tells, lowest, any_holds, entry, without, distinct}
use Rattle.list.specs.Listed.{refusals}
use Rattle.list.specs.Claims.{Bytes, Sound}
use Rattle.list.specs.declared.Kind.TheVariants.{Standard}
use Rattle.list.proofs.Refusals.{exactly}
use Rattle.list.proofs.Sound.{fine_sound}
use Rattle.table.specs.Agrees.{Agrees}
use Rattle.nfa.specs.Grown.{accepted_of}
use Rattle.nfa.proofs.Accepted.{within, fit}
use Rattle.list.proofs.Slots.{smaller_right}
use Rattle.cells.specs.Columns.{column}
use Rattle.whole.specs.Whole.{state_count, cell_count, cells_of}
use Rattle.whole.specs.Whole as whole
use Rattle.whole.proofs.Agreement as agreement
use Rattle.whole.specs.Refusing.{Lent, table_refusals, all_refusals, Suffices}
use Rattle.build.specs.Lot.{Lot, slots_of, results_of}
use Rattle.build.specs.Outcome.{Outcome, refused, made, refusal, answer, counts_of, on_refusal, outcome_of}
use Rattle.wipe.specs.Wiped.{blank, blank_rows}
use Rattle.build.specs.Promise.{left, output_rows, Promise}
use Rattle.build.specs.Claims.{AnswerClaims, BuildClaims}
use Rattle.table.specs.declared.Counts.{Counts}
use Rattle.std.specs.Prelude.{Result, Ok, Err}
use Rattle.build.specs.declared.Refusal.{Refusal as Why}
use Rattle.build.specs.declared.Refusal.TheVariants.{BadKind, BadEnds, TooMany, Empty, TooLong, FewStates, FewCells, FewOutputs}
use Rattle.build.proofs.Counting.{lying}
use Rattle.build.proofs.Outcomes.{outcome_made, outcome_caused}
use Rattle.build.proofs.Phasing.{six}

-- ---- outcomes apart

-- the refusal of an outcome
told_of : Outcome → Option Told
told_of (refused t) = some t
told_of (made counts) = none

-- the counts of an outcome, those of nothing for a refusal
counts_in : Outcome → Counts
counts_in (refused t) = record { kind = 0; accepted = 0; states = 0; cells = 0 }
counts_in (made counts) = counts

told_back : (o : Option Told) (counts : Counts) → told_of (on_refusal o (made counts)) ≡ o
unfolding told_of
told_back none counts = refl
told_back (some t) counts = refl

-- where no condition holds nothing is told
quiet : (rs : List Refusal) → any_holds rs ≡ false → lowest rs ≡ none
unfolding any_holds lowest
quiet [] h = refl
quiet (r ∷ rs) h = rw (or_parts r.holds (any_holds rs) h).0 (quiet rs (or_parts r.holds (any_holds rs) h).1)

-- where nothing is told no condition holds
silent : (rs : List Refusal) → lowest rs ≡ none → any_holds rs ≡ false
unfolding any_holds lowest
silent [] e = refl
silent (r ∷ rs) e =
    test r.holds (λ h. absurd (none-ne-some (tells r) (sym (rw h at e)))) (λ h. rw h (silent rs (rw h at e)))

any_append : (rs qs : List Refusal) → any_holds (rs ++ qs) ≡ (any_holds rs || any_holds qs)
unfolding any_holds
any_append [] qs = refl
any_append (r ∷ rs) qs = test r.holds (λ h. rw h) (λ h. rw h (any_append rs qs))

module _ (kind : ℕ) (bytes ends values : List ℕ) (slots : Lent) where
  abbrev es : List Entry
  es = accepted_of kind bytes ends

  told_is : told_of (outcome_of kind bytes ends values slots) ≡ lowest (all_refusals kind bytes ends values slots)
  unfolding outcome_of
  told_is = told_back (lowest (all_refusals kind bytes ends values slots)) (counts_of kind es)

  told : (t : Told) → (outcome_of kind bytes ends values slots ≡ refused t) ↔ (lowest (all_refusals kind bytes ends values slots) ≡ some t)
  unfolding outcome_of told_of
  told t = ((λ e. sym told_is ∙ ap told_of e), λ e. rw e)

  distinct_all : distinct (all_refusals kind bytes ends values slots) ≡ true
  unfolding all_refusals refusals table_refusals distinct without
  distinct_all = refl

  eight_rows : length (all_refusals kind bytes ends values slots) ≡ 8
  unfolding all_refusals refusals table_refusals
  eight_rows = refl

  -- ---- each answer has its cause

  sound_quiet : any_holds (refusals kind bytes ends values) ≡ false → Sound kind bytes ends values
  sound_quiet h = fine_sound kind bytes ends values (Ok Standard) (sym (quiet (refusals kind bytes ends values) h)) refl

  -- the row of a number: its condition holds, and that of no row before it
  row : (k : ℕ) → k < 8 → (i : ℕ) → outcome_of kind bytes ends values slots ≡ refused (record { number = (entry (all_refusals kind bytes ends values slots) k).number; index = i })
      → ((entry (all_refusals kind bytes ends values slots) k).holds ≡ true) × (any_holds (take k (all_refusals kind bytes ends values slots)) ≡ false)
  row k h i e =
      let X = (exactly (all_refusals kind bytes ends values slots) k (rw eight_rows h) distinct_all).only i ((told _).0 e) in
      (X.0, X.1)

  -- the conditions of the first rows, one after the other
  rows_to_six : any_holds (take 5 (all_refusals kind bytes ends values slots)) ≡ any_holds (refusals kind bytes ends values)
  unfolding all_refusals refusals table_refusals
  rows_to_six = refl

  rows_to_seven : any_holds (take 6 (all_refusals kind bytes ends values slots))
      ≡ (any_holds (refusals kind bytes ends values) || any_holds (take 1 (table_refusals es slots)))
  unfolding all_refusals refusals table_refusals
  rows_to_seven = any_append (refusals kind bytes ends values) (take 1 (table_refusals es slots))

  rows_to_eight : any_holds (take 7 (all_refusals kind bytes ends values slots))
      ≡ (any_holds (refusals kind bytes ends values) || any_holds (take 2 (table_refusals es slots)))
  unfolding all_refusals refusals table_refusals
  rows_to_eight = any_append (refusals kind bytes ends values) (take 2 (table_refusals es slots))

  -- the rows of the tables, in numbers
  over_states : (entry (all_refusals kind bytes ends values slots) 5).holds ≡ true → slots.states < state_count es
  unfolding all_refusals refusals table_refusals
  over_states h = ltb-true slots.states (state_count es) h

  within_states : any_holds (take 1 (table_refusals es slots)) ≡ false → state_count es ≤ slots.states
  unfolding table_refusals any_holds
  within_states h = ltb-false slots.states (state_count es) (or_parts (ltb slots.states (state_count es)) false h).0

  over_cells : (entry (all_refusals kind bytes ends values slots) 6).holds ≡ true → (slots.cells < cell_count es) ⊎ (most_cells < cell_count es)
  unfolding all_refusals refusals table_refusals
  over_cells h =
      test (ltb slots.cells (cell_count es)) (λ t. inl (ltb-true slots.cells (cell_count es) t))
      (λ t. inr (ltb-true most_cells (cell_count es) (rw t at h)))

  within_cells : any_holds (take 2 (table_refusals es slots)) ≡ false
      → (state_count es ≤ slots.states) × (cell_count es ≤ slots.cells) × (cell_count es ≤ most_cells)
  unfolding table_refusals any_holds
  within_cells h =
      let six = ltb slots.states (state_count es) in
      let lent = ltb slots.cells (cell_count es) in
      let most = ltb most_cells (cell_count es) in
      let seven = (or_parts (lent || most) false (or_parts six ((lent || most) || false) h).1).0 in (
        ltb-false slots.states (state_count es) (or_parts six ((lent || most) || false) h).0,
        ltb-false slots.cells (cell_count es) (or_parts lent most seven).0,
        ltb-false most_cells (cell_count es) (or_parts lent most seven).1,
      )

  over_outputs : (entry (all_refusals kind bytes ends values slots) 7).holds ≡ true → slots.outputs < length es
  unfolding all_refusals refusals table_refusals
  over_outputs h = ltb-true slots.outputs (length es) h

  six_told : outcome_of kind bytes ends values slots ≡ refusal 6 → Sound kind bytes ends values × (slots.states < state_count es)
  unfolding all_refusals refusals table_refusals
  six_told e = let q = row 5 (omega arith) 0 e in (sound_quiet (sym rows_to_six ∙ q.1), over_states q.0)

  seven_told : outcome_of kind bytes ends values slots ≡ refusal 7
      → Sound kind bytes ends values × (state_count es ≤ slots.states) × ((slots.cells < cell_count es) ⊎ (most_cells < cell_count es))
  unfolding all_refusals refusals table_refusals
  seven_told e =
      let q = row 6 (omega arith) 0 e in
      let none = sym rows_to_seven ∙ q.1 in (
        sound_quiet (or_parts (any_holds (refusals kind bytes ends values)) (any_holds (take 1 (table_refusals es slots))) none).0,
        within_states (or_parts (any_holds (refusals kind bytes ends values)) (any_holds (take 1 (table_refusals es slots))) none).1,
        over_cells q.0,
      )

  eight_told : outcome_of kind bytes ends values slots ≡ refusal 8
      → Sound kind bytes ends values × (state_count es ≤ slots.states) × (cell_count es ≤ slots.cells) × (cell_count es ≤ most_cells) × (slots.outputs < length es)
  unfolding all_refusals refusals table_refusals
  eight_told e =
      let q = row 7 (omega arith) 0 e in
      let none = sym rows_to_eight ∙ q.1 in
      let w = within_cells (or_parts (any_holds (refusals kind bytes ends values)) (any_holds (take 2 (table_refusals es slots))) none).1 in
      (sound_quiet (or_parts (any_holds (refusals kind bytes ends values)) (any_holds (take 2 (table_refusals es slots))) none).0, w.0, w.1, w.2, over_outputs q.0)

  -- a good build: nothing is told
  pub good_told : (counts : Counts) → outcome_of kind bytes ends values slots ≡ made counts → Sound kind bytes ends values × Suffices es slots
  unfolding told_of all_refusals refusals table_refusals any_holds
  good_told counts e =
      let quiet_all = silent (all_refusals kind bytes ends values slots) (sym told_is ∙ ap told_of e) in
      let first = any_holds (refusals kind bytes ends values) in
      let none = sym (any_append (refusals kind bytes ends values) (table_refusals es slots)) ∙ quiet_all in
      let last = (or_parts first (any_holds (table_refusals es slots)) none).1 in
      let six = ltb slots.states (state_count es) in
      let lent = ltb slots.cells (cell_count es) in
      let most = ltb most_cells (cell_count es) in
      let eight = ltb slots.outputs (length es) in
      let after = (or_parts six ((lent || most) || (eight || false)) last).1 in
      let seven = (or_parts (lent || most) (eight || false) after).0 in (
        sound_quiet (or_parts first (any_holds (table_refusals es slots)) none).0,
        record {
          states = ltb-false slots.states (state_count es) (or_parts six ((lent || most) || (eight || false)) last).0;
          cells = ltb-false slots.cells (cell_count es) (or_parts lent most seven).0;
          most = ltb-false most_cells (cell_count es) (or_parts lent most seven).1;
          outputs = ltb-false slots.outputs (length es) (or_parts eight false (or_parts (lent || most) (eight || false) after).1).0;
        },
      )

  pub answer_claims : AnswerClaims kind bytes ends values slots
  answer_claims =
      record {
        lowest_told = told;
        exactly = λ k h. exactly (all_refusals kind bytes ends values slots) k (rw eight_rows h) distinct_all;
        six = (six_told, λ q. outcome_caused kind bytes ends values slots q.0 6 (six es slots q.1));
        seven = (
          seven_told,
          λ q. outcome_caused kind bytes ends values slots q.0 7
              (record {
                known = inr (inl refl);
                six = λ z. absurd (omega (arith, z));
                seven = λ z. (q.1, q.2);
                eight = λ z. absurd (omega (arith, z));
              }),
        );
        eight = (
          eight_told,
          λ q. outcome_caused kind bytes ends values slots q.0 8
              (record {
                known = inr (inr refl);
                six = λ z. absurd (omega (arith, z));
                seven = λ z. absurd (omega (arith, z));
                eight = λ z. (q.1, q.2, q.3, q.4);
              }),
        );
        good = ((λ e. good_told (counts_of kind es) e), λ q. outcome_made kind bytes ends values slots q.0 q.1);
      }

-- ---- one answer only

-- the answer that an outcome stands for
back : Outcome → Result Counts Why
back (made counts) = Ok counts
back (refused t) =
    let n = t.number in
    let i = t.index in
    Err
    (pick (eqb n 1) BadKind
    (pick (eqb n 2) BadEnds
    (pick (eqb n 3) TooMany
    (pick (eqb n 4) (Empty i)
    (pick (eqb n 5) (TooLong i)
    (pick (eqb n 6) FewStates
    (pick (eqb n 7) FewCells FewOutputs)))))))

back_answer : (r : Result Counts Why) → back (answer r) ≡ r
unfolding back
back_answer (Ok counts) = refl
back_answer (Err BadKind) = refl
back_answer (Err BadEnds) = refl
back_answer (Err TooMany) = refl
back_answer (Err (Empty i)) = refl
back_answer (Err (TooLong i)) = refl
back_answer (Err FewStates) = refl
back_answer (Err FewCells) = refl
back_answer (Err FewOutputs) = refl

-- what is left by one outcome is left by an equal one
same_left : {A : Type 0} {o p : Outcome} (was zero good : A) {x y : A} → o ≡ p → x ≡ left o was zero good → y ≡ left p was zero good → x ≡ y
same_left was zero good e f g = f ∙ ap (λ o. left o was zero good) e ∙ sym g

-- what a good build leaves
good_left : {A : Type 0} {o : Outcome} {counts : Counts} (was zero good : A) {x : A} → made counts ≡ o → x ≡ left o was zero good → x ≡ good
good_left was zero good e f = f ∙ ap (λ o. left o was zero good) (sym e)

module _ (kind : ℕ) (bytes ends values : List ℕ) (before : Lot) where
  -- the accepted patterns
  abbrev accepted : List Entry
  accepted = accepted_of kind bytes ends

  module _ {after : Lot} {counts : Counts} (B : Bytes bytes) (P : Promise kind bytes ends values before after (Ok counts)) where
    lent : Lent
    lent = slots_of before

    outcome_here : outcome_of kind bytes ends values lent ≡ made counts
    unfolding lent
    outcome_here = sym P.outcome_is ∙ sym P.answered

    cause : Sound kind bytes ends values × Suffices accepted lent
    cause = good_told kind bytes ends values lent counts outcome_here

    counts_are : counts ≡ counts_of kind accepted
    unfolding counts_in
    counts_are = ap counts_in (sym outcome_here ∙ outcome_made kind bytes ends values lent cause.0 cause.1)

    -- the slots of each result table
    results : whole.Slots
    results = record { base = length before.base; link = length before.link; output = length before.output; check = length before.check; depth = length before.depth; outs = length before.outs }

    enough : whole.Enough (cell_count accepted) (length accepted) results
    unfolding lent results
    enough =
        let F = cause.1 in
        let U = lying (cell_count accepted) (length before.spots) (length before.base) (length before.link) (length before.output) (length before.check) (length before.depth) F.cells in
        record {
          base_room = U.columns.in_base;
          link_room = U.columns.in_link;
          output_room = U.columns.in_output;
          check_room = U.columns.in_check;
          depth_room = U.columns.in_depth;
          outs_room = omega (arith, F.outputs, smaller_right (length before.owns) (length before.outs));
        }

    good_agrees : Agrees (results_of after counts) (kind_of kind) accepted values
    unfolding results
    good_agrees =
        rw (
          good_left before.base (blank before.base) (column (λ x. x.base) (cells_of (kind_of kind) accepted) (length before.base)) P.answered P.base_left_lem,
          good_left before.link (blank before.link) (column (λ x. x.link) (cells_of (kind_of kind) accepted) (length before.link)) P.answered P.link_left,
          good_left before.output (blank before.output) (column (λ x. x.output) (cells_of (kind_of kind) accepted) (length before.output)) P.answered P.output_left,
          good_left before.check (blank before.check) (column (λ x. x.check) (cells_of (kind_of kind) accepted) (length before.check)) P.answered P.check_left,
          good_left before.depth (blank before.depth) (column (λ x. x.depth) (cells_of (kind_of kind) accepted) (length before.depth)) P.answered P.depth_left,
          good_left before.outs (blank_rows 3 before.outs) (output_rows (kind_of kind) accepted values (length before.outs)) P.answered P.outs_left,
          ap (λ (x : Counts). x.cells) counts_are,
          ap (λ (x : Counts). x.accepted) counts_are,
        )
        (agreement.agrees (kind_of kind) accepted values results (fit cause.0) (within cause.0 B) enough)

  pub build_claims : BuildClaims kind bytes ends values before
  build_claims =
      record {
        one_answer = λ after after' r r' P Q.
            sym (back_answer r) ∙ ap back (P.answered ∙ P.outcome_is ∙ sym Q.outcome_is ∙ sym Q.answered) ∙ back_answer r';
        one_lot = λ after after' r r' P Q.
            let e = P.outcome_is ∙ sym Q.outcome_is in
            λ i. record {
              trie = (same_left before.trie (blank_rows 5 before.trie) (blank_rows 5 before.trie) e P.trie_left Q.trie_left) i;
              owns = (same_left before.owns (blank_rows 2 before.owns) (blank_rows 2 before.owns) e P.owns_left Q.owns_left) i;
              notes = (same_left before.notes (blank_rows 6 before.notes) (blank_rows 6 before.notes) e P.notes_left Q.notes_left) i;
              spots = (same_left before.spots (blank_rows 2 before.spots) (blank_rows 2 before.spots) e P.spots_left Q.spots_left) i;
              base = (same_left before.base (blank before.base) (column (λ x. x.base) (cells_of (kind_of kind) accepted) (length before.base)) e P.base_left_lem Q.base_left_lem) i;
              link = (same_left before.link (blank before.link) (column (λ x. x.link) (cells_of (kind_of kind) accepted) (length before.link)) e P.link_left Q.link_left) i;
              output = (same_left before.output (blank before.output) (column (λ x. x.output) (cells_of (kind_of kind) accepted) (length before.output)) e P.output_left Q.output_left) i;
              check = (same_left before.check (blank before.check) (column (λ x. x.check) (cells_of (kind_of kind) accepted) (length before.check)) e P.check_left Q.check_left) i;
              depth = (same_left before.depth (blank before.depth) (column (λ x. x.depth) (cells_of (kind_of kind) accepted) (length before.depth)) e P.depth_left Q.depth_left) i;
              outs = (same_left before.outs (blank_rows 3 before.outs) (output_rows (kind_of kind) accepted values (length before.outs)) e P.outs_left Q.outs_left) i;
            };
        agrees = λ after counts B P. good_agrees B P;
      }
