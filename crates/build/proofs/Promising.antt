-- The promise from what the phases answered and what the wipes left.
use mathlib.Core.Path.{◌≡◌, refl, sym, ap, ◌∙◌, subst}
use mathlib.Core.Bool.{true, false}
use mathlib.Core.List.{List}
use mathlib.Core.Logic.{⊎_elim}
use mathlib.Core.Option.{some}
use native.Mathlib.Omega.{arith}
use Prim.Native.Nat.{ℕ, ◌≤◌}
use lib.Dec.{leb}
use lib.ListN.{length, replicate}
use Rattle.zeros.specs.Rows.{zeros}
use Rattle.paper.specs.Lists.{pick}
use Rattle.std.proofs.lemmas.Bool.{le-leb}
use Rattle.paper.proofs.Tests.{clash}
use Rattle.list.specs.Kinds.{kind_of}
use Rattle.list.specs.Refusals.{Told, lowest}
use Rattle.list.specs.Listed.{refusals}
use Rattle.list.specs.Claims.{Sound}
use Rattle.nfa.specs.Grown.{accepted_of}
use Rattle.whole.specs.Refusing.{Lent, Suffices}
use Rattle.build.specs.Lot.{Lot, lot_of, slots_of}
use Rattle.build.specs.Outcome.{TableRefusal, refused, made, refusal, answer, of_list, counts_of}
use Rattle.wipe.specs.Wiped.{WorkingZero, ResultsZero}
use Rattle.build.specs.Phases.{Filled, AllDone, Caused, PhasesOk}
use Rattle.build.specs.Promise.{Promise}
use Rattle.list.specs.Answers.{told}
use Rattle.list.specs.declared.Refusal.{Refusal as Unsound}
use Rattle.list.specs.declared.SoundList.{SoundList}
use Rattle.list.specs.declared.Refusal.TheVariants as list
use Rattle.table.specs.declared.Counts.{Counts}
use Rattle.build.specs.declared.Refusal.{Refusal}
use Rattle.std.specs.Prelude.{Result, Ok, Err, is_err}
use Rattle.build.proofs.Outcomes.{outcome_listed, outcome_made, outcome_caused}

-- ---- zero tables

-- a table that is zero as another is, and as long as a third, is that one's zero
pub zero_of : {A : Type 0} (z : A) (table other zero : List A) → zero ≡ replicate (length other) z → length other ≡ length table
    → zero ≡ replicate (length table) z
zero_of z table other zero e l = e ∙ ap (λ (n : ℕ). replicate n z) l

-- ---- lots as long

-- the tables of one lot are as long as those of another
pub record AsLong (x y : Lot) : Type 0 where
  pub trie_long : length x.trie ≡ length y.trie
  pub owns_long : length x.owns ≡ length y.owns
  pub notes_long : length x.notes ≡ length y.notes
  pub spots_long : length x.spots ≡ length y.spots
  pub base_long : length x.base ≡ length y.base
  pub link_long : length x.link ≡ length y.link
  pub output_long : length x.output ≡ length y.output
  pub check_long : length x.check ≡ length y.check
  pub depth_long : length x.depth ≡ length y.depth
  pub outs_long : length x.outs ≡ length y.outs

-- so they have as many slots
same_slots : (x y : Lot) → AsLong x y → slots_of x ≡ slots_of y
same_slots x y L =
    rw (
      L.trie_long,
      L.owns_long,
      L.notes_long,
      L.spots_long,
      L.base_long,
      L.link_long,
      L.output_long,
      L.check_long,
      L.depth_long,
      L.outs_long,
    )

-- ---- what is left

-- a refusal for the tables is above 5, so a table is zero
wiped_left : {A : Type 0} (n : ℕ) → TableRefusal n → (was zero : A) {table : A} → table ≡ zero → table ≡ pick (leb n 5) was zero
wiped_left n q was zero e = ⊎_elim (λ f. rw f e) (⊎_elim (λ f. rw f e) (λ f. rw f e)) q

-- one for the list is not, so it is as it was
kept_left : {A : Type 0} (n : ℕ) → n ≤ 5 → (was zero : A) → was ≡ pick (leb n 5) was zero
kept_left n h was zero = rw (le-leb n 5 h)

module _ {kind : ℕ} {bytes ends values : List ℕ} where
  -- the lots as they were lent, as the phases get them and as they leave them; then the working tables are wiped
  module _ {before blanked done : Lot} {trie owns notes spots : List (List ℕ)} (S : Sound kind bytes ends values) (B : AsLong blanked before) (L : AsLong done before)
      (W : WorkingZero done.trie done.owns done.notes done.spots trie owns notes spots) where
    -- ---- a good build

    promise_made : {counts : Counts} → AllDone kind bytes ends values blanked done counts
        → Promise kind bytes ends values before
        (lot_of trie owns notes spots done.base done.link done.output done.check done.depth done.outs)
        (Ok counts)
    promise_made {counts} D =
        let F : Filled (kind_of kind) (accepted_of kind bytes ends) values before done counts.accepted = as_long D.filled in
        record {
          outcome = made (counts_of kind (accepted_of kind bytes ends));
          outcome_is =
              sym (outcome_made kind bytes ends values _ S (subst (Suffices (accepted_of kind bytes ends)) (same_slots blanked before B) D.fits));
          answered = ap made D.counts_are;
          trie_left = zero_of (zeros 5) before.trie done.trie trie W.trie_zero L.trie_long;
          owns_left = zero_of (zeros 2) before.owns done.owns owns W.owns_zero L.owns_long;
          notes_left = zero_of (zeros 6) before.notes done.notes notes W.notes_zero L.notes_long;
          spots_left = zero_of (zeros 2) before.spots done.spots spots W.spots_zero L.spots_long;
          base_left_lem = F.columns.bases;
          link_left = F.columns.links;
          output_left = F.columns.outputs;
          check_left = F.columns.checks;
          depth_left = F.columns.depths;
          outs_left = F.rows;
        }
      where
        as_long : Filled (kind_of kind) (accepted_of kind bytes ends) values blanked done counts.accepted → Filled (kind_of kind) (accepted_of kind bytes ends) values before done counts.accepted
        as_long F =
            record {
              count_is = F.count_is;
              columns = rw (B.base_long, B.link_long, B.output_long, B.check_long, B.depth_long) at F.columns;
              rows = rw B.outs_long at F.rows;
            }

    -- ---- a refusal for the tables: the results are wiped too

    promise_few : {base link output check depth : List ℕ} {outs : List (List ℕ)}
        → ResultsZero done.base done.link done.output done.check done.depth done.outs base link output check depth outs
        → (why : Refusal) → PhasesOk kind bytes ends values blanked done (Err why)
        → Promise kind bytes ends values before (lot_of trie owns notes spots base link output check depth outs) (Err why)
    promise_few {base} {link} {output} {check} {depth} {outs} R why (number, a, C) =
        record {
          outcome = refusal number;
          outcome_is =
              sym
              (outcome_caused kind bytes ends values _ S number
              (subst (λ (x : Lent). Caused (accepted_of kind bytes ends) x number) (same_slots blanked before B) C));
          answered = a;
          trie_left = wiped_left number C.known before.trie _ (zero_of (zeros 5) before.trie done.trie trie W.trie_zero L.trie_long);
          owns_left = wiped_left number C.known before.owns _ (zero_of (zeros 2) before.owns done.owns owns W.owns_zero L.owns_long);
          notes_left = wiped_left number C.known before.notes _ (zero_of (zeros 6) before.notes done.notes notes W.notes_zero L.notes_long);
          spots_left = wiped_left number C.known before.spots _ (zero_of (zeros 2) before.spots done.spots spots W.spots_zero L.spots_long);
          base_left_lem = wiped_left number C.known before.base _ (zero_of 0 before.base done.base base R.base_zero L.base_long);
          link_left = wiped_left number C.known before.link _ (zero_of 0 before.link done.link link R.link_zero L.link_long);
          output_left = wiped_left number C.known before.output _ (zero_of 0 before.output done.output output R.output_zero L.output_long);
          check_left = wiped_left number C.known before.check _ (zero_of 0 before.check done.check check R.check_zero L.check_long);
          depth_left = wiped_left number C.known before.depth _ (zero_of 0 before.depth done.depth depth R.depth_zero L.depth_long);
          outs_left = wiped_left number C.known before.outs _ (zero_of (zeros 3) before.outs done.outs outs R.outs_zero L.outs_long);
        }

    -- ---- by the answer of the phases: a refusal has the results wiped, and a good build has not

    pub promise_refused : {base link output check depth : List ℕ} {outs : List (List ℕ)}
        → ResultsZero done.base done.link done.output done.check done.depth done.outs base link output check depth outs
        → (r : Result Counts Refusal) → PhasesOk kind bytes ends values blanked done r → is_err r ≡ true
        → Promise kind bytes ends values before (lot_of trie owns notes spots base link output check depth outs) r
    promise_refused R (Ok counts) D e = clash e refl
    promise_refused R (Err why) C e = promise_few R why C

    pub promise_good : (r : Result Counts Refusal) → PhasesOk kind bytes ends values blanked done r → is_err r ≡ false
        → Promise kind bytes ends values before (lot_of trie owns notes spots done.base done.link done.output done.check done.depth done.outs) r
    promise_good (Ok counts) D e = promise_made D
    promise_good (Err why) C e = clash refl e

  -- ---- a refusal for the list: nothing is changed

  promise_listed : {lot : Lot} (t : Told) → t.number ≤ 5 → lowest (refusals kind bytes ends values) ≡ some t → (r : Result Counts Refusal) → answer r ≡ refused t
      → Promise kind bytes ends values lot lot r
  promise_listed {lot} t h e r a =
      record {
        outcome = refused t;
        outcome_is = sym (outcome_listed kind bytes ends values _ t e);
        answered = a;
        trie_left = kept_left t.number h lot.trie _;
        owns_left = kept_left t.number h lot.owns _;
        notes_left = kept_left t.number h lot.notes _;
        spots_left = kept_left t.number h lot.spots _;
        base_left_lem = kept_left t.number h lot.base _;
        link_left = kept_left t.number h lot.link _;
        output_left = kept_left t.number h lot.output _;
        check_left = kept_left t.number h lot.check _;
        depth_left = kept_left t.number h lot.depth _;
        outs_left = kept_left t.number h lot.outs _;
      }

  pub promise_unsound : {lot : Lot} (why : Unsound) → told {A = SoundList} (Err why) ≡ lowest (refusals kind bytes ends values)
      → Promise kind bytes ends values lot lot (Err (of_list why))
  promise_unsound list.BadKind e = promise_listed _ (omega arith) (sym e) _ refl
  promise_unsound list.BadEnds e = promise_listed _ (omega arith) (sym e) _ refl
  promise_unsound list.TooMany e = promise_listed _ (omega arith) (sym e) _ refl
  promise_unsound (list.Empty i) e = promise_listed _ (omega arith) (sym e) _ refl
  promise_unsound (list.TooLong i) e = promise_listed _ (omega arith) (sym e) _ refl
