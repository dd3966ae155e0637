-- The tables of a good build agree with what is accepted of the list, so the demands hold over them; and what the kinds accept says the lists of
-- what is listed.
use mathlib.Core.Path.{◌≡◌, refl, sym, ap, ◌∙◌, subst}
use mathlib.Core.List.{List}
use Prim.Native.Nat.{ℕ, ◌≤◌}
use lib.ListN.{length}
use Rattle.paper.specs.Patterns.{Choice, longest, first, standard, leftmost, rows, accepted, Filled, Proper}
use Rattle.paper.specs.Matches.{Occurrence, with_payloads}
use Rattle.paper.proofs.Claims.{lists}
use Rattle.list.specs.Limits.{most_text}
use Rattle.list.specs.Kinds.{kind_of}
use Rattle.list.specs.Listed.{patterns_of}
use Rattle.list.specs.Claims.{Bytes, Sound}
use Rattle.list.proofs.Sound.{sound_filled}
use Rattle.table.specs.Agrees.{Agrees}
use Rattle.nfa.specs.Grown.{accepted_of}
use Rattle.whole.specs.Refusing.{Lent, Suffices}
use Rattle.build.specs.Lot.{slots_of}
use Rattle.build.specs.Outcome.{made, outcome_of}
use Rattle.build.proofs.Claims.{good_told, answer_claims, build_claims}
use Rattle.search.specs.Searches.{next_of}
use Rattle.meaning.specs.Repeated.{then_end}
use Rattle.meaning.specs.Demands.{value_in, kind_number, StandardDemands, LeftmostDemands}
use Rattle.meaning.proofs.Claims as meaning
use Rattle.day.specs.EndToEnd.{GoodBuild, tables_left, StandardDay, LeftmostDay, DayClaims}

module _ {kind : ℕ} {bytes ends values : List ℕ} (b : GoodBuild kind bytes ends values) where
  slots : Lent
  slots = slots_of b.entry

  was_made : outcome_of kind bytes ends values slots ≡ made b.counts
  unfolding slots
  was_made = sym b.promised.outcome_is ∙ sym b.promised.answered

  cause : Sound kind bytes ends values × Suffices (accepted_of kind bytes ends) slots
  cause = good_told kind bytes ends values slots b.counts was_made

  filled : Filled (patterns_of bytes ends)
  filled = sound_filled kind bytes ends values cause.0

  -- the kind in the counts is the one that was asked for
  kind_is : b.counts.kind ≡ kind
  kind_is = cc (was_made, (answer_claims kind bytes ends values slots).good.1 cause)

  pub agrees : Bytes bytes → Agrees (tables_left b) (kind_of kind) (accepted_of kind bytes ends) values
  agrees B = (build_claims kind bytes ends values b.entry).agrees b.exit b.counts B b.promised

-- the listed patterns have rising rows and none is empty
rows_proper : (ps : List (List ℕ)) → Filled ps → Proper (rows ps)
unfolding accepted
rows_proper ps h = lists.proper standard ps h

standard_day : (bytes ends values text : List ℕ) (b : GoodBuild 0 bytes ends values) → Bytes bytes → Bytes text → length text ≤ most_text → StandardDay b text
unfolding accepted
standard_day bytes ends values text b B C short =
    let es = rows (patterns_of bytes ends) in
    let D = (meaning.claims).standard_holds (tables_left b) es values text (agrees b B) C short in
    let P = rows_proper (patterns_of bytes ends) (filled b) in
    record {
      demands = subst (λ (k : ℕ). StandardDemands (λ w v. next_of w (tables_left b) k text v) es values text) (sym (kind_is b)) D;
      overlapping_list = lists.overlapping_is es text P;
      plain_list = lists.plain_is es text P;
    }

kind_of_lem : (c : Choice) → kind_of (kind_number c) ≡ leftmost c
kind_of_lem longest = refl
kind_of_lem first = refl

leftmost_day : (c : Choice) (bytes ends values text : List ℕ) (b : GoodBuild (kind_number c) bytes ends values) → Bytes bytes → Bytes text
    → length text ≤ most_text
    → LeftmostDay c b text
leftmost_day c bytes ends values text b B C short =
    let ps = patterns_of bytes ends in
    let A : Agrees (tables_left b) (leftmost c) (accepted (leftmost c) ps) values
    = rw (← kind_of_lem c) (agrees b B) in
    let D = (meaning.claims).leftmost_holds (tables_left b) c ps values text (filled b) A C short in
    record {
      demands = subst (λ (k : ℕ). LeftmostDemands (λ w v. next_of w (tables_left b) k text v) c (rows ps) values text) (sym (kind_is b))
          (record {
            leftmost_says = λ n. D.leftmost_says n ∙ ap (λ (l : List Occurrence). then_end n (with_payloads (value_in values) l)) (lists.same_list c ps text (filled b));
            leftmost_moves = D.leftmost_moves;
          });
      leftmost_list = lists.leftmost_is c (rows ps) text (rows_proper ps (filled b));
    }

pub claims : DayClaims
claims = record { standard_day = standard_day; leftmost_day = leftmost_day }
