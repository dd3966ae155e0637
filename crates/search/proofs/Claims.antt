-- The claims of the searches: that an answer is the only one, when each refusal is given, and what the end and a leftmost match leave.
use mathlib.Core.Path.{◌≡◌, refl, sym, ap, ◌∙◌, subst}
use mathlib.Core.List.{List}
use Prim.Native.Nat.{ℕ}
use lib.Dec.{eqb}
use lib.ListN.{length}
use Rattle.paper.specs.Lists.{pick}
use Rattle.table.specs.Agrees.{Tables}
use Rattle.search.specs.declared.Search.{Search}
use Rattle.search.specs.declared.Match.{Match}
use Rattle.search.specs.declared.Refusal.{Refusal}
use Rattle.search.specs.declared.Refusal.TheVariants as refusal
use Rattle.search.specs.declared.Answer.{Answer}
use Rattle.search.specs.declared.Answer.TheVariants as answers
use Rattle.search.specs.Values.{Which, overlapping, plain, leftmost, Outcome, gives, ends, refuses, number, answer}
use Rattle.search.specs.Searches.{next_of}
use Rattle.search.specs.Claims.{RootIfLeftmost, RootAfterMatch, SearchClaims, LeftmostClaims}
use Rattle.search.proofs.Answering.{AfterMatch, AfterEnd, Says, says, nine_told, ten_told, eleven_told, end_told}

-- ---- one answer only

-- the refusal of a number, and the answer that an outcome stands for
refusal_of : ℕ → Refusal
refusal_of n = pick (eqb n 9) refusal.WrongKind (pick (eqb n 10) refusal.LongText refusal.Damage)

back : Outcome → Answer
back (gives m u) = answers.Match m u
back (ends u) = answers.End u
back (refuses n u) = answers.Refused (refusal_of n) u

back_number : (why : Refusal) → refusal_of (number why) ≡ why
unfolding refusal_of
back_number refusal.WrongKind = refl
back_number refusal.LongText = refl
back_number refusal.Damage = refl

back_answer : (r : Answer) → back (answer r) ≡ r
unfolding back
back_answer (answers.Match m u) = refl
back_answer (answers.End u) = refl
back_answer (answers.Refused why u) = rw back_number

-- ---- a match, and the end

match_leaves : (w : Which) (m : Match) (u : Search) → AfterMatch w m u → (u.place ≡ m.end) × RootAfterMatch w u
match_leaves overlapping m u A = (A, tt)
match_leaves plain m u A = (A.0, (A.1, A.2))
match_leaves leftmost m u A = (ap (λ (x : Search). x.place) A, (ap (λ (x : Search). x.state.0) A, ap (λ (x : Search). x.output) A))

end_leaves : (w : Which) (text : List ℕ) (u : Search) → AfterEnd w text u → (u.place ≡ length text) × (u.output ≡ 0) × RootIfLeftmost w u
end_leaves overlapping text u A = (A.0, A.1, tt)
end_leaves plain text u A = (A.0, A.1, tt)
end_leaves leftmost text u A = (ap (λ (x : Search). x.place) A, ap (λ (x : Search). x.output) A, ap (λ (x : Search). x.state.0) A)

-- ---- all of it

-- what an answer says, once it is known
told : (w : Which) (T : Tables) (kind : ℕ) (text : List ℕ) (v : Search) (o : Outcome) → next_of w T kind text v ≡ o → Says w T kind text v o
told w T kind text v o e = subst (Says w T kind text v) e (says w T kind text v)

pub claims : (w : Which) (T : Tables) (kind : ℕ) (text : List ℕ) (v : Search) → SearchClaims w T kind text v
claims w T kind text v =
    record {
      one_answer = λ r r' e e'. sym (back_answer r) ∙ ap back (e ∙ sym e') ∙ back_answer r';
      unchanged = λ n u e. let S = told w T kind text v (refuses n u) e in (S.0, S.1.known);
      nine = ((λ e. (told w T kind text v (refuses 9 v) e).1.nine refl), nine_told w T kind text v);
      ten = ((λ e. (told w T kind text v (refuses 10 v) e).1.ten refl), λ q. ten_told w T kind text v q.0 q.1);
      eleven = ((λ e. (told w T kind text v (refuses 11 v) e).1.eleven refl), λ q. eleven_told w T kind text v q.0 q.1 q.2);
      match_lies = λ m u e. (told w T kind text v (gives m u) e).1;
      at_match = λ m u e. match_leaves w m u (told w T kind text v (gives m u) e).0;
      at_end_lem = λ u e. end_leaves w text u (told w T kind text v (ends u) e).2;
      end_again = λ u e. let S = told w T kind text v (ends u) e in end_told w T kind text u S.0 S.1 S.2;
    }

pub leftmost_claims : (T : Tables) (kind : ℕ) (text : List ℕ) (v : Search) → LeftmostClaims T kind text v
leftmost_claims T kind text v =
    record {
      no_moves_given = λ m u e. ap (λ (x : Search). x.moves) (told leftmost T kind text v (gives m u) e).0;
      no_moves_ended = λ u e. ap (λ (x : Search). x.moves) (told leftmost T kind text v (ends u) e).2;
    }
