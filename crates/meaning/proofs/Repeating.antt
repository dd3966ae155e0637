-- Calls in turn: if each call says the first of what is left and hands back a value with the others left, and the end where nothing is left, then so many
-- calls say what was left at first and then the end. For any search, and any relation between its values and what they have left to say.
use mathlib.Core.Path.{◌≡◌, refl, sym, ap, ap₂, ◌∙◌, subst}
use mathlib.Core.List.Memᴰ
use mathlib.Core.List.{List, [], ◌∷◌, ◌++◌, map, Memᴰ}
use mathlib.Core.Logic.{⊎_elim}
use Prim.Native.Nat.{ℕ, zero, suc, ◌≤◌}
use native.Mathlib.Omega.{arith}
use native.Mathlib.Nat.{not-suc-le-zero}
use lib.ListN.{take, replicate}
use Rattle.paper.specs.Matches.{Occurrence, Match, with_payloads}
use Rattle.search.specs.declared.Search.{Search}
use Rattle.search.specs.Values.{Outcome}
use Rattle.meaning.specs.Repeated.{handed_back, answers, Saying, match, end, said, then_end}
use Rattle.meaning.specs.Demands.{value_in}

-- what is said first of what is left
abbrev pub first_said : List (Match ℕ) → Saying
first_said [] = end
first_said (m ∷ l) = match m

-- the others
abbrev pub others : List Occurrence → List Occurrence
others [] = []
others (f ∷ l) = l

-- an answer says the first of what was left, and the value that it hands back has the others left
pub record Turn (values : List ℕ) (Left : Search → List Occurrence → Type 0) (o : Outcome) (l : List Occurrence) : Type 0 where
  pub says : said o ≡ first_said (with_payloads (value_in values) l)
  pub leaves : Left (handed_back o) (others l)

-- ---- the first n of a list with enough ends after it

pub take_ends : (n k : ℕ) (l : List Saying) → n ≤ k → take n (l ++ replicate (suc k) end) ≡ take n (l ++ replicate k end)
take_ends zero k l h = refl
take_ends (suc n) zero l h = absurd (not-suc-le-zero h)
take_ends (suc n) (suc k) [] h = ap (λ (r : List Saying). end ∷ r) (take_ends n k [] (omega arith))
take_ends (suc n) (suc k) (s ∷ l) h = ap (λ (r : List Saying). s ∷ r) (take_ends n (suc k) l (omega arith))

-- one call more says the first, and the calls after it the others
then_more : (values : List ℕ) (n : ℕ) (l : List Occurrence)
    → first_said (with_payloads (value_in values) l) ∷ then_end n (with_payloads (value_in values) (others l)) ≡ then_end (suc n) (with_payloads (value_in values) l)
then_more values n [] = refl
then_more values n (f ∷ l) = ap (λ (r : List Saying). first_said (with_payloads (value_in values) (f ∷ l)) ∷ r) (sym (take_ends n n (map match (with_payloads (value_in values) l)) (omega arith)))

-- ---- calls in turn

module _ (values : List ℕ) (next : Search → Outcome) (Left : Search → List Occurrence → Type 0)
    (turns : (v : Search) (l : List Occurrence) → Left v l → Turn values Left (next v) l) where
  -- so many calls say what is left, then the end
  pub repeated : (n : ℕ) (v : Search) (l : List Occurrence) → Left v l → map said (answers next n v) ≡ then_end n (with_payloads (value_in values) l)
  unfolding answers
  repeated zero v l h = refl
  repeated (suc n) v l h =
      let t = turns v l h in
      ap₂ (λ (s : Saying) (r : List Saying). s ∷ r) t.says (repeated n (handed_back (next v)) (others l) t.leaves) ∙ then_more values n l

  -- what holds of the answer to each value with something or nothing left holds of every answer in turn
  pub each_answer : (Holds : Outcome → Type 0) → ((v : Search) (l : List Occurrence) → Left v l → Holds (next v)) → (n : ℕ) (v : Search) (l : List Occurrence)
      → Left v l
      → (o : Outcome) → Memᴰ o (answers next n v) → Holds o
  unfolding answers
  each_answer Holds holds zero v l h o m = absurd (Memᴰ.not-nil m)
  each_answer Holds holds (suc n) v l h o m =
      ⊎_elim (λ e. subst Holds (sym e) (holds v l h))
      (λ k. each_answer Holds holds n (handed_back (next v)) (others l) (turns v l h).leaves o k)
      (Memᴰ.cases_cons m)
