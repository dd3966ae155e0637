-- The place and the moves in an answer: a value that has made the moves over the bytes that it has taken has taken those up to the match's end, or
-- the whole text, since every search leaves the place there. For any search and any way to count.
use mathlib.Core.Path.{◌≡◌, refl, ap, ◌∙◌}
use mathlib.Core.List.{List, [], ◌∷◌, Memᴰ}
use Prim.Native.Nat.{ℕ, ◌*◌, ◌-◌, ◌≤◌}
use native.Mathlib.Omega.{arith}
use lib.ListN.{length, take}
use lib.Seq.{take-length}
use Rattle.paper.specs.Matches.{Occurrence, Match, with_payloads}
use Rattle.table.specs.Agrees.{Tables}
use Rattle.search.specs.declared.Search.{Search}
use Rattle.search.specs.Values.{Which, Outcome, gives, ends, refuses}
use Rattle.search.specs.Searches.{next_of}
use Rattle.search.proofs.Claims.{claims}
use Rattle.meaning.specs.Repeated.{handed_back, answers, refusal, said}
use Rattle.meaning.specs.Demands.{value_in, HasTaken, FewMoves}
use Rattle.meaning.proofs.Repeating.{first_said, others, Turn, each_answer}

-- a refusal is neither a match nor the end
no_refusal : (n : ℕ) (l : List (Match ℕ)) → refusal n ≡ first_said l → ⊥
no_refusal n [] e = cc
no_refusal n (m ∷ l) e = cc

-- ---- an answer

-- the answer to a value says a match or the end and hands back a value that has made the moves over the bytes that it has taken
counted : (w : Which) (T : Tables) (kind : ℕ) (text : List ℕ) (moves : List ℕ → ℕ) (v : Search) (l : List (Match ℕ)) (o : Outcome)
    → next_of w T kind text v ≡ o
    → said o ≡ first_said l
    → (handed_back o).moves ≡ moves (take (handed_back o).place text)
    → HasTaken moves text o
counted w T kind text moves v l (gives m u) e s h =
    let p = ((claims w T kind text v).at_match m u e).0 in (p, h ∙ ap (λ (n : ℕ). moves (take n text)) p)
counted w T kind text moves v l (ends u) e s h =
    let p = ((claims w T kind text v).at_end_lem u e).0 in (p, h ∙ ap (λ (n : ℕ). moves (take n text)) p ∙ ap moves (take-length text))
counted w T kind text moves v l (refuses n u) e s h = no_refusal n l s

-- where the moves are few for the bytes taken, they are few for these bytes
bounded : (moves : List ℕ → ℕ) (text : List ℕ) (o : Outcome) → HasTaken moves text o
    → ((handed_back o).place ≤ length text) × ((handed_back o).moves ≤ 2 * (handed_back o).place - 1)
    → FewMoves text o
bounded moves text (gives m u) C h = (omega (arith, C.0, h.0), omega (arith, C.0, h.1))
bounded moves text (ends u) C h = omega (arith, C.0, h.1)
bounded moves text (refuses n u) C h = C

-- ---- every answer in turn

-- where a value with something or nothing left has made the moves over the bytes that it has taken
module _ (w : Which) (T : Tables) (kind : ℕ) (text : List ℕ) (moves : List ℕ → ℕ) (values : List ℕ) (Left : Search → List Occurrence → Type 0)
    (turns : (v : Search) (l : List Occurrence) → Left v l → Turn values Left (next_of w T kind text v) l)
    (made : (v : Search) (l : List Occurrence) → Left v l → v.moves ≡ moves (take v.place text)) where
  abbrev next : Search → Outcome
  next = next_of w T kind text

  takes : (v : Search) (l : List Occurrence) → Left v l → HasTaken moves text (next v)
  takes v l L =
      let t = turns v l L in
      counted w T kind text moves v (with_payloads (value_in values) l) (next v) refl t.says (made (handed_back (next v)) (others l) t.leaves)

  pub all_taken : (n : ℕ) (v : Search) (l : List Occurrence) → Left v l → (o : Outcome) → Memᴰ o (answers next n v) → HasTaken moves text o
  all_taken = each_answer values next Left turns (HasTaken moves text) takes

  -- and has made few of them
  pub all_few : ((v : Search) (l : List Occurrence) → Left v l → (v.place ≤ length text) × (v.moves ≤ 2 * v.place - 1))
      → (n : ℕ) (v : Search) (l : List Occurrence) → Left v l → (o : Outcome) → Memᴰ o (answers next n v) → FewMoves text o
  all_few few =
      each_answer values next Left turns (FewMoves text)
      (λ v l L. bounded moves text (next v) (takes v l L) (few (handed_back (next v)) (others l) (turns v l L).leaves))
