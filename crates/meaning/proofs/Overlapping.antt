-- Overlapping search over tables of kind Standard that agree with a list: called again and again it gives the overlapping list and then the end, and the
-- moves in its answers are those of the paper's walk.
use mathlib.Core.Path.{◌≡◌, refl, sym, ap, ◌∙◌}
use mathlib.Core.Bool.{Bool, false}
use mathlib.Core.List.{List, [], ◌∷◌, ◌++◌, map, Memᴰ}
use mathlib.Core.Logic.{⊎_elim}
use Prim.Native.Nat.{ℕ, suc, ◌*◌, ◌-◌, ◌≤◌}
use native.Mathlib.Omega.{arith}
use lib.ListN.{length, take}
use Rattle.paper.specs.Patterns.{Entry, standard}
use Rattle.paper.specs.Matches.{Occurrence, with_payloads, overlapping}
use Rattle.paper.specs.Automaton.{Machine, machine, output, end_at, Walk, fresh, step, says_all}
use Rattle.paper.proofs.Standard.{says_overlapping}
use Rattle.list.specs.Limits.{most_text}
use Rattle.list.specs.Claims.{Bytes}
use Rattle.table.specs.Agrees.{Tables, Agrees}
use Rattle.table.specs.declared.Row.{Row}
use Rattle.search.specs.declared.Search.{Search}
use Rattle.search.specs.Values as search
use Rattle.search.specs.Values.{Outcome, gives, ends, match_of, begun}
use Rattle.search.specs.Searches.{seek_of, rest, after_output, walk_of, next_of}
use Rattle.search.proofs.Named.{output_at, ends_at}
use Rattle.meaning.specs.Repeated.{answers, said, then_end}
use Rattle.meaning.specs.Demands.{value_in, walk_moves, HasTaken, FewMoves}
use Rattle.meaning.proofs.Repeating.{Turn, repeated}
use Rattle.meaning.proofs.Counting.{all_taken, all_few}
use Rattle.meaning.proofs.Unrefused.{unrefused}
use Rattle.meaning.proofs.StandardWalk.{Standing, Comes, to_output, to_end, row_of, moves_are, moves_few, fits, begun_stands, comes}

-- its walk never begins again
abbrev going_on : List Entry → Bool
going_on xs = false

-- what it has left to say: the entries that are still to give here, then what the walk over the bytes that are left puts out
abbrev left_all : List Entry → Walk → ℕ → List Entry → List ℕ → List Occurrence
left_all es w n xs t = map (end_at n) xs ++ says_all (machine standard es) w n t

module _ (T : Tables) (es : List Entry) (values text : List ℕ) (A : Agrees T standard es values) (bytes : Bytes text) (short : length text ≤ most_text) where
  abbrev M : Machine
  M = machine standard es

  abbrev next : Search → Outcome
  next v = next_of search.overlapping T 0 text v

  -- a value has these matches left
  record Left (v : Search) (l : List Occurrence) : Type 0 where
    walk : Walk
    entries : List Entry
    stands : Standing T es values text going_on walk entries v
    is : l ≡ left_all es walk v.place entries (rest text v)

  left_end : (w : Walk) (n : ℕ) → left_all es w n [] [] ≡ []
  unfolding says_all
  left_end w n = refl

  left_on : (w : Walk) (n c : ℕ) (t : List ℕ) → left_all es w n [] (c ∷ t) ≡ left_all es (step M w c) (suc n) (output M (step M w c).state) t
  unfolding says_all
  left_on w n c t = refl

  -- the answer where the walk comes to an output, and at the text's end
  output_answer : (v u : Search) (row : Row) → seek_of false T v (rest text v) ≡ output_at row u
      → walk_of search.overlapping T text v ≡ gives (match_of row u.place) (after_output row u)
  output_answer v u row e = rw e

  end_answer : (v u : Search) → seek_of false T v (rest text v) ≡ ends_at u → walk_of search.overlapping T text v ≡ ends u
  end_answer v u e = rw e

  -- after an output the value has the other entries of the chain to give
  after_stands : (w : Walk) (x : Entry) (xs : List Entry) (u : Search) (H : Standing T es values text going_on w (x ∷ xs) u)
      → Standing T es values text going_on w xs (after_output (row_of values x H.chain.0.next) u)
  after_stands w x xs u H =
      record {
        at = record { state = H.at.state; there = H.at.there; counted = H.at.counted };
        chain = H.chain.1;
        fit = λ y m. H.fit y (Memᴰ.tail m);
        shallow = H.shallow;
        asked = refl;
        walked = H.walked;
        inside = H.inside;
      }

  -- a call gives the first of what is left, or the end
  turns : (v : Search) (l : List Occurrence) → Left v l → Turn values Left (next v) l
  turns v l L =
      let walks = unrefused search.overlapping T 0 text v (⊎_elim (λ e. omega (arith, e)) (λ e. omega (arith, e))) (omega arith) A.rooms short
      (fits T es values text A bytes going_on refl L.stands) in
      go walks (comes T es values text A bytes going_on refl (left_all es) left_end left_on L.walk L.entries v L.stands)
    where
      go : next v ≡ walk_of search.overlapping T text v
          → Comes T es values text going_on (left_all es) v (left_all es L.walk v.place L.entries (rest text v))
          → Turn values Left (next v) l
      go q (to_output w x xs u H e d) = rw (q ∙ output_answer v u _ e, L.is ∙ d)
          (record {
            says = refl;
            leaves = record { walk = w; entries = xs; stands = after_stands w x xs u H; is = refl };
          })
      go q (to_end w u H e d z) = rw (q ∙ end_answer v u e, L.is ∙ z)
          (record { says = refl; leaves = record { walk = w; entries = []; stands = H; is = sym z ∙ d } })

  -- a fresh search has all left
  begun_left : Left begun (says_all M fresh 0 text)
  begun_left = record { walk = fresh; entries = []; stands = begun_stands T es values text A bytes going_on refl; is = refl }

  -- ---- demands 2 and 3

  pub says : (n : ℕ) → map said (answers next n begun) ≡ then_end n (with_payloads (value_in values) (overlapping es text))
  says n =
      repeated values next Left turns n begun (says_all M fresh 0 text) begun_left
      ∙ ap (λ (l : List Occurrence). then_end n (with_payloads (value_in values) l)) (says_overlapping es text)

  -- the moves that a value has made
  made : (v : Search) (l : List Occurrence) → Left v l → v.moves ≡ walk_moves es (take v.place text)
  made v l L = moves_are T es values text A bytes going_on refl L.stands

  few : (v : Search) (l : List Occurrence) → Left v l → (v.place ≤ length text) × (v.moves ≤ 2 * v.place - 1)
  few v l L = (L.stands.inside, moves_few T es values text A bytes going_on refl L.stands)

  pub moves : (n : ℕ) (o : Outcome) → Memᴰ o (answers next n begun) → HasTaken (walk_moves es) text o
  moves n = all_taken search.overlapping T 0 text (walk_moves es) values Left turns made n begun (says_all M fresh 0 text) begun_left

  pub bound : (n : ℕ) (o : Outcome) → Memᴰ o (answers next n begun) → FewMoves text o
  bound n = all_few search.overlapping T 0 text (walk_moves es) values Left turns made few n begun (says_all M fresh 0 text) begun_left
