-- Leftmost search over tables that agree with what its kind accepts of a list: called again and again, it gives the leftmost list of its kind and
-- then the end.
use mathlib.Core.Path.{◌≡◌, refl, ap, ◌∙◌}
use mathlib.Core.List.{List, [], map, Memᴰ}
use mathlib.Core.Option.{Option, none, some}
use Prim.Native.Nat.{ℕ, zero, suc, ◌+◌, ◌≤◌, ◌<◌}
use native.Mathlib.Omega.{arith}
use lib.ListN.{length, drop, length-drop, drop_of_length-le}
use Rattle.paper.specs.Patterns.{Entry, Choice, longest, first, leftmost, accepted, Filled}
use Rattle.paper.specs.Matches.{Occurrence, with_payloads}
use Rattle.paper.specs.Automaton.{Machine, machine, says_next, says_leftmost, on_given}
use Rattle.paper.proofs.Claims.{automaton}
use Rattle.list.specs.Limits.{most_text, last_kind}
use Rattle.list.specs.Claims.{Bytes}
use Rattle.table.specs.Agrees.{Tables, Agrees}
use Rattle.search.specs.declared.Search.{Search}
use Rattle.search.specs.Values as search
use Rattle.search.specs.Values.{Outcome, begun}
use Rattle.search.specs.Searches.{after_leftmost, next_of}
use Rattle.meaning.specs.Repeated.{answers, said, then_end}
use Rattle.meaning.specs.Demands.{value_in, kind_number, no_moves, HasTaken, LeftmostDemands}
use Rattle.meaning.proofs.Unrefused.{unrefused}
use Rattle.meaning.proofs.Repeating.{Turn, repeated}
use Rattle.meaning.proofs.Counting.{all_taken}
use Rattle.meaning.proofs.LeftmostPaper.{walk_at, Ends, given, given_any, given_ends}
use Rattle.meaning.proofs.LeftmostWalk.{answer_in, walk_says}

-- the number of a leftmost kind is 1 or 2
kind_number_lem : (c : Choice) → (0 < kind_number c) × (kind_number c ≤ last_kind)
kind_number_lem longest = (omega arith, omega arith)
kind_number_lem first = (omega arith, omega arith)

module _ (T : Tables) (choice : Choice) (es : List Entry) (values text : List ℕ) (A : Agrees T (leftmost choice) es values)
    (B : Bytes text) (short : length text ≤ most_text) where
  abbrev M : Machine
  M = machine (leftmost choice) es

  -- a call
  abbrev next : Search → Outcome
  next v = next_of search.leftmost T (kind_number choice) text v

  -- at root, from a place in the text, it answers what the paper's call gives there, whatever moves that has
  call_says : (p m : ℕ) → p ≤ length text → next (after_leftmost p) ≡ answer_in values (length text) (given M (walk_at [] m) p none (drop p text))
  call_says p m h =
      let k = kind_number_lem choice in
      unrefused search.leftmost T (kind_number choice) text (after_leftmost p) (λ z. omega (arith, k.0)) k.1 A.rooms short
      (record { state = omega (arith, A.two); output = omega arith; place = h; moves = omega arith })
      ∙ walk_says T choice es values A text p B h
      ∙ ap (answer_in values (length text)) (given_any M (drop p text) [] 0 m p none)

  -- a value at root has these matches left: what the paper's calls give from its place on, if their number is enough for the bytes there
  record Left (v : Search) (l : List Occurrence) : Type 0 where
    place : ℕ
    calls : ℕ
    moves : ℕ
    value : v ≡ after_leftmost place
    inside : place ≤ length text
    enough : length text < calls + place
    list : l ≡ (says_leftmost M calls place moves text).matches

  -- at the text's end there are none
  left_none : Left (after_leftmost (length text)) []
  unfolding says_leftmost says_next
  left_none =
      record {
        place = length text;
        calls = 1;
        moves = 0;
        value = refl;
        inside = omega arith;
        enough = omega arith;
        list = rw (drop_of_length-le text {i = length text} (omega arith));
      }

  -- a call gives the first of them; the next begins at its end, which is past this one's place
  turn_at : (p n m : ℕ) → p ≤ length text → length text < n + p → Turn values Left (next (after_leftmost p)) (says_leftmost M n p m text).matches
  unfolding says_leftmost
  turn_at p zero m h k = absurd (omega arith)
  turn_at p (suc n) m h k =
      rw (call_says p m h) (go (given M (walk_at [] m) p none (drop p text)) (given_ends M (drop p text) (walk_at [] m) p p none (omega arith) tt))
    where
      moved : ℕ
      moved = (says_next M (walk_at [] m) p none (drop p text)).moves

      go : (o : Option Occurrence) → Ends p (p + length (drop p text)) o
          → Turn values Left (answer_in values (length text) o) (on_given o moved (λ f. says_leftmost M n f.end moved text)).matches
      go none E = record { says = refl; leaves = left_none }
      go (some f) E =
          record {
            says = refl;
            leaves = record {
              place = f.end;
              calls = n;
              moves = moved;
              value = refl;
              inside = omega (arith, E.1, length-drop p text);
              enough = omega (arith, E.0);
              list = refl;
            };
          }

  turns : (v : Search) (l : List Occurrence) → Left v l → Turn values Left (next v) l
  turns v l L = rw (L.value, L.list) (turn_at L.place L.calls L.moves L.inside L.enough)

  -- a fresh search has all left
  begun_left : Left begun (says_leftmost M (suc (length text)) 0 0 text).matches
  begun_left = record { place = 0; calls = suc (length text); moves = 0; value = refl; inside = omega arith; enough = omega arith; list = refl }

  -- so many calls from the beginning
  calls_say : (n : ℕ) → map said (answers next n begun) ≡ then_end n (with_payloads (value_in values) (says_leftmost M (suc (length text)) 0 0 text).matches)
  calls_say n = repeated values next Left turns n begun _ begun_left

  -- a value has no moves
  made : (v : Search) (l : List Occurrence) → Left v l → v.moves ≡ 0
  made v l L = ap (λ (u : Search). u.moves) L.value

  moves : (n : ℕ) (o : Outcome) → Memᴰ o (answers next n begun) → HasTaken no_moves text o
  moves n = all_taken search.leftmost T (kind_number choice) text no_moves values Left turns made n begun _ begun_left

-- demands 2 and 3 of leftmost search
pub leftmost_holds : (T : Tables) (c : Choice) (ps : List (List ℕ)) (values text : List ℕ) → Filled ps
    → Agrees T (leftmost c) (accepted (leftmost c) ps) values
    → Bytes text
    → length text ≤ most_text
    → LeftmostDemands (λ w. next_of w T (kind_number c) text) c (accepted (leftmost c) ps) values text
leftmost_holds T c ps values text h A B short =
    record {
      leftmost_says = λ n. calls_say T c (accepted (leftmost c) ps) values text A B short n
          ∙ ap (λ (l : List Occurrence). then_end n (with_payloads (value_in values) l)) (automaton.says_leftmost_lem c ps text h);
      leftmost_moves = moves T c (accepted (leftmost c) ps) values text A B short;
    }
