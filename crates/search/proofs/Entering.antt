-- How a call begins: the tests of its admission in document 01's words, what the call answers by each of them, and what one that walks has.
use mathlib.Core.Path.{◌≡◌}
use mathlib.Core.Bool.{Bool, true, false, not, ◌||◌, false≢true}
use mathlib.Core.List.{List}
use mathlib.Core.Logic.{◌⊎◌, inl, inr, ⊎_elim, ◌↔◌}
use Prim.Native.Nat.{ℕ, ◌*◌, ◌≤◌, ◌<◌}
use native.Mathlib.Omega.{arith}
use lib.Dec.{eqb, leb, ltb}
use lib.ListN.{length}
use Rattle.std.proofs.lemmas.Bool.{or_left, or_right, not-true, eqb-true, eq-eqb, eqb-false, leb-true, le-leb, ltb-true, lt-ltb, ltb-false, and_parts}
use Rattle.paper.proofs.Tests.{test, clash}
use Rattle.list.specs.Limits.{last_kind, most_text}
use Rattle.list.specs.Refusals.{lowest}
use Rattle.table.specs.Agrees.{Tables, Rooms}
use Rattle.table.proofs.Claims as readers
use Rattle.search.specs.declared.Search.{Search}
use Rattle.search.specs.Values.{Which, overlapping, plain, leftmost, refuses}
use Rattle.search.specs.Admission.{other_kind, cell_slots}
use Rattle.search.specs.Searches.{is_leftmost, walk_of, next_of}
use Rattle.search.specs.Damage.{ShowsAtFirst, kind_above_two, accepted_above_slots, cells_above_slots, state_past_cells, output_past_outputs, place_past_text, moves_above_twice_place}
use Rattle.search.specs.Claims.{WrongKind}

-- ---- the kind

-- a leftmost kind is 1 or 2
leftmost_kind : (kind : ℕ) → (other_kind false kind ≡ true) ↔ ((kind ≡ 1) ⊎ (kind ≡ 2))
leftmost_kind kind = (
  λ e.
      let some = eqb-false kind 0 (not-true (eqb kind 0) (and_parts (not (eqb kind 0)) (leb kind last_kind) e).0) in
      let most = leb-true kind last_kind (and_parts (not (eqb kind 0)) (leb kind last_kind) e).1 in
      test (eqb kind 1) (λ h. inl (eqb-true kind 1 h)) (λ h. let more = eqb-false kind 1 h in inr (omega arith)),
  ⊎_elim (λ h. rw h) (λ h. rw h),
)

other_kind_lem : (w : Which) (kind : ℕ) → (other_kind (is_leftmost w) kind ≡ true) ↔ WrongKind w kind
other_kind_lem overlapping kind = leftmost_kind kind
other_kind_lem plain kind = leftmost_kind kind
other_kind_lem leftmost kind = (eqb-true kind 0, eq-eqb kind 0)

-- ---- damage that shows before the walk

module _ (T : Tables) (kind size : ℕ) (v : Search) where
  -- the tests, in the order of the list
  abbrev kinds : Bool
  kinds = ltb last_kind kind

  abbrev rows : Bool
  rows = ltb (length T.outs) T.accepted

  abbrev slots : Bool
  slots = ltb (cell_slots T) T.cells

  abbrev states : Bool
  states = leb T.cells v.state.0

  abbrev outputs : Bool
  outputs = ltb T.accepted v.output

  abbrev places : Bool
  places = ltb size v.place

  abbrev moves : Bool
  moves = ltb (2 * v.place) v.moves

  -- one of them holds
  abbrev shown : Bool
  shown = kinds || ((rows || slots) || (states || (outputs || (places || moves))))

  shown_is : shown ≡ true → ShowsAtFirst T kind size v
  shown_is e =
      test kinds (λ h. kind_above_two (ltb-true last_kind kind h))
      (λ a. test rows (λ h. accepted_above_slots (ltb-true (length T.outs) T.accepted h))
      (λ b. test slots (λ h. cells_above_slots (ltb-true (cell_slots T) T.cells h))
      (λ c. test states (λ h. state_past_cells (leb-true T.cells v.state.0 h))
      (λ d. test outputs (λ h. output_past_outputs (ltb-true T.accepted v.output h))
      (λ f. test places (λ h. place_past_text (ltb-true size v.place h))
      (λ g. test moves (λ h. moves_above_twice_place (ltb-true (2 * v.place) v.moves h))
      (λ h. absurd (false≢true (rw (a, b, c, d, f, g, h) at e)))))))))

  is_shown : ShowsAtFirst T kind size v → shown ≡ true
  is_shown (kind_above_two h) = or_left kinds _ (lt-ltb last_kind kind h)
  is_shown (accepted_above_slots h) = or_right kinds _ (or_left (rows || slots) _ (or_left rows slots (lt-ltb (length T.outs) T.accepted h)))
  is_shown (cells_above_slots h) = or_right kinds _ (or_left (rows || slots) _ (or_right rows slots (lt-ltb (cell_slots T) T.cells h)))
  is_shown (state_past_cells h) = or_right kinds _ (or_right (rows || slots) _ (or_left states _ (le-leb T.cells v.state.0 h)))
  is_shown (output_past_outputs h) =
      or_right kinds _ (or_right (rows || slots) _ (or_right states _ (or_left outputs _ (lt-ltb T.accepted v.output h))))
  is_shown (place_past_text h) =
      or_right kinds _ (or_right (rows || slots) _ (or_right states _ (or_right outputs _ (or_left places moves (lt-ltb size v.place h)))))
  is_shown (moves_above_twice_place h) =
      or_right kinds _ (or_right (rows || slots) _ (or_right states _ (or_right outputs _ (or_right places moves (lt-ltb (2 * v.place) v.moves h)))))

-- ---- the call

-- what a value that walks has: tables with room, a state that is a cell, and a place in the text
pub record Ready (T : Tables) (size : ℕ) (v : Search) : Type 0 where
  pub rooms : Rooms T
  pub state : v.state.0 < T.cells
  pub place : v.place ≤ size

-- what is not above is at most
at_most : {a b : ℕ} → (b < a → ⊥) → a ≤ b
at_most n = omega arith

-- a value that shows no damage has it
ready : (T : Tables) (kind size : ℕ) (v : Search) → (ShowsAtFirst T kind size v → ⊥) → Ready T size v
ready T kind size v n =
    let columns
    = (readers.claims).in_columns T.cells (length T.base) (length T.link) (length T.output) (length T.check) (length T.depth)
    (at_most (λ h. n (cells_above_slots h))) in
    record {
      rooms = record {
        base_room = columns.in_base;
        link_room = columns.in_link;
        output_room = columns.in_output;
        check_room = columns.in_check;
        depth_room = columns.in_depth;
        outs_room = at_most (λ h. n (accepted_above_slots h));
      };
      state = at_most (λ h. n (state_past_cells (omega arith)));
      place = at_most (λ h. n (place_past_text h));
    }

-- how a call goes: it is refused at the first of the three tests that holds, or it walks
pub data Course (w : Which) (T : Tables) (kind : ℕ) (text : List ℕ) (v : Search) : Type 0 where
  wrong : WrongKind w kind → next_of w T kind text v ≡ refuses 9 v → Course w T kind text v
  long : (WrongKind w kind → ⊥) → most_text < length text → next_of w T kind text v ≡ refuses 10 v → Course w T kind text v
  shows : (WrongKind w kind → ⊥) → length text ≤ most_text → ShowsAtFirst T kind (length text) v → next_of w T kind text v ≡ refuses 11 v
      → Course w T kind text v
  walks : (WrongKind w kind → ⊥) → length text ≤ most_text → (ShowsAtFirst T kind (length text) v → ⊥) → Ready T (length text) v
      → next_of w T kind text v ≡ walk_of w T text v
      → Course w T kind text v

-- one of the four it is
pub course : (w : Which) (T : Tables) (kind : ℕ) (text : List ℕ) (v : Search) → Course w T kind text v
unfolding next_of lowest
course w T kind text v =
    test (other_kind (is_leftmost w) kind) (λ a. wrong ((other_kind_lem w kind).0 a) (rw a))
    (λ a.
    let n : WrongKind w kind → ⊥ = λ h. clash ((other_kind_lem w kind).1 h) a in
    test (ltb most_text (length text)) (λ b. long n (ltb-true most_text (length text) b) (rw (a, b)))
    (λ b.
    let l = ltb-false most_text (length text) b in
    test (shown T kind (length text) v) (λ c. shows n l (shown_is T kind (length text) v c) (rw (a, b, c)))
    (λ c.
    let none : ShowsAtFirst T kind (length text) v → ⊥ = λ h. clash (is_shown T kind (length text) v h) c in
    walks n l none (ready T kind (length text) v none) (rw (a, b, c)))))
