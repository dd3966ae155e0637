-- A call on tables with room, of its own kind, on a text within the limit and a value that fits them, is not refused before its walk.
use mathlib.Core.Path.{◌≡◌}
use mathlib.Core.List.{List}
use Prim.Native.Nat.{ℕ, ◌*◌, ◌≤◌, ◌<◌}
use native.Mathlib.Omega.{arith}
use lib.ListN.{length}
use Rattle.list.specs.Limits.{last_kind, most_text}
use Rattle.table.specs.Agrees.{Tables, Rooms}
use Rattle.search.specs.declared.Search.{Search}
use Rattle.search.specs.Values.{Which}
use Rattle.search.specs.Admission.{cell_slots}
use Rattle.search.specs.Searches.{walk_of, next_of}
use Rattle.search.specs.Damage.{ShowsAtFirst, kind_above_two, accepted_above_slots, cells_above_slots, state_past_cells, output_past_outputs, place_past_text, moves_above_twice_place}
use Rattle.search.specs.Claims.{WrongKind}
use Rattle.search.proofs.Entering.{Course, wrong, long, shows, walks, course}

-- a value fits tables and a text of so many bytes: its state is a cell, its output place is one or none, its place lies in the text, and its
-- moves are at most twice its place
pub record Admissible (T : Tables) (size : ℕ) (v : Search) : Type 0 where
  pub state : v.state.0 < T.cells
  pub output : v.output ≤ T.accepted
  pub place : v.place ≤ size
  pub moves : v.moves ≤ 2 * v.place

-- cells with room in each column have room in all of them
slots_enough : (T : Tables) → Rooms T → T.cells ≤ cell_slots T
slots_enough T R = omega (arith, R)

-- such a value shows no damage
sound : (T : Tables) (kind size : ℕ) (v : Search) → kind ≤ last_kind → Rooms T → Admissible T size v → ShowsAtFirst T kind size v → ⊥
sound T kind size v k R F (kind_above_two h) = omega arith
sound T kind size v k R F (accepted_above_slots h) = omega (arith, R.outs_room)
sound T kind size v k R F (cells_above_slots h) = omega (arith, slots_enough T R)
sound T kind size v k R F (state_past_cells h) = omega (arith, F.state)
sound T kind size v k R F (output_past_outputs h) = omega (arith, F.output)
sound T kind size v k R F (place_past_text h) = omega (arith, F.place)
sound T kind size v k R F (moves_above_twice_place h) = omega (arith, F.moves)

-- so the call walks
pub unrefused : (w : Which) (T : Tables) (kind : ℕ) (text : List ℕ) (v : Search) → (WrongKind w kind → ⊥) → kind ≤ last_kind → Rooms T
    → length text ≤ most_text
    → Admissible T (length text) v
    → next_of w T kind text v ≡ walk_of w T text v
unrefused w T kind text v right k R short F = go (course w T kind text v)
  where
    go : Course w T kind text v → next_of w T kind text v ≡ walk_of w T text v
    go (wrong x q) = absurd (right x)
    go (long n l q) = absurd (omega arith)
    go (shows n l S q) = absurd (sound T kind (length text) v k R F S)
    go (walks n l none F q) = q
