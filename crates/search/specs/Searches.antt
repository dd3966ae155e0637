-- What each search answers, on any tables, any value and any text.
use Rattle.std.specs.Prelude.{Bool, true, false, List, [], ◌∷◌, ℕ, eqb, length, drop, Option, Result, Ok, Err}
use Rattle.std.proofs.Math.Option.{Option as Maybe, none, some}
use Rattle.paper.specs.Lists.{pick}
use Rattle.list.specs.Refusals.{Told, lowest}
use Rattle.table.specs.Agrees.{Tables, output_in}
use Rattle.table.specs.declared.Row.{Row}
use Rattle.table.specs.declared.Damage.{Damage}
use Rattle.table.specs.Readers.{damage}
use Rattle.search.specs.declared.Search.{Search}
use Rattle.search.specs.declared.Match.{Match}
use Rattle.search.specs.declared.seek.Sought.{Sought}
use Rattle.search.specs.declared.seek.Sought.TheVariants as sought
use Rattle.search.specs.Values.{Which, overlapping, plain, leftmost, root, cell, value_of, match_of, Outcome, gives, ends, refuses}
use Rattle.search.specs.Walk.{on_given, on_sound, step_of}
use Rattle.search.specs.Admission.{at_first}

-- ---- the walk over the bytes that are left

-- what stands at the output place of a value
abbrev pub shown_at : Tables → Search → Result (Option Row) Damage
shown_at T v = output_in T v.output v.place

-- up to the first output, which may be the one that the value has still to give; `falling` is for the leftmost walk
unfoldable pub seek_of : Bool → Tables → Search → List ℕ → Result Sought Damage
seek_of falling T v [] = on_given (shown_at T v) (λ row. Ok (sought.Given row v)) (Ok (sought.End v)) damage
seek_of falling T v (c ∷ bytes) =
    on_given (shown_at T v) (λ row. Ok (sought.Given row v)) (on_sound (step_of falling T v c) (λ w. seek_of falling T w bytes) damage) damage

-- from a first match on, the match that is kept last before a byte ends at root or the text ends, and where the walk stops: each state's first output is kept
unfoldable pub keep_of : Tables → Match → Search → List ℕ → Result (Match × Search) Damage
keep_of T m v [] = Ok (m, v)
keep_of T m v (c ∷ bytes) =
    on_sound (step_of true T v c)
    (λ w. pick (eqb w.state.0 root) (Ok (m, w))
    (on_given (shown_at T w) (λ row. keep_of T (match_of row w.place) w bytes) (keep_of T m w bytes) damage))
    damage

-- ---- the answer of a call, once it is admitted

-- an output and the value there, the end and the value there, or damage
abbrev pub on_sought : {A : Type 0} → Result Sought Damage → (Row → Search → A) → (Search → A) → A → A
on_sought (Ok (sought.Given row at)) f end broken = f row at
on_sought (Ok (sought.End at)) f end broken = end at
on_sought (Err _) f end broken = broken

-- a match and where the walk stopped, or damage
abbrev pub on_kept : {A : Type 0} → Result (Match × Search) Damage → (Match → Search → A) → A → A
on_kept (Ok p) f broken = f p.0 p.1
on_kept (Err _) f broken = broken

-- the bytes of a text that a value has still to take
abbrev pub rest : List ℕ → Search → List ℕ
rest text v = drop v.place text

-- the value without the output that it has still to give: only overlapping search gives more than one at a place
abbrev pub cleared : Search → Search
cleared v = value_of v.state 0 v.place v.moves

-- the value from which a search walks on
abbrev pub from : Which → Search → Search
from overlapping v = v
from plain v = cleared v
from leftmost v = cleared v

-- it is the leftmost search
abbrev pub is_leftmost : Which → Bool
is_leftmost overlapping = false
is_leftmost plain = false
is_leftmost leftmost = true

-- the value with which a search goes on after an output: overlapping search has the rest of the chain still to give, plain search begins again at root
abbrev pub after_output : Row → Search → Search
after_output row at = value_of at.state row.next at.place at.moves

abbrev pub after_plain : Search → Search
after_plain at = value_of (cell root) 0 at.place at.moves

-- leftmost search goes on at root from a place, and reports no moves
abbrev pub after_leftmost : ℕ → Search
after_leftmost place = value_of (cell root) 0 place 0

-- the answer at an output: overlapping and plain search give it, leftmost search keeps it and walks on
abbrev pub at_output : Which → Tables → List ℕ → Search → Row → Search → Outcome
at_output overlapping T text v row at = gives (match_of row at.place) (after_output row at)
at_output plain T text v row at = gives (match_of row at.place) (after_plain at)
at_output leftmost T text v row at =
    on_kept (keep_of T (match_of row at.place) at (rest text at)) (λ m stop. gives m (after_leftmost m.end)) (refuses 11 v)

-- the answer at the text's end
abbrev pub at_end : Which → Search → Outcome
at_end overlapping at = ends at
at_end plain at = ends at
at_end leftmost at = ends (after_leftmost at.place)

-- the answer of the walk
abbrev pub walk_of : Which → Tables → List ℕ → Search → Outcome
walk_of w T text v =
    on_sought (seek_of (is_leftmost w) T (from w v) (rest text (from w v))) (at_output w T text v) (at_end w) (refuses 11 v)

-- ---- the answer

-- a refusal that shows before the walk, or what the walk answers
abbrev pub unless : Maybe Told → Search → Outcome → Outcome
unless none v walked = walked
unless (some t) v walked = refuses t.number v

-- what a call of a search answers: on tables, their kind, a text, and a search value
unfoldable pub next_of : Which → Tables → ℕ → List ℕ → Search → Outcome
next_of w T kind text v = unless (lowest (at_first (is_leftmost w) T kind (length text) v)) v (walk_of w T text v)
