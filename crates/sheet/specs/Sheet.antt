-- What a sheet holds after a call, said once for every search: the records of the answers in turn, up to the last slot, the end or a refusal.
use Rattle.std.specs.Prelude.{◌≡◌, Bool, List, [], ◌∷◌, ◌++◌, ℕ, zero, suc, ltb, length, drop}
use Rattle.std.proofs.Math.Option.{Option, none, some}
use Rattle.list.specs.Limits.{most_text}
use Rattle.list.specs.Refusals.{Told, Refusal, plainly, lowest}
use Rattle.table.specs.Agrees.{Tables}
use Rattle.search.specs.declared.Search.{Search}
use Rattle.search.specs.declared.Match.{Match}
use Rattle.search.specs.Values.{Which, Outcome, gives, ends, refuses, number}
use Rattle.search.specs.Admission.{other_kind}
use Rattle.search.specs.Searches.{next_of, is_leftmost}
use Rattle.sheet.specs.declared.Stop as declared
use Rattle.sheet.specs.declared.Stop.TheVariants as stop
use Rattle.sheet.specs.declared.Filled.{Filled}

-- a match as a record: start, end, value
abbrev pub record_of : Match → List ℕ
record_of m = m.start ∷ m.end ∷ m.value ∷ []

-- why a call stops: every slot is written, the text has no further match, or a refusal by its number
pub data Stop : Type 0 where
  full : Stop
  ended : Stop
  refused : ℕ → Stop

-- what a call comes to: the records, why it stopped, and the value to go on with
pub record Load : Type 0 where
  pub records : List (List ℕ)
  pub stop : Stop
  pub value : Search

-- no record: only why it stopped, and the value
abbrev pub stopping : Stop → Search → Load
stopping stop v = record { records = []; stop = stop; value = v }

-- one record more, before the others
abbrev pub with_record : List ℕ → Load → Load
with_record row l = record { records = row ∷ l.records; stop = l.stop; value = l.value }

-- what an answer comes to, if a match goes on like this
abbrev pub on_answer : Outcome → (Match → Search → Load) → Load
on_answer (gives m u) go_on = go_on m u
on_answer (ends u) go_on = stopping ended u
on_answer (refuses n u) go_on = stopping (refused n) u

-- the answers of a search in turn, from a value on, in so many slots; a full sheet asks for no further answer
unfoldable pub load_of : (Search → Outcome) → ℕ → Search → Load
load_of next zero v = stopping full v
load_of next (suc n) v = on_answer (next v) (λ m u. with_record (record_of m) (load_of next n u))

-- refusals 9 and 10, which come before an empty sheet is full
abbrev pub barred : Bool → ℕ → ℕ → List Refusal
barred leftmost kind size = plainly 9 (other_kind leftmost kind) ∷ plainly 10 (ltb most_text size) ∷ []

-- how a call with an empty sheet stops: it is refused, or full at once
abbrev pub at_once : Option Told → Stop
at_once none = full
at_once (some t) = refused t.number

-- what a call with so many slots comes to
unfoldable pub sheet_of : Which → Tables → ℕ → List ℕ → ℕ → Search → Load
sheet_of w T kind text zero v = stopping (at_once (lowest (barred (is_leftmost w) kind (length text)))) v
sheet_of w T kind text (suc n) v = load_of (next_of w T kind text) (suc n) v

-- the sheet after it: the records, and past them what stood there
abbrev pub written : Load → List (List ℕ) → List (List ℕ)
written l rows = l.records ++ drop (length l.records) rows

-- the code's stop as such
abbrev pub stop_of : declared.Stop → Stop
stop_of stop.Full = full
stop_of stop.Ended = ended
stop_of (stop.Refused why) = refused (number why)

-- an answer says what a call comes to: why it stopped, how many records it wrote, and the value
pub record Tells (r : Filled) (l : Load) : Type 0 where
  pub stopped : stop_of r.stop ≡ l.stop
  pub counted : r.count ≡ length l.records
  pub goes_on : r.value ≡ l.value
