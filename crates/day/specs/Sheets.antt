-- The same day told by sheets: what a call of a fresh search writes, why it stops, and the place and the moves that it hands back, for any number of
-- slots. By `joined` of the crate `sheet` calls in turn do what one call with all their slots does, and after the end there is only the end: so this tells
-- every call.
use Rattle.std.specs.Prelude.{◌≡◌, List, [], ◌∷◌, map, ℕ, suc, ◌≤◌, ltb, length, take}
use Rattle.paper.specs.Lists.{pick}
use Rattle.paper.specs.Patterns.{Choice}
use Rattle.paper.specs.Matches.{Match, with_payloads, overlapping, plain, leftmost_by}
use Rattle.list.specs.Limits.{most_text}
use Rattle.list.specs.Claims.{Bytes}
use Rattle.search.specs.Values as search
use Rattle.search.specs.Values.{Which, begun}
use Rattle.sheet.specs.Sheet.{full, ended, Load, stopping, sheet_of}
use Rattle.meaning.specs.Demands.{value_in, kind_number, walk_moves, plain_moves, no_moves}
use Rattle.day.specs.EndToEnd.{GoodBuild, tables_left, listed}

-- a match with its value as a record
abbrev pub record_in : Match ℕ → List ℕ
record_in m = m.start ∷ m.end ∷ m.payload ∷ []

-- what a fresh search with so many slots comes to, over the tables of a good build
abbrev pub sheet : {kind : ℕ} {bytes ends values : List ℕ} → GoodBuild kind bytes ends values → Which → List ℕ → ℕ → Load
sheet b w text slots = sheet_of w (tables_left b) b.counts.kind text slots begun

-- where the last of some matches ends; p if there is none
abbrev pub last_end : ℕ → List (Match ℕ) → ℕ
last_end p [] = p
last_end p (m ∷ l) = last_end m.end l

-- the bytes that are taken for these matches in so many slots, p of them before: the whole text with a slot to spare, else up to the last match written
abbrev pub bytes_taken : List ℕ → ℕ → List (Match ℕ) → ℕ → ℕ
bytes_taken text slots l p = pick (ltb (length l) slots) (length text) (last_end p (take slots l))

-- what a call comes to that finds these matches, from a value that has taken p bytes; a fresh one has taken none
pub record Holds (moves : List ℕ → ℕ) (text : List ℕ) (slots : ℕ) (l : List (Match ℕ)) (p : ℕ) (load : Load) : Type 0 where
  -- the records are the first of them, as many as there are slots
  pub records_are : load.records ≡ map record_in (take slots l)
  -- with a slot to spare the call is at the end, else the sheet is full
  pub stops : load.stop ≡ pick (ltb (length l) slots) ended full
  -- the value has taken the bytes up to the last match written, or the whole text
  pub taken : load.value.place ≡ bytes_taken text slots l p
  -- and has made the moves over just these bytes
  pub moved : load.value.moves ≡ moves (take (bytes_taken text slots l p) text)

-- the sheets of a search that finds these matches
pub record SheetDay {kind : ℕ} {bytes ends values : List ℕ} (b : GoodBuild kind bytes ends values) (w : Which) (moves : List ℕ → ℕ) (text : List ℕ)
    (l : List (Match ℕ)) : Type 0 where
  -- what a call of a fresh search comes to
  pub holds : (slots : ℕ) → Holds moves text slots l 0 (sheet b w text slots)
  -- after the end every further call with slots writes nothing and gives the end and the value again
  pub end_again : (slots k : ℕ) → (sheet b w text slots).stop ≡ ended
      → sheet_of w (tables_left b) b.counts.kind text (suc k) (sheet b w text slots).value ≡ stopping ended (sheet b w text slots).value

-- what is proved, for any pattern bytes, ends, values and tables at entry, any text of bytes within the limit, and any number of slots
pub record SheetDayClaims : Type 0 where
  -- kind 0: the overlapping list, and the plain one
  pub overlapping_sheets : (bytes ends values text : List ℕ) (b : GoodBuild 0 bytes ends values) → Bytes bytes → Bytes text → length text ≤ most_text
      → SheetDay b search.overlapping (walk_moves (listed bytes ends)) text (with_payloads (value_in values) (overlapping (listed bytes ends) text))
  pub plain_sheets : (bytes ends values text : List ℕ) (b : GoodBuild 0 bytes ends values) → Bytes bytes → Bytes text → length text ≤ most_text
      → SheetDay b search.plain (plain_moves (listed bytes ends)) text (with_payloads (value_in values) (plain (listed bytes ends) text))
  -- kinds 1 and 2: the leftmost list
  pub leftmost_sheets : (c : Choice) (bytes ends values text : List ℕ) (b : GoodBuild (kind_number c) bytes ends values) → Bytes bytes → Bytes text
      → length text ≤ most_text
      → SheetDay b search.leftmost no_moves text (with_payloads (value_in values) (leftmost_by c (listed bytes ends) text))
