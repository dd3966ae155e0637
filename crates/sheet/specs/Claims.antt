-- What is proved of a sheet. The proofs stand in ../proofs; `claims` there has them all. That the records are the matches of document 01's lists is
-- told in the crate `day`.
use Rattle.std.specs.Prelude.{◌≡◌, List, ◌++◌, ◌⊎◌, ℕ, suc, ◌+◌, ◌≤◌, length}
use Rattle.std.proofs.Math.Option.{some}
use Rattle.list.specs.Refusals.{Told, lowest}
use Rattle.table.specs.Agrees.{Tables}
use Rattle.search.specs.declared.Search.{Search}
use Rattle.search.specs.Values.{Which}
use Rattle.search.specs.Searches.{is_leftmost}
use Rattle.sheet.specs.declared.Filled.{Filled}
use Rattle.sheet.specs.Sheet.{Load, full, ended, refused, stopping, barred, sheet_of, Tells}

-- these records before those of a load
abbrev pub after : List (List ℕ) → Load → Load
after rows l = record { records = rows ++ l.records; stop = l.stop; value = l.value }

pub record SheetClaims (w : Which) (T : Tables) (kind : ℕ) (text : List ℕ) (v : Search) : Type 0 where
  -- no second answer could meet the promise
  pub one_answer : (n : ℕ) (r r' : Filled) → Tells r (sheet_of w T kind text n v) → Tells r' (sheet_of w T kind text n v) → r ≡ r'
  -- no more records than slots
  pub within : (n : ℕ) → length (sheet_of w T kind text n v).records ≤ n
  -- a full sheet has a record in each
  pub full_slots : (n : ℕ) → (sheet_of w T kind text n v).stop ≡ full → length (sheet_of w T kind text n v).records ≡ n
  -- records over several calls, joined, are those of one call: after a full sheet, a further one goes on as a longer sheet would have
  pub joined : (n k : ℕ) → (sheet_of w T kind text n v).stop ≡ full
      → sheet_of w T kind text (n + suc k) v ≡ after (sheet_of w T kind text n v).records (sheet_of w T kind text (suc k) (sheet_of w T kind text n v).value)
  -- after the end a further call with slots writes nothing and gives the end and the value again, unless it meets damage
  pub end_again : (n k : ℕ) → (sheet_of w T kind text n v).stop ≡ ended
      → (sheet_of w T kind text (suc k) (sheet_of w T kind text n v).value ≡ stopping ended (sheet_of w T kind text n v).value)
      ⊎ (sheet_of w T kind text (suc k) (sheet_of w T kind text n v).value ≡ stopping (refused 11) (sheet_of w T kind text n v).value)
  -- 9 and 10 are told whatever slots there are, with no record and the value as it was
  pub told_first : (n : ℕ) (t : Told) → lowest (barred (is_leftmost w) kind (length text)) ≡ some t → sheet_of w T kind text n v ≡ stopping (refused t.number) v
