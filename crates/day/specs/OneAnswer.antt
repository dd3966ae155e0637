-- One answer only: for each public function of the crates that users link (`table`, `build`, `search`, `sheet`, `exports`), no second answer, and no second
-- lot of lent tables, could meet its promise. No function of theirs is excepted; inner crates are (docs/READING.md). The proofs stand in ../proofs; `one_answer` there has them all.
use Rattle.std.specs.Prelude.{◌≡◌, Bool, List, ℕ, length, Result}
use Rattle.list.specs.declared.Refusal.{Refusal as Unsound}
use Rattle.table.specs.Slots.{column_slots}
use Rattle.table.specs.Readers.{probe_of, link_of, place_of, output_of}
use Rattle.table.specs.Agrees.{Tables}
use Rattle.table.specs.declared.Counts.{Counts}
use Rattle.build.specs.Lot.{Lot}
use Rattle.build.specs.Promise.{Promise}
use Rattle.build.specs.declared.Refusal.{Refusal}
use Rattle.build.specs.declared.Refusal.TheVariants as why
use Rattle.build.specs.Outcome.{of_list}
use Rattle.search.specs.Values.{Which, begun, answer}
use Rattle.search.specs.Admission.{other_kind}
use Rattle.search.specs.Searches.{is_leftmost, next_of}
use Rattle.search.specs.declared.Search.{Search}
use Rattle.search.specs.declared.Answer.{Answer}
use Rattle.sheet.specs.declared.Filled.{Filled}
use Rattle.sheet.specs.Sheet.{Load, sheet_of, written, Tells}
use Rattle.boundary.specs.Boundary.{BuildPromise, held_in, SearchPromise}

-- two answers that are both this one
abbrev pub Only : {A : Type 0} → A → Type 0
Only {A} a = (r r' : A) → r ≡ a → r' ≡ a → r ≡ r'

-- each public function by its name
pub record OneAnswer : Type 0 where
  -- the readers of the tables, and the slots of the columns
  pub probe : (base check : List ℕ) (cells s c : ℕ) → Only (probe_of base check cells s c)
  pub link : (links depth : List ℕ) (cells s : ℕ) → Only (link_of links depth cells s)
  pub place : (output : List ℕ) (cells s : ℕ) → Only (place_of output cells s)
  pub output : (outs : List (List ℕ)) (accepted place end : ℕ) → Only (output_of outs accepted place end)
  pub column_slots_lem : (base link output check depth : ℕ) → Only (column_slots base link output check depth)
  -- a build: the answer, and every lent table
  pub build : (kind : ℕ) (bytes ends values : List ℕ) (entry exit exit' : Lot) (r r' : Result Counts Refusal)
      → Promise kind bytes ends values entry exit r
      → Promise kind bytes ends values entry exit' r'
      → (r ≡ r') × (exit ≡ exit')
  -- what an error of the list, of the trie or of the placement becomes in a build
  pub refused_list : (why : Unsound) → Only (of_list why)
  pub refused_states : Only why.FewStates
  pub refused_cells : Only why.FewCells
  -- the value that a search begins with, and the three searches
  pub fresh : Only begun
  pub next : (w : Which) (T : Tables) (kind : ℕ) (text : List ℕ) (v : Search) (r r' : Answer)
      → answer r ≡ next_of w T kind text v
      → answer r' ≡ next_of w T kind text v
      → r ≡ r'
  -- whether two values are equal, by the `==` of each type that has it
  pub equal : (same : Bool) → Only same
  -- whether tables of a kind are for another search
  pub is_other : (w : Which) (kind : ℕ) → Only (other_kind (is_leftmost w) kind)
  -- a sheet: the answer, and the sheet itself
  pub fill : (w : Which) (T : Tables) (kind : ℕ) (text : List ℕ) (v : Search) (sheet₀ sheet sheet' : List (List ℕ)) (r r' : Filled)
      → Tells r (sheet_of w T kind text (length sheet₀) v)
      → sheet ≡ written (sheet_of w T kind text (length sheet₀) v) sheet₀
      → Tells r' (sheet_of w T kind text (length sheet₀) v)
      → sheet' ≡ written (sheet_of w T kind text (length sheet₀) v) sheet₀
      → (r ≡ r') × (sheet ≡ sheet')
  -- the exported build: the number, the four beside it, and every lent table
  pub exported_build : (kind : ℕ) (bytes ends values : List ℕ) (entry exit exit' : Lot) (counts counts' : List ℕ) (r r' : ℕ)
      → BuildPromise kind bytes ends values entry exit counts r
      → BuildPromise kind bytes ends values entry exit' counts' r'
      → (r ≡ r') × (counts ≡ counts') × (exit ≡ exit')
  -- the exported searches: the number, the value in its variables, the sheet and the count
  pub exported_search : (l : Load) (sheet₀ sheet sheet' : List (List ℕ)) (state pending place moves state' pending' place' moves' count count' r r' : ℕ)
      → SearchPromise l sheet₀ state pending place moves sheet count r
      → SearchPromise l sheet₀ state' pending' place' moves' sheet' count' r'
      → (r ≡ r') × (held_in state pending place moves ≡ held_in state' pending' place' moves') × (sheet ≡ sheet') × (count ≡ count')
