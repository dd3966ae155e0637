-- When tables agree with the accepted patterns of a kind: what builds give and searches use, in the readers' answers alone. It says nothing of
-- where groups lie, of vacant cells, of the order in which states were made, nor of output places beyond the readers' own tests.
use Rattle.std.specs.Prelude.{◌≡◌, true, false, List, [], ◌∷◌, ℕ, ◌≤◌, ◌<◌, length, get_or, Option, Some, None, Result, Ok, Err}
use Rattle.std.specs.Int.Bits.{bit_xor}
use Rattle.paper.specs.Lists.{snoc}
use Rattle.paper.specs.Patterns.{Entry, Kind}
use Rattle.paper.specs.Automaton.{machine, is_state, Link, dead, to, link, output}
use Rattle.list.specs.Limits.{alphabet}
use Rattle.table.specs.Readers.{probe_of, link_of, place_of, output_of}
use Rattle.table.specs.declared.CellId.{CellId}
use Rattle.table.specs.declared.Counts.{Counts}
use Rattle.table.specs.declared.Damage.{Damage}
use Rattle.table.specs.declared.Row.{Row}
use Rattle.table.specs.declared.Tables as declared

-- what a search is lent: five columns of cells, the rows of the outputs, how many cells are in use, and how many patterns were accepted
pub record Tables : Type 0 where
  pub base : List ℕ
  pub link : List ℕ
  pub output : List ℕ
  pub check : List ℕ
  pub depth : List ℕ
  pub outs : List (List ℕ)
  pub cells : ℕ
  pub accepted : ℕ

-- the tables of these columns and rows, with the counts of a build
abbrev pub tables_from : List ℕ → List ℕ → List ℕ → List ℕ → List ℕ → List (List ℕ) → Counts → Tables
tables_from base link output check depth outs counts =
    record { base = base; link = link; output = output; check = check; depth = depth; outs = outs; cells = counts.cells; accepted = counts.accepted }

-- the tables as a search is lent them
abbrev pub lent : declared.Tables → Tables
lent t = tables_from t.base.now t.link.now t.output.now t.check.now t.depth.now t.outs.now t.counts

-- ---- the readers on these tables

-- the child of the state in cell i on a byte
abbrev pub probe_in : Tables → ℕ → ℕ → Result (Option CellId) Damage
probe_in T i c = probe_of T.base T.check T.cells i c

-- where the state in cell i links to
abbrev pub link_in : Tables → ℕ → Result CellId Damage
link_in T i = link_of T.link T.depth T.cells i

-- where the outputs of the state in cell i begin
abbrev pub place_in : Tables → ℕ → Result (Option ℕ) Damage
place_in T i = place_of T.output T.cells i

-- the output at a place, for a match that ends at `end`
abbrev pub output_in : Tables → ℕ → ℕ → Result (Option Row) Damage
output_in T place end = output_of T.outs T.accepted place end

-- ---- the cells of states

-- along the bytes from cell i: each next cell is the base xor the byte
unfoldable pub cell_in : List ℕ → ℕ → List ℕ → ℕ
cell_in base i [] = i
cell_in base i (c ∷ w) = cell_in base (bit_xor (get_or base i 0) c) w

-- the cell of a state; root's is 0
abbrev pub state_cell : Tables → List ℕ → ℕ
state_cell T s = cell_in T.base 0 s

-- the cell of a link's target; dead's is 1
abbrev pub target_of : Tables → Link → ℕ
target_of T dead = 1
target_of T (to r) = state_cell T r

-- ---- the outputs

-- at the place stands the entry, with its value and its length, for each end that leaves room for it; the next place is told
pub record GivesAt (T : Tables) (values : List ℕ) (place : ℕ) (x : Entry) : Type 0 where
  pub next : ℕ
  pub given : (end : ℕ) → length x.word ≤ end
      → output_in T place end ≡ Ok (Some (record { value = get_or values x.row 0; length = length x.word; next = next }))

-- the chain from a place gives these entries, then nothing
abbrev pub Chain : Tables → List ℕ → ℕ → List Entry → Type 0
Chain T values place [] = place ≡ 0
Chain T values place (x ∷ xs) = (t : GivesAt T values place x) × Chain T values t.next xs

-- so does the chain of a state, which has no place if it has no entries
abbrev pub ChainOf : Tables → List ℕ → Result (Option ℕ) Damage → List Entry → Type 0
ChainOf T values (Ok (Some p)) xs = Chain T values p xs
ChainOf T values (Ok None) xs = xs ≡ []
ChainOf T values (Err d) xs = ⊥

-- ---- the sentence

-- the tables have room for the cells and for the outputs
pub record Rooms (T : Tables) : Type 0 where
  pub base_room : T.cells ≤ length T.base
  pub link_room : T.cells ≤ length T.link
  pub output_room : T.cells ≤ length T.output
  pub check_room : T.cells ≤ length T.check
  pub depth_room : T.cells ≤ length T.depth
  pub outs_room : T.accepted ≤ length T.outs

-- the tables agree with the accepted patterns of a kind, whose values are given by their rows; no damage is met from a state
pub record Agrees (T : Tables) (kind : Kind) (es : List Entry) (values : List ℕ) : Type 0 where
  -- cells 0 and 1, root's and dead's, are there
  pub two : 2 ≤ T.cells
  -- as many patterns were accepted as it is said
  pub counted : T.accepted ≡ length es
  -- there is room for all of it
  pub rooms : Rooms T
  -- a state's cell is there
  pub inside : (s : List ℕ) → is_state es s ≡ true → state_cell T s < T.cells
  -- no two states have the same cell
  pub apart : (s t : List ℕ) → is_state es s ≡ true → is_state es t ≡ true → state_cell T s ≡ state_cell T t → s ≡ t
  -- no state has dead's cell
  pub living : (s : List ℕ) → is_state es s ≡ true → state_cell T s ≡ 1 → ⊥
  -- a probe finds the child of a state that has it
  pub child : (s : List ℕ) (c : ℕ) → is_state es (snoc s c) ≡ true → probe_in T (state_cell T s) c ≡ Ok (Some (record { 0 = state_cell T (snoc s c) }))
  -- it finds nothing where the state has no such child
  pub childless : (s : List ℕ) (c : ℕ) → is_state es s ≡ true → c < alphabet → is_state es (snoc s c) ≡ false
      → probe_in T (state_cell T s) c ≡ Ok None
  -- a state other than root links where the automaton says
  pub links : (x : ℕ) (xs : List ℕ) → is_state es (x ∷ xs) ≡ true
      → link_in T (state_cell T (x ∷ xs)) ≡ Ok (record { 0 = target_of T (link (machine kind es) (x ∷ xs)) })
  -- the depth of a state is its length
  pub depths : (s : List ℕ) → is_state es s ≡ true → get_or T.depth (state_cell T s) 0 ≡ length s
  -- a state's chain gives what the automaton puts out there
  pub outputs : (s : List ℕ) → is_state es s ≡ true → ChainOf T values (place_in T (state_cell T s)) (output (machine kind es) s)
