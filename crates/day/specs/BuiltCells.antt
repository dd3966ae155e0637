-- Document 01's rules for cells of the tables that any good build left: the five columns of cells at exit, read slot by slot. A state's cell is the one that
-- these bases lead to, so no layout is needed but for the order of placing. The proof is `built_cells` in ../proofs.
use Rattle.std.specs.Prelude.{◌≡◌, true, false, List, [], ◌≢◌, ◌↔◌, ℕ, ◌*◌, ◌≤◌, ◌<◌, length, get_or, Some, None, Ok}
use Rattle.std.specs.Int.Bits.{bit_xor}
use Rattle.paper.specs.Lists.{snoc}
use Rattle.paper.specs.Automaton.{is_state}
use Rattle.list.specs.Limits.{alphabet, block}
use Rattle.list.specs.Claims.{Bytes}
use Rattle.plan.specs.Placement.{base_of}
use Rattle.nfa.specs.Grown.{accepted_of}
use Rattle.table.specs.Agrees.{probe_in, state_cell}
use Rattle.whole.specs.Whole.{layout_of}
use Rattle.whole.specs.CellRules.{InBlock, PlacingRules}
use Rattle.day.specs.EndToEnd.{GoodBuild, tables_left}

-- s is a state of the build: root, or it begins an accepted pattern
abbrev pub IsState : {kind : ℕ} {bytes ends values : List ℕ} → GoodBuild kind bytes ends values → List ℕ → Type 0
IsState {kind} {bytes} {ends} b s = is_state (accepted_of kind bytes ends) s ≡ true

-- it is none
abbrev pub NoState : {kind : ℕ} {bytes ends values : List ℕ} → GoodBuild kind bytes ends values → List ℕ → Type 0
NoState {kind} {bytes} {ends} b s = is_state (accepted_of kind bytes ends) s ≡ false

-- the cell of a state by the bases in the table: root's is 0, and each next one is the base xor the byte
abbrev pub cell_left : {kind : ℕ} {bytes ends values : List ℕ} → GoodBuild kind bytes ends values → List ℕ → ℕ
cell_left b s = state_cell (tables_left b) s

-- the base in that cell
abbrev pub base_left : {kind : ℕ} {bytes ends values : List ℕ} → GoodBuild kind bytes ends values → List ℕ → ℕ
base_left b s = get_or b.exit.base (cell_left b s) 0

-- a base is used: a state with a child has it
pub record UsedLeft {kind : ℕ} {bytes ends values : List ℕ} (b : GoodBuild kind bytes ends values) (u : ℕ) : Type 0 where
  pub parent : List ℕ
  pub byte : ℕ
  pub child : IsState b (snoc parent byte)
  pub has : base_left b parent ≡ u

-- u is the smallest unused base of block k
pub record SmallestLeft {kind : ℕ} {bytes ends values : List ℕ} (b : GoodBuild kind bytes ends values) (k u : ℕ) : Type 0 where
  pub there : InBlock k u
  pub unused : UsedLeft b u → ⊥
  pub smallest : (v : ℕ) → InBlock k v → v < u → UsedLeft b v

-- a cell is vacant: it is one of the cells, and neither a state's nor dead's
pub record VacantLeft {kind : ℕ} {bytes ends values : List ℕ} (b : GoodBuild kind bytes ends values) (j : ℕ) : Type 0 where
  pub inside : j < b.counts.cells
  pub not_dead : j ≢ 1
  pub not_state : (s : List ℕ) → IsState b s → cell_left b s ≢ j

-- all fields of a cell but the check are 0
pub record BlankLeft {kind : ℕ} {bytes ends values : List ℕ} (b : GoodBuild kind bytes ends values) (j : ℕ) : Type 0 where
  pub base : get_or b.exit.base j 0 ≡ 0
  pub link : get_or b.exit.link j 0 ≡ 0
  pub output : get_or b.exit.output j 0 ≡ 0
  pub depth : get_or b.exit.depth j 0 ≡ 0

-- the rules, each under its sentence
pub record BuiltCells {kind : ℕ} {bytes ends values : List ℕ} (b : GoodBuild kind bytes ends values) : Type 0 where
  -- "Blocks of 256 cells; one block always exists"
  pub blocks : (n : ℕ) × (1 ≤ n) × (b.counts.cells ≡ n * block)
  -- "Cell 0 is root", by the definition of `cell_left`: and no other state is there
  pub root : cell_left b [] ≡ 0
  pub root_alone : (s : List ℕ) → IsState b s → cell_left b s ≡ 0 → s ≡ []
  -- "1 is dead": no state is there
  pub dead_alone : (s : List ℕ) → IsState b s → cell_left b s ≢ 1
  -- each state has a cell of its own
  pub inside : (s : List ℕ) → IsState b s → cell_left b s < b.counts.cells
  pub apart : (s t : List ℕ) → IsState b s → IsState b t → cell_left b s ≡ cell_left b t → s ≡ t
  -- "A state with children has base b, never 0"
  pub nonzero : (s : List ℕ) (c : ℕ) → IsState b (snoc s c) → base_left b s ≢ 0
  -- "used by no other state"
  pub unshared : (s t : List ℕ) (c : ℕ) → IsState b (snoc s c) → IsState b t → base_left b s ≡ base_left b t → s ≡ t
  -- "its child on byte c sits at b xor c", by the definition of `cell_left`: that no other state sits there is `apart`, that a probe finds it is `probe`
  pub child : (s : List ℕ) (c : ℕ) → cell_left b (snoc s c) ≡ bit_xor (base_left b s) c
  -- "with check c"
  pub child_check : (s : List ℕ) (c : ℕ) → IsState b (snoc s c) → get_or b.exit.check (bit_xor (base_left b s) c) 0 ≡ c
  -- "Childless: base 0"
  pub childless : (s : List ℕ) → IsState b s → ((c : ℕ) → NoState b (snoc s c)) → base_left b s ≡ 0
  -- "from which every probe fails"
  pub probe_fails : (s : List ℕ) (c : ℕ) → IsState b s → base_left b s ≡ 0 → probe_in (tables_left b) (cell_left b s) c ≡ Ok None
  -- "For every state and every byte, a probe is accepted exactly when that state has that child"
  pub probe : (s : List ℕ) (c : ℕ) → IsState b s → c < alphabet
      → (probe_in (tables_left b) (cell_left b s) c ≡ Ok (Some (record { 0 = cell_left b (snoc s c) }))) ↔ IsState b (snoc s c)
  -- "0 counts as unused"
  pub zero_unused : UsedLeft b 0 → ⊥
  -- "in each block with an unused base, let u be the smallest: each vacant cell there gets the check c with u xor c equal to the cell"
  pub vacant_check : (k u j : ℕ) → SmallestLeft b k u → InBlock k j → VacantLeft b j → bit_xor u (get_or b.exit.check j 0) ≡ j
  -- "and in block 0 cells 0 and 1"
  pub low_check : (u j : ℕ) → SmallestLeft b 0 u → j ≤ 1 → bit_xor u (get_or b.exit.check j 0) ≡ j
  -- "A block with no unused base has no vacant cell"
  pub filled : (k j : ℕ) → ((u : ℕ) → InBlock k u → UsedLeft b u) → InBlock k j → VacantLeft b j → ⊥
  -- "Other fields of vacant and dead cells are 0"
  pub vacant_blank : (j : ℕ) → VacantLeft b j → BlankLeft b j
  pub dead_blank : BlankLeft b 1
  -- "each state's depth in its cell (0 for root, dead and vacant)"
  pub depth : (s : List ℕ) → IsState b s → get_or b.exit.depth (cell_left b s) 0 ≡ length s
  -- the bases are those that the groups get in their order, and the blocks are those that they need
  pub placing : PlacingRules (accepted_of kind bytes ends)
  pub placed : (s : List ℕ) → IsState b s → base_left b s ≡ base_of (layout_of (accepted_of kind bytes ends)) s
  pub placed_blocks : b.counts.cells ≡ (layout_of (accepted_of kind bytes ends)).blocks * block

-- what is proved, for any list, kind and tables at entry
pub record BuiltCellsClaims : Type 0 where
  pub built_cells : (kind : ℕ) (bytes ends values : List ℕ) (b : GoodBuild kind bytes ends values) → Bytes bytes → BuiltCells b
