-- Document 01's rules for cells, sentence by sentence, of the layout and the cells that a build makes of its accepted patterns: 256 letters, blocks of
-- 256 cells, a range of the last 16 blocks. The proof is `cell_rules` in ../proofs. `BuiltCells` of the crate day says them of the tables that are lent.
use Rattle.std.specs.Prelude.{◌≡◌, true, false, List, [], ◌∷◌, ◌++◌, reverse, ◌≢◌, ◌⊎◌, ◌↔◌, ℕ, suc, ◌+◌, ◌*◌, ◌≤◌, ◌<◌, length, get_or, take}
use Rattle.std.specs.Int.Bits.{bit_xor}
use Rattle.paper.specs.Lists.{snoc}
use Rattle.paper.specs.Patterns.{Entry, Kind}
use Rattle.paper.specs.Automaton.{is_state}
use Rattle.list.specs.Limits.{alphabet, block, most_bytes, window_blocks}
use Rattle.plan.specs.Breadth.{kids}
use Rattle.plan.specs.Groups.{Group, own_group, flat, Grouping}
use Rattle.plan.specs.Placement.{Layout, one_block, vacant, used_base, base_of, cell_of, window_start, InRange, Added}
use Rattle.plan.specs.Cells.{Cell, Smallest}
use Rattle.groups.specs.Ordered.{groups_of, no_group}
use Rattle.placement.specs.Laid.{laid_out}
use Rattle.whole.specs.Whole.{layout_of, cells_of}

-- ---- where the groups are placed

-- the groups that a stack of states stands for, from its top on
abbrev pub stack_groups : List Entry → List (List ℕ) → List Group
stack_groups es stack = flat alphabet (is_state es) most_bytes stack

-- the layout after the first k groups
abbrev pub layout_after : List Entry → ℕ → Layout
layout_after es k = laid_out (take k (groups_of es))

-- the layout after a group, by the layout before it: the first index of the last 16 blocks that serves has its base; or none does, and it is the first
-- with a block more
abbrev pub PlacesNext : Layout → Group → Layout → Type 0
PlacesNext before g after = InRange block (window_start window_blocks) before g after ⊎ Added block (window_start window_blocks) before g after

-- the order of the groups, and how each gets its base
pub record PlacingRules (es : List Entry) : Type 0 where
  -- a group is a state with children, with its child bytes: each once
  pub groups : Grouping alphabet (is_state es) (groups_of es)
  -- "Sibling groups go depth first from a stack": root is on it at first
  pub stack_begun : stack_groups es ([] ∷ []) ≡ groups_of es
  -- "children are pushed by rising byte, so the highest byte's subtree comes first": the state on top gives its group and then has its children in its place
  pub stack_popped : (s : List ℕ) (stack : List (List ℕ))
      → stack_groups es (s ∷ stack) ≡ own_group alphabet (is_state es) s ++ stack_groups es (reverse (kids alphabet (is_state es) s) ++ stack)
  -- an empty stack has no more groups
  pub stack_empty : stack_groups es [] ≡ []
  -- "one block always exists": it is there before the first group
  pub one_block_lem : layout_after es 0 ≡ one_block
  -- "For each vacant index i, rising, try base i xor (lowest child byte); take the first that is nonzero, unused, and whose children's cells are all vacant.
  -- None: add a block and look again from the start of the range. The range is the last 16 blocks"
  pub first_fit_lem : (k : ℕ) → k < length (groups_of es) → PlacesNext (layout_after es k) (get_or (groups_of es) k no_group) (layout_after es (suc k))
  -- the layout is the one after all groups
  pub all_placed : layout_after es (length (groups_of es)) ≡ layout_of es

-- ---- what each cell holds

-- what is read where no cell is
abbrev pub nowhere : Cell
nowhere = record { base = 0; link = 0; output = 0; check = 0; depth = 0 }

-- what cell j of a build holds
abbrev pub cell_held : Kind → List Entry → ℕ → Cell
cell_held kind es j = get_or (cells_of kind es) j nowhere

-- a cell with a check and nothing else
abbrev pub check_alone : ℕ → Cell
check_alone c = record { base = 0; link = 0; output = 0; check = c; depth = 0 }

-- j is in block k
abbrev pub InBlock : ℕ → ℕ → Type 0
InBlock k j = (k * block ≤ j) × (j < k * block + block)

-- the cells of the layout
pub record CellRules (kind : Kind) (es : List Entry) : Type 0 where
  -- how the groups are placed
  pub placing : PlacingRules es
  -- "Blocks of 256 cells"
  pub blocks : length (cells_of kind es) ≡ (layout_of es).blocks * block
  -- "one block always exists"
  pub some_block : 1 ≤ (layout_of es).blocks
  -- "Cell 0 is root": no other state is there
  pub root : cell_of (layout_of es) [] ≡ 0
  pub root_alone : (s : List ℕ) → is_state es s ≡ true → cell_of (layout_of es) s ≡ 0 → s ≡ []
  -- "1 is dead": no state is there
  pub dead_alone : (s : List ℕ) → is_state es s ≡ true → cell_of (layout_of es) s ≢ 1
  -- each state has a cell of its own in the blocks
  pub inside : (s : List ℕ) → is_state es s ≡ true → cell_of (layout_of es) s < (layout_of es).blocks * block
  pub apart : (s t : List ℕ) → is_state es s ≡ true → is_state es t ≡ true → cell_of (layout_of es) s ≡ cell_of (layout_of es) t → s ≡ t
  -- which holds its base
  pub base : (s : List ℕ) → is_state es s ≡ true → (cell_held kind es (cell_of (layout_of es) s)).base ≡ base_of (layout_of es) s
  -- "A state with children has base b, never 0"
  pub nonzero : (s : List ℕ) (c : ℕ) → is_state es (snoc s c) ≡ true → base_of (layout_of es) s ≢ 0
  -- "used by no other state"
  pub unshared : (s t : List ℕ) (c : ℕ) → is_state es (snoc s c) ≡ true → base_of (layout_of es) s ≡ base_of (layout_of es) t → s ≡ t
  -- "its child on byte c sits at b xor c"
  pub child : (s : List ℕ) (c : ℕ) → cell_of (layout_of es) (snoc s c) ≡ bit_xor (base_of (layout_of es) s) c
  -- "with check c"
  pub child_check : (s : List ℕ) (c : ℕ) → is_state es (snoc s c) ≡ true → (cell_held kind es (cell_of (layout_of es) (snoc s c))).check ≡ c
  -- "Childless: base 0"
  pub childless : (s : List ℕ) → ((c : ℕ) → is_state es (snoc s c) ≡ false) → base_of (layout_of es) s ≡ 0
  -- "For every state and every byte, a probe is accepted exactly when that state has that child": the base is not 0, "from which every probe fails", and the
  -- cell at the base xor the byte has the byte for its check
  pub probe : (s : List ℕ) (c : ℕ) → is_state es s ≡ true → c < alphabet
      → ((base_of (layout_of es) s ≢ 0) × ((cell_held kind es (bit_xor (base_of (layout_of es) s) c)).check ≡ c)) ↔ (is_state es (snoc s c) ≡ true)
  -- a base is used if a state with a child has it; "0 counts as unused"
  pub used : (u : ℕ) → (used_base (layout_of es) u ≡ true) ↔ ((s : List ℕ) × (c : ℕ) × (is_state es (snoc s c) ≡ true) × (base_of (layout_of es) s ≡ u))
  pub zero_unused : used_base (layout_of es) 0 ≡ false
  -- a cell is vacant if it is neither a state's nor dead's
  pub vacancy : (j : ℕ) → (vacant (layout_of es) j ≡ true) ↔ ((j ≢ 1) × ((s : List ℕ) → is_state es s ≡ true → cell_of (layout_of es) s ≢ j))
  -- "in each block with an unused base, let u be the smallest: each vacant cell there gets the check c with u xor c equal to the cell"
  pub vacant_check : (k u : ℕ) → k < (layout_of es).blocks → Smallest block (layout_of es) k u → (j : ℕ) → InBlock k j → vacant (layout_of es) j ≡ true
      → bit_xor u (cell_held kind es j).check ≡ j
  -- "and in block 0 cells 0 and 1"
  pub low_check : (u : ℕ) → Smallest block (layout_of es) 0 u → (j : ℕ) → j ≤ 1 → bit_xor u (cell_held kind es j).check ≡ j
  -- "A block with no unused base has no vacant cell"
  pub filled : (k : ℕ) → ((b : ℕ) → InBlock k b → used_base (layout_of es) b ≡ true) → (j : ℕ) → InBlock k j → vacant (layout_of es) j ≡ false
  -- "Other fields of vacant and dead cells are 0"
  pub vacant_cell : (j : ℕ) → j < (layout_of es).blocks * block → vacant (layout_of es) j ≡ true → cell_held kind es j ≡ check_alone (cell_held kind es j).check
  pub dead_cell : cell_held kind es 1 ≡ check_alone (cell_held kind es 1).check
  -- "each state's depth in its cell (0 for root, dead and vacant)"
  pub depth : (s : List ℕ) → is_state es s ≡ true → (cell_held kind es (cell_of (layout_of es) s)).depth ≡ length s
