-- One group: what is asked before it is placed, and what its base and its children's cells are then.
use Rattle.std.specs.Prelude.{◌≡◌, Bool, true, false, List, [], ℕ, ◌*◌, ◌≤◌, ◌<◌, length, get_or, Result, Ok, Err}
use Rattle.std.proofs.Math.Option.{none, some}
use Rattle.std.specs.Int.Bits.{bit_xor}
use Rattle.zeros.specs.Rows.{field}
use Rattle.paper.specs.Patterns.{Entry}
use Rattle.paper.specs.Automaton.{is_state}
use Rattle.list.specs.Limits.{alphabet, block, most_cells}
use Rattle.plan.specs.Names.{names}
use Rattle.plan.specs.Breadth.{kid_bytes}
use Rattle.plan.specs.Groups.{Group}
use Rattle.plan.specs.Placement.{Layout, look, put, place, Good}
use Rattle.trie.specs.Trie.{Kid}
use Rattle.trie.specs.Stands.{Stands}
use Rattle.spots.specs.Charted.{with_used, with_seated, Charted, GroupAt}
use Rattle.placement.specs.Laid.{first_block}
use Rattle.placement.specs.declared.FewCells.{FewCells}

-- the state s of a trie has a row of notes, and so has each of its children
pub record State (es : List Entry) (trie notes : List (List ℕ)) (s : ℕ) : Type 0 where
  pub stands : Stands es trie
  pub notes_room : length (names alphabet es) ≤ length notes
  pub inside : s < length (names alphabet es)

-- the base and its children's cells are in the chart
pub record Seat (es : List Entry) (trie notes spots : List (List ℕ)) (s base : ℕ) : Type 0 where
  pub state : State es trie notes s
  pub base_room : base < length spots
  pub cell_room : (c : ℕ) → c < alphabet → bit_xor base c < length spots

-- some patterns for which this holds
pub record SeatSome (trie notes spots : List (List ℕ)) (s base : ℕ) : Type 0 where
  pub es : List Entry
  pub seat : Seat es trie notes spots s base

-- each child of the state s has the base xor its byte for its cell; the other states' cells and the other notes are as they were
pub record Children (es : List Entry) (s base : ℕ) (notes₀ notes : List (List ℕ)) : Type 0 where
  pub seated : (c t : ℕ) → Kid alphabet (names alphabet es) (get_or (names alphabet es) s []) c t → field notes t 5 ≡ bit_xor base c
  pub others : (t : ℕ) → ((c : ℕ) → Kid alphabet (names alphabet es) (get_or (names alphabet es) s []) c t → ⊥) → field notes t 5 ≡ field notes₀ t 5
  pub kept : (k f : ℕ) → f < 5 → field notes k f ≡ field notes₀ k f

-- the children of s are seated, and the chart has the base used and their cells taken
pub record SeatedAt (es : List Entry) (s base : ℕ) (notes₀ notes spots₀ spots : List (List ℕ)) : Type 0 where
  pub children : Children es s base notes₀ notes
  pub chart : spots ≡ with_seated (with_used spots₀ base) base (kid_bytes alphabet (is_state es) (get_or (names alphabet es) s []))

-- the state s has children, and the chart is that of a good layout of so many blocks
pub record Look (es : List Entry) (l : Layout) (trie notes spots : List (List ℕ)) (s blocks : ℕ) : Type 0 where
  pub state : State es trie notes s
  pub parent : field trie s 0 ≡ 0 → ⊥
  pub charted : Charted spots l
  pub good : Good alphabet l
  pub blocks_are : blocks ≡ l.blocks
  pub room : blocks * block ≤ length spots
  pub few : blocks * block ≤ most_cells

-- some patterns, a layout and a group for which this holds
pub record LookSome (trie notes spots : List (List ℕ)) (s blocks : ℕ) : Type 0 where
  pub es : List Entry
  pub layout : Layout
  pub group : Group
  pub look : Look es layout trie notes spots s blocks
  pub of : GroupAt es s group

-- the group of s is placed: the chart is that of the layout with it, its base being that of index i
pub record PlacedAt (es : List Entry) (l : Layout) (g : Group) (s i : ℕ) (notes₀ notes spots : List (List ℕ)) : Type 0 where
  pub charted : Charted spots (put l g i)
  pub children : Children es s (bit_xor i g.low) notes₀ notes

-- the look found the index at which the group is placed; or it found none, and nothing is placed
abbrev pub Looked : List Entry → Layout → Group → ℕ → List (List ℕ) → List (List ℕ) → List (List ℕ) → Bool → Type 0
Looked es l g s notes₀ notes spots true = (i : ℕ) × (look block first_block l g ≡ some i) × PlacedAt es l g s i notes₀ notes spots
Looked es l g s notes₀ notes spots false = (look block first_block l g ≡ none) × Charted spots l × (notes ≡ notes₀)

-- so many blocks may be used, and no fewer are
pub record Turn (es : List Entry) (l : Layout) (trie notes spots : List (List ℕ)) (s blocks most : ℕ) : Type 0 where
  pub looks : Look es l trie notes spots s blocks
  pub under : blocks ≤ most
  pub room : most * block ≤ length spots
  pub few : most * block ≤ most_cells

-- some patterns, a layout and a group for which this holds
pub record TurnSome (trie notes spots : List (List ℕ)) (s blocks most : ℕ) : Type 0 where
  pub es : List Entry
  pub layout : Layout
  pub group : Group
  pub turn : Turn es layout trie notes spots s blocks most
  pub of : GroupAt es s group

-- the group is placed within the blocks that may be used
pub record Turned (es : List Entry) (l : Layout) (g : Group) (s : ℕ) (notes₀ notes spots : List (List ℕ)) (most blocks : ℕ) : Type 0 where
  pub index : ℕ
  pub before : Layout
  pub is : place block first_block l g ≡ put before g index
  pub older : before.placed ≡ l.placed
  pub blocks_are : blocks ≡ (place block first_block l g).blocks
  pub under : blocks ≤ most
  pub at : PlacedAt es before g s index notes₀ notes spots

-- the group is placed; or that takes more blocks than may be used
abbrev pub TurnedOk : List Entry → Layout → Group → ℕ → List (List ℕ) → List (List ℕ) → List (List ℕ) → ℕ → Result ℕ FewCells → Type 0
TurnedOk es l g s notes₀ notes spots most (Ok blocks) = Turned es l g s notes₀ notes spots most blocks
TurnedOk es l g s notes₀ notes spots most (Err few) = most < (place block first_block l g).blocks
