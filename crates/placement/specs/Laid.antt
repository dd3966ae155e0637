-- A placed layout in the tables: the chart of the cells, and each state's cell.
use Rattle.std.specs.Prelude.{◌≡◌, ℕ, ◌*◌, ◌≤◌, ◌<◌, length, set, replicate, Result, Ok, Err}
use mathlib.Core.List.{List, [], ◌∷◌, Memᴰ}
use Rattle.std.specs.Int.Bits.{bit_xor}
use Rattle.zeros.specs.Rows.{zeros, field}
use Rattle.paper.specs.Patterns.{Entry}
use Rattle.paper.specs.Automaton.{is_state}
use Rattle.list.specs.Limits.{alphabet, block, most_cells}
use Rattle.list.specs.Limits as limits
use Rattle.plan.specs.Names.{names}
use Rattle.plan.specs.Groups.{Group, Grouping}
use Rattle.plan.specs.Placement.{Placed, Layout, one_block, place_all}
use Rattle.plan.specs.Placement as placing
use Rattle.trie.specs.Trie.{Kid}
use Rattle.trie.specs.Stands.{Stands}
use Rattle.groups.specs.Ordered.{Ordered}
use Rattle.spots.specs.Charted.{Charted}
use Rattle.placement.specs.declared.FewCells.{FewCells}

-- the rows with one field of row k anew: the cell of state k
abbrev pub with_cell : List (List ℕ) → ℕ → ℕ → List (List ℕ)
with_cell rows k v = set rows k (field rows k 0 ∷ field rows k 1 ∷ field rows k 2 ∷ field rows k 3 ∷ field rows k 4 ∷ v ∷ [])

-- the block at which the range begins: it has the last blocks of so many
abbrev pub first_block : ℕ → ℕ
first_block = placing.window_start limits.window_blocks

-- the layout of groups in their order
abbrev pub laid_out : List Group → Layout
laid_out gs = place_all block first_block one_block gs

-- root's cell is 0, dead's is 1, and each child of a placed group has the base xor its byte
pub record Seated (es : List Entry) (notes : List (List ℕ)) (l : Layout) : Type 0 where
  pub root : field notes 0 5 ≡ 0
  pub dead : field notes 1 5 ≡ 1
  pub child : (p : Placed) → Memᴰ p l.placed → (c t : ℕ) → Kid alphabet (names alphabet es) p.group.parent c t
      → field notes t 5 ≡ bit_xor p.base c

-- the tables are those of the layout
pub record Laid (es : List Entry) (notes spots : List (List ℕ)) (l : Layout) : Type 0 where
  pub seated : Seated es notes l
  pub charted : Charted spots l

-- the trie stands, a table has all its groups in some order, and the cells are untouched; `most` blocks of them may be used
pub record Placeable (es : List Entry) (gs : List Group) (trie notes spots : List (List ℕ)) (count most : ℕ) : Type 0 where
  pub stands : Stands es trie
  pub notes_room : length (names alphabet es) ≤ length notes
  pub ordered : Ordered es notes count gs
  pub grouping : Grouping alphabet (is_state es) gs
  pub blank : spots ≡ replicate (length spots) (zeros 2)
  pub room : most * block ≤ length spots
  pub few : most * block ≤ most_cells

-- some patterns and an order for which this holds
pub record PlaceableSome (trie notes spots : List (List ℕ)) (count most : ℕ) : Type 0 where
  pub es : List Entry
  pub gs : List Group
  pub placeable : Placeable es gs trie notes spots count most

-- the layout stands in the tables; the other fields of the notes are as they were
pub record LaidOut (es : List Entry) (gs : List Group) (notes₀ notes spots : List (List ℕ)) (most blocks : ℕ) : Type 0 where
  pub blocks_are : blocks ≡ (laid_out gs).blocks
  pub enough : blocks ≤ most
  pub laid : Laid es notes spots (laid_out gs)
  pub kept : (k f : ℕ) → f < 5 → field notes k f ≡ field notes₀ k f

-- the layout stands; or it needs more blocks than may be used
abbrev pub PlacedAll : List Entry → List Group → List (List ℕ) → List (List ℕ) → List (List ℕ) → ℕ → Result ℕ FewCells → Type 0
PlacedAll es gs notes₀ notes spots most (Ok blocks) = LaidOut es gs notes₀ notes spots most blocks
PlacedAll es gs notes₀ notes spots most (Err few) = most < (laid_out gs).blocks
