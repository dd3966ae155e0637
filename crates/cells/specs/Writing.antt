-- What each function of the crate writes, in the numbers of the tables: the states' cells, then the checks of the cells without a byte.
use Rattle.std.specs.Prelude.{◌≡◌, Bool, true, ◌||◌, List, ℕ, zero, suc, ◌+◌, ◌*◌, ◌≤◌, ◌<◌, eqb, ltb, length, get_or, set}
use Rattle.std.proofs.Math.Option.{Option, some}
use Rattle.std.specs.Int.Bits.{bit_xor}
use Rattle.zeros.specs.Rows.{field}
use Rattle.paper.specs.Lists.{pick}
use Rattle.list.specs.Limits.{alphabet, block, most_bytes}
use Rattle.plan.specs.Placement.{first_where}

-- ---- the states

-- the cell of a state
abbrev pub seat_of : List (List ℕ) → ℕ → ℕ
seat_of notes s = field notes s 5

-- the cell of the state that a state links to
abbrev pub target_of : List (List ℕ) → ℕ → ℕ
target_of notes s = seat_of notes (field notes s 1)

-- where a state's outputs begin
abbrev pub output_of : List (List ℕ) → ℕ → ℕ
output_of notes s = field notes s 2

-- the base of a state's group: the first child's cell xor its byte, 0 for a childless state
unfoldable pub group_base : List (List ℕ) → List (List ℕ) → ℕ → ℕ
group_base trie notes s = let t = field trie s 0 in pick (eqb t 0) 0 (bit_xor (seat_of notes t) (field trie t 2))

-- the byte of a state; root has none
unfoldable pub own_byte : List (List ℕ) → ℕ → ℕ
own_byte trie s = pick (eqb s 0) 0 (field trie s 2)

-- the length of a state
abbrev pub depth_of : List (List ℕ) → ℕ → ℕ
depth_of trie s = field trie s 3

-- what is read for a state stands in the tables, and is small enough for its column
pub record Readable (trie notes : List (List ℕ)) (s : ℕ) : Type 0 where
  pub in_trie : s < length trie
  pub in_notes : s < length notes
  pub first_in_trie : field trie s 0 < length trie
  pub first_in_notes : field trie s 0 < length notes
  pub link_in_notes : field notes s 1 < length notes
  pub byte : (s ≡ 0 → ⊥) → field trie s 2 < alphabet
  pub short : depth_of trie s ≤ most_bytes

-- a cell is inside each of five columns with so many slots
pub record Inside (base link output check depth : ℕ) (cell : ℕ) : Type 0 where
  pub base_slot : cell < base
  pub link_slot : cell < link
  pub output_slot : cell < output
  pub check_slot : cell < check
  pub depth_slot : cell < depth

-- a column with a value at the cell of each of the first n states but dead
unfoldable pub seated : ℕ → (ℕ → ℕ) → (ℕ → ℕ) → List ℕ → List ℕ
seated zero cell value column = column
seated (suc n) cell value column =
    let before = seated n cell value column in pick (eqb n 1) before (set before (cell n) (value n))

-- the five columns with one state's cell written
pub record CellWritten (trie notes : List (List ℕ)) (s : ℕ) (base₀ link₀ output₀ check₀ depth₀ base link output check depth : List ℕ) : Type 0 where
  pub bases : base ≡ set base₀ (seat_of notes s) (group_base trie notes s)
  pub links : link ≡ set link₀ (seat_of notes s) (target_of notes s)
  pub outputs : output ≡ set output₀ (seat_of notes s) (output_of notes s)
  pub checks : check ≡ set check₀ (seat_of notes s) (own_byte trie s)
  pub depths : depth ≡ set depth₀ (seat_of notes s) (depth_of trie s)

-- the same of the first n states but dead
pub record StatesWritten (trie notes : List (List ℕ)) (n : ℕ) (base₀ link₀ output₀ check₀ depth₀ base link output check depth : List ℕ)
    : Type 0 where
  pub bases : base ≡ seated n (seat_of notes) (group_base trie notes) base₀
  pub links : link ≡ seated n (seat_of notes) (target_of notes) link₀
  pub outputs : output ≡ seated n (seat_of notes) (output_of notes) output₀
  pub checks : check ≡ seated n (seat_of notes) (own_byte trie) check₀
  pub depths : depth ≡ seated n (seat_of notes) (depth_of trie) depth₀

-- ---- the spare checks

-- a cell without a byte: root's, dead's, or vacant
unfoldable pub is_spare : List (List ℕ) → ℕ → Bool
is_spare spots j = ltb j 2 || eqb (field spots j 0) 0

-- the smallest unused base of the block that begins at a cell
unfoldable pub unused_from : List (List ℕ) → ℕ → Option ℕ
unused_from spots from = first_where (λ (b : ℕ). eqb (field spots b 1) 0) from block

-- the checks of the cells without a byte from `from` up to `end` lead to them from a base; the others are as they were
pub record Spared (spots : List (List ℕ)) (base from end : ℕ) (check₀ check : List ℕ) : Type 0 where
  pub spare : (j : ℕ) → from ≤ j → j < end → is_spare spots j ≡ true → get_or check j 0 ≡ bit_xor base j
  pub kept : (j : ℕ) → (from ≤ j → j < end → is_spare spots j ≡ true → ⊥) → get_or check j 0 ≡ get_or check₀ j 0

-- the block at `from` is a whole block inside the tables, and it has this base
pub record Block (spots check from base : ℕ) : Type 0 where
  pub number : ℕ
  pub whole : from ≡ number * block
  pub in_spots : from + block ≤ spots
  pub in_check : from + block ≤ check
  pub above : from ≤ base
  pub below : base < from + block

-- the same of the first n blocks, each with its smallest unused base
pub record BlocksSpared (spots : List (List ℕ)) (n : ℕ) (check₀ check : List ℕ) : Type 0 where
  pub spare : (k j u : ℕ) → k < n → k * block ≤ j → j < k * block + block → is_spare spots j ≡ true
      → unused_from spots (k * block) ≡ some u → get_or check j 0 ≡ bit_xor u j
  pub kept : (j : ℕ) → (j < n * block → is_spare spots j ≡ true → ⊥) → get_or check j 0 ≡ get_or check₀ j 0
