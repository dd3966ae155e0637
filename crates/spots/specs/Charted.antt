-- Which cells are taken and which bases are used, as a table of rows: the chart of a layout.
use Rattle.std.specs.Prelude.{◌≡◌, Bool, true, not, List, [], ◌∷◌, ℕ, ◌+◌, ◌-◌, ◌*◌, ◌≤◌, ◌<◌, eqb, length, get_or, set, Option, Some, None}
use Rattle.std.proofs.Math.Option as math
use Rattle.std.proofs.Math.Option.{none, some}
use Rattle.std.specs.Int.Bits.{bit_xor}
use Rattle.zeros.specs.Rows.{field}
use Rattle.paper.specs.Patterns.{Entry}
use Rattle.paper.specs.Automaton.{is_state}
use Rattle.list.specs.Limits.{alphabet, block}
use Rattle.plan.specs.Names.{names}
use Rattle.plan.specs.Breadth.{kid_bytes}
use Rattle.plan.specs.Groups.{Group, bytes_of}
use Rattle.plan.specs.Placement.{Layout, all_of, taken_cell, vacant, used_base, first_fit}
use Rattle.trie.specs.Stands.{Stands}

-- the rows with one field of row i anew: so many cells from i on are taken
abbrev pub with_taken : List (List ℕ) → ℕ → ℕ → List (List ℕ)
with_taken rows i n = set rows i (n ∷ field rows i 1 ∷ [])

-- the same of base b, which is used
abbrev pub with_used : List (List ℕ) → ℕ → List (List ℕ)
with_used rows b = set rows b (field rows b 0 ∷ 1 ∷ [])

-- the rows with the cells of these bytes taken at a base
unfoldable pub with_seated : List (List ℕ) → ℕ → List ℕ → List (List ℕ)
with_seated rows b [] = rows
with_seated rows b (c ∷ cs) = with_seated (with_taken rows (bit_xor b c) 1) b cs

-- the rows are those of the layout: a row's first number is 0 exactly where the cell is vacant, and else so many cells from it on are
-- taken; its second is 0 exactly where the base is unused
pub record Charted (rows : List (List ℕ)) (l : Layout) : Type 0 where
  pub vacancy : (j : ℕ) → j < length rows → eqb (field rows j 0) 0 ≡ vacant l j
  pub run : (j i : ℕ) → j < length rows → i < field rows j 0 → taken_cell l (j + i) ≡ true
  pub bases : (b : ℕ) → b < length rows → eqb (field rows b 1) 0 ≡ not (used_base l b)

-- r is the first vacant index from `from` on; where there is none before the end, which is vacant, it is the end
pub record Next (l : Layout) (from end r : ℕ) : Type 0 where
  pub reached : from ≤ r
  pub within : r ≤ end
  pub free : vacant l r ≡ true
  pub passed : (j : ℕ) → from ≤ j → j < r → taken_cell l j ≡ true

-- a stretch of the chart whose end is vacant, as every index past the blocks is
pub record Stretch (rows : List (List ℕ)) (l : Layout) (from end : ℕ) : Type 0 where
  pub charted : Charted rows l
  pub ordered : from ≤ end
  pub room : end ≤ length rows
  pub past : vacant l end ≡ true

-- some layout for which this holds
pub record StretchSome (rows : List (List ℕ)) (from end : ℕ) : Type 0 where
  pub layout : Layout
  pub stretch : Stretch rows layout from end

-- the state s of a trie has children, and the stretch ends with a block
pub record Seek (es : List Entry) (l : Layout) (trie rows : List (List ℕ)) (s from end : ℕ) : Type 0 where
  pub stands : Stands es trie
  pub inside : s < length (names alphabet es)
  pub parent : field trie s 0 ≡ 0 → ⊥
  pub stretch : Stretch rows l from end
  pub blocks : ℕ
  pub whole : end ≡ blocks * block

-- some patterns and a layout for which this holds
pub record SeekSome (trie rows : List (List ℕ)) (s from end : ℕ) : Type 0 where
  pub es : List Entry
  pub layout : Layout
  pub seek : Seek es layout trie rows s from end

-- the block of a base that is tried for the state s lies in the chart
pub record Try (es : List Entry) (l : Layout) (trie rows : List (List ℕ)) (s base : ℕ) : Type 0 where
  pub stands : Stands es trie
  pub inside : s < length (names alphabet es)
  pub charted : Charted rows l
  pub blocks : ℕ
  pub below : base < blocks * block
  pub room : blocks * block ≤ length rows

-- some patterns and a layout for which this holds
pub record TrySome (trie rows : List (List ℕ)) (s base : ℕ) : Type 0 where
  pub es : List Entry
  pub layout : Layout
  pub try : Try es layout trie rows s base

-- the cells of all children of the state s are vacant at a base
abbrev pub room_at : List Entry → Layout → ℕ → ℕ → Bool
room_at es l s base = all_of (λ c. vacant l (bit_xor base c)) (kid_bytes alphabet (is_state es) (get_or (names alphabet es) s []))

-- the group of the state s
abbrev pub GroupAt : List Entry → ℕ → Group → Type 0
GroupAt es s g = kid_bytes alphabet (is_state es) (get_or (names alphabet es) s []) ≡ bytes_of g

-- what a look for a base found: that of the first index of the stretch that serves, or that none does
abbrev pub FoundBase : Layout → Group → ℕ → ℕ → Option ℕ → Type 0
FoundBase l g from end (Some b) = (i : ℕ) × (first_fit l g from (end - from) ≡ some i) × (b ≡ bit_xor i g.low)
FoundBase l g from end None = first_fit l g from (end - from) ≡ none

-- the base of an answer
abbrev pub based : Option ℕ → math.Option ℕ
based (Some b) = some b
based None = none
