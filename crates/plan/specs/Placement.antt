-- Placement: which base each group gets. Only the groups with their bases are kept; which cells are taken and which bases are used is
-- computed from them, so there is no second table to keep in step. The number of letters `a` is also the number of cells of a block.
use Rattle.std.specs.Prelude.{◌≡◌, Bool, true, false, not, ◌&&◌, ◌||◌, ◌≢◌, ℕ, zero, suc, ◌*◌, ◌-◌, ◌^◌, ◌≤◌, ◌<◌, eqb, leb}
use mathlib.Core.List.{List, [], ◌∷◌, ◌++◌, map, Memᴰ}
use Rattle.std.proofs.Math.Option.{Option, none, some}
use Rattle.std.specs.Int.Bits.{bit_xor}
use Rattle.paper.specs.Lists.{pick, same, snoc, Sorted}
use Rattle.plan.specs.Groups.{Group, bytes_of}

-- ---- layouts

-- a group with its base
pub record Placed : Type 0 where
  pub group : Group
  pub base : ℕ

-- the blocks so far, and what is placed, in the order of placing
pub record Layout : Type 0 where
  pub blocks : ℕ
  pub placed : List Placed

-- one block always exists
abbrev pub one_block : Layout
one_block = record { blocks = 1; placed = [] }

-- an element passes
unfoldable pub any_of {ℓ} : {A : Type ℓ} → (A → Bool) → List A → Bool
any_of passes [] = false
any_of passes (x ∷ xs) = passes x || any_of passes xs

-- all elements pass
unfoldable pub all_of {ℓ} : {A : Type ℓ} → (A → Bool) → List A → Bool
all_of passes [] = true
all_of passes (x ∷ xs) = passes x && all_of passes xs

-- j is the cell of a child: the base xor its byte
unfoldable pub sits : Placed → ℕ → Bool
sits p j = any_of (λ c. eqb (bit_xor p.base c) j) (bytes_of p.group)

-- the cell is taken: 0 is root's, 1 is dead's, others are children's
unfoldable pub taken_cell : Layout → ℕ → Bool
taken_cell l j = leb j 1 || any_of (λ p. sits p j) l.placed

-- the cell is vacant
abbrev pub vacant : Layout → ℕ → Bool
vacant l j = not (taken_cell l j)

-- the base is some group's; 0 never is
unfoldable pub used_base : Layout → ℕ → Bool
used_base l b = any_of (λ p. eqb p.base b) l.placed

-- the group may have the base: it is nonzero, unused, and all children's cells are vacant
unfoldable pub fits : Layout → Group → ℕ → Bool
fits l g b = not (eqb b 0) && (not (used_base l b) && all_of (λ c. vacant l (bit_xor b c)) (bytes_of g))

-- ---- the choice of a base

-- the first of the n numbers from i that passes
unfoldable pub first_where : (ℕ → Bool) → ℕ → ℕ → Option ℕ
first_where passes i zero = none
first_where passes i (suc n) = let r = first_where passes (suc i) n in pick (passes i) (some i) r

-- an index serves: it is vacant, and its base, the index xor the lowest byte, fits
abbrev pub serves : Layout → Group → ℕ → Bool
serves l g i = vacant l i && fits l g (bit_xor i g.low)

-- the first of the n indexes from i that serves
abbrev pub first_fit : Layout → Group → ℕ → ℕ → Option ℕ
first_fit l g i n = first_where (serves l g) i n

-- a look over the range: from the block that `start` gives for the number of blocks, to the end
unfoldable pub look : ℕ → (ℕ → ℕ) → Layout → Group → Option ℕ
look a start l g = first_fit l g (start l.blocks * a) ((l.blocks - start l.blocks) * a)

-- the first block of the window: the last w blocks
abbrev pub window_start : ℕ → ℕ → ℕ
window_start w blocks = blocks - w

-- one block more
abbrev pub grown : Layout → Layout
grown l = record { blocks = suc l.blocks; placed = l.placed }

-- the group with the base of index i
abbrev pub placed_by : Group → ℕ → Placed
placed_by g i = record { group = g; base = bit_xor i g.low }

-- the layout with it
abbrev pub put : Layout → Group → ℕ → Layout
put l g i = record { blocks = l.blocks; placed = l.placed ++ (placed_by g i ∷ []) }

-- by what a look found
abbrev pub on_look : Option ℕ → Layout → (ℕ → Layout) → Layout
on_look none otherwise found = otherwise
on_look (some i) otherwise found = found i

-- look; where nothing serves, add a block and look again. The second look always finds an index, so a group is never left out.
unfoldable pub place : ℕ → (ℕ → ℕ) → Layout → Group → Layout
place a start l g =
    let again = on_look (look a start (grown l) g) (grown l) (put (grown l) g) in
    on_look (look a start l g) again (put l g)

-- a group with the start of its range
pub record Task : Type 0 where
  pub start : ℕ → ℕ
  pub group : Group

-- groups in turn, each with a range of its own
unfoldable pub place_tasks : ℕ → Layout → List Task → Layout
place_tasks a l [] = l
place_tasks a l (t ∷ ts) = place_tasks a (place a t.start l t.group) ts

-- the same start for all
abbrev pub tasks : (ℕ → ℕ) → List Group → List Task
tasks start gs = map (λ g. record { start = start; group = g }) gs

-- groups in turn
abbrev pub place_all : ℕ → (ℕ → ℕ) → Layout → List Group → Layout
place_all a start l gs = place_tasks a l (tasks start gs)

-- ---- where a state is

-- the base that a list has for a state's group; 0 where the state has none
unfoldable pub base_in : List Placed → List ℕ → ℕ
base_in [] s = 0
base_in (p ∷ ps) s = let r = base_in ps s in pick (same p.group.parent s) p.base r

-- the base of a state
abbrev pub base_of : Layout → List ℕ → ℕ
base_of l s = base_in l.placed s

-- along the bytes w from the state u, which is in cell i
unfoldable pub cell_from : Layout → ℕ → List ℕ → List ℕ → ℕ
cell_from l i u [] = i
cell_from l i u (c ∷ w) = cell_from l (bit_xor (base_of l u) c) (snoc u c) w

-- the cell of a state: root's is 0, another's is its parent's base xor its last byte
abbrev pub cell_of : Layout → List ℕ → ℕ
cell_of l s = cell_from l 0 [] s

-- the child of s that sits at j, if s has base b and these child bytes
unfoldable pub child_at : List ℕ → ℕ → List ℕ → ℕ → Option (List ℕ)
child_at s b [] j = none
child_at s b (c ∷ cs) j = let r = child_at s b cs j in pick (eqb (bit_xor b c) j) (some (snoc s c)) r

-- the first, or else the second
abbrev pub or_else {ℓ} : {A : Type ℓ} → Option A → Option A → Option A
or_else none r = r
or_else (some x) r = some x

-- the child that sits at j
unfoldable pub owner_in : List Placed → ℕ → Option (List ℕ)
owner_in [] j = none
owner_in (p ∷ ps) j = let r = owner_in ps j in or_else (child_at p.group.parent p.base (bytes_of p.group) j) r

-- the state that sits at j: root at 0, none at a vacant cell or dead's
unfoldable pub owner_of : Layout → ℕ → Option (List ℕ)
owner_of l j = pick (eqb j 0) (some []) (owner_in l.placed j)

-- ---- the sentences

-- what the laws ask of a block: a power of two, and room for cells 0 and 1
pub record Alphabet (a : ℕ) : Type 0 where
  pub bits : ℕ
  pub power : a ≡ 2 ^ bits
  pub two : 2 ≤ a

-- what the laws ask of a range: it has the last block
abbrev pub Reaches : (ℕ → ℕ) → Type 0
Reaches start = (b : ℕ) → start (suc b) ≤ b

-- the bytes of a group are letters
abbrev pub Lettered : ℕ → Group → Type 0
Lettered a g = (c : ℕ) → Memᴰ c (bytes_of g) → c < a

-- the group may have the base, in words
pub record Fits (l : Layout) (g : Group) (b : ℕ) : Type 0 where
  pub nonzero : b ≢ 0
  pub unused : (p : Placed) → Memᴰ p l.placed → p.base ≢ b
  pub room : (c : ℕ) → Memᴰ c (bytes_of g) → vacant l (bit_xor b c) ≡ true

-- i is the first vacant index of the range whose base is nonzero, unused and has room
pub record FirstIndex (a : ℕ) (start : ℕ → ℕ) (l : Layout) (g : Group) (i : ℕ) : Type 0 where
  pub from : start l.blocks * a ≤ i
  pub within : i < l.blocks * a
  pub free : vacant l i ≡ true
  pub room : fits l g (bit_xor i g.low) ≡ true
  pub first : (j : ℕ) → start l.blocks * a ≤ j → j < i → vacant l j ≡ true → fits l g (bit_xor j g.low) ≡ false

-- no vacant index of the range serves
abbrev pub NoIndex : ℕ → (ℕ → ℕ) → Layout → Group → Type 0
NoIndex a start l g =
    (j : ℕ) → start l.blocks * a ≤ j → j < l.blocks * a → vacant l j ≡ true → fits l g (bit_xor j g.low) ≡ false

-- a group placed in the range as it is
pub record InRange (a : ℕ) (start : ℕ → ℕ) (l : Layout) (g : Group) (r : Layout) : Type 0 where
  pub index : ℕ
  pub chosen : FirstIndex a start l g index
  pub is : r ≡ put l g index

-- a group placed in a block more, as the range as it is has no room
pub record Added (a : ℕ) (start : ℕ → ℕ) (l : Layout) (g : Group) (r : Layout) : Type 0 where
  pub full : NoIndex a start l g
  pub found : InRange a start (grown l) g r

-- what the laws ask of a task
pub record Fair (a : ℕ) (t : Task) : Type 0 where
  pub reaches : Reaches t.start
  pub lettered : Lettered a t.group

-- the two have different bases
abbrev pub OtherBase : Placed → Placed → Type 0
OtherBase p q = p.base ≡ q.base → ⊥

-- no child of the one sits where a child of the other does
abbrev pub OtherCells : Placed → Placed → Type 0
OtherCells p q =
    (c d : ℕ) → Memᴰ c (bytes_of p.group) → Memᴰ d (bytes_of q.group) → bit_xor p.base c ≡ bit_xor q.base d → ⊥

-- a good layout: no base is shared and none is 0, no two children share a cell, none is in 0 or 1, and all is within the blocks
pub record Good (a : ℕ) (l : Layout) : Type 0 where
  pub some_block : 1 ≤ l.blocks
  pub nonzero : (p : Placed) → Memᴰ p l.placed → p.base ≢ 0
  pub within : (p : Placed) → Memᴰ p l.placed → p.base < l.blocks * a
  pub lettered : (p : Placed) → Memᴰ p l.placed → Lettered a p.group
  pub unshared : Sorted OtherBase l.placed
  pub apart : Sorted OtherCells l.placed
  pub off : (p : Placed) → Memᴰ p l.placed → (c : ℕ) → Memᴰ c (bytes_of p.group) → 1 < bit_xor p.base c
