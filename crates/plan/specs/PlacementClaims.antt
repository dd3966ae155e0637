-- What is proved of the placement: each claim with its English above it. The proofs stand in ../proofs; `placement` there has them all.
use Rattle.std.specs.Prelude.{◌≡◌, Bool, true, ◌≢◌, ◌⊎◌, ◌↔◌, ℕ, suc, ◌+◌, ◌*◌, ◌/◌, ◌≤◌, ◌<◌, length, get_or, take}
use mathlib.Core.List.{List, [], ◌∷◌, ◌++◌, map, reverse, Memᴰ}
use Rattle.std.proofs.Math.Option.{some, none}
use Rattle.std.specs.Int.Bits.{bit_xor}
use Rattle.paper.specs.Lists.{snoc}
use Rattle.paper.specs.Automaton.{Link, to}
use Rattle.plan.specs.Breadth.{kid_bytes, kids, Bounded}
use Rattle.plan.specs.Groups.{Group, bytes_of, own_group, groups, flat, Grouping}
use Rattle.plan.specs.Placement.{Placed, Layout, one_block, taken_cell, vacant, fits, grown, put, place, Task, place_tasks, base_of}
use Rattle.plan.specs.Placement.{cell_of, Alphabet, Reaches, Lettered, Fits, NoIndex, InRange, Added, Fair, Good}
use Rattle.plan.specs.Cells.{unused_in, check_of, link_cell, cell_at, Smallest, Full}

-- the claims, in the order of the build
pub record PlacementClaims : Type 0 where
  -- ---- the order of the groups

  -- the list has exactly the groups of the states with children, each with its state's child bytes, and no state has two
  pub grouping : (a n : ℕ) (S : List ℕ → Bool) → Bounded a n S → Grouping a S (groups a S n)
  -- each group but root's comes after the group of its state's parent
  pub parents_first : (a n : ℕ) (S : List ℕ → Bool) → Bounded a n S → (k : ℕ) (d : Group) (u : List ℕ) (c : ℕ) → k < length (groups a S n)
      → (get_or (groups a S n) k d).parent ≡ snoc u c → (g : Group) × Memᴰ g (take k (groups a S n)) × (g.parent ≡ u)
  -- a stack with root alone stands for all groups
  pub stacked : (a n : ℕ) (S : List ℕ → Bool) → Bounded a n S → flat a S n ([] ∷ []) ≡ groups a S n
  -- a state popped gives its group, and its children are pushed by rising byte, so that the highest byte's is on top
  pub popped : (a n : ℕ) (S : List ℕ → Bool) → Bounded a n S → (s : List ℕ) (stack : List (List ℕ))
      → flat a S n (s ∷ stack) ≡ own_group a S s ++ flat a S n (reverse (kids a S s) ++ stack)
  -- ---- the choice of bases, for any groups in any order, each with any range that has the last block

  -- a base fits a group exactly if it is nonzero, unused, and all children's cells are vacant
  pub fitting : (l : Layout) (g : Group) (b : ℕ) → (fits l g b ≡ true) ↔ Fits l g b
  -- the base taken is that of the first vacant index of the range whose base is nonzero, unused and has room; if there is none, a block
  -- is added, and it is that of the first such index of the range with the block
  pub chosen : (a : ℕ) → Alphabet a → (start : ℕ → ℕ) → Reaches start → (l : Layout) (g : Group) → Good a l → Lettered a g
      → InRange a start l g (place a start l g) ⊎ Added a start l g (place a start l g)
  -- if a block is added, and the range does not reach further back for it, the index is the first cell of the new block
  pub added : (a : ℕ) → Alphabet a → (start : ℕ → ℕ) → Reaches start → (l : Layout) (g : Group) → Good a l → Lettered a g
      → start l.blocks ≤ start (suc l.blocks) → NoIndex a start l g → place a start l g ≡ put (grown l) g (l.blocks * a)
  -- a group adds at most one block
  pub one_block_lem : (a : ℕ) (start : ℕ → ℕ) (l : Layout) (g : Group)
      → (l.blocks ≤ (place a start l g).blocks) × ((place a start l g).blocks ≤ suc l.blocks)
  -- the first k groups need no more blocks than all
  pub prefix : (a : ℕ) (l : Layout) (k : ℕ) (ts : List Task) → (place_tasks a l (take k ts)).blocks ≤ (place_tasks a l ts).blocks
  -- each group is placed, in its turn
  pub placed : (a : ℕ) → Alphabet a → (ts : List Task) → ((t : Task) → Memᴰ t ts → Fair a t)
      → map (λ p. p.group) (place_tasks a one_block ts).placed ≡ map (λ t. t.group) ts
  -- the layout is good: no base is 0 or shared, no cell is shared, all is within the blocks, no child is in cell 0 or 1
  pub good : (a : ℕ) → Alphabet a → (ts : List Task) → ((t : Task) → Memᴰ t ts → Fair a t) → Good a (place_tasks a one_block ts)
  -- no base is shared
  pub base_alone : (a : ℕ) (l : Layout) → Good a l → (p q : Placed) → Memᴰ p l.placed → Memᴰ q l.placed
      → p.base ≡ q.base → p ≡ q
  -- no cell is shared
  pub cell_alone : (a : ℕ) (l : Layout) → Good a l → (p q : Placed) (c d : ℕ) → Memᴰ p l.placed → Memᴰ q l.placed
      → Memᴰ c (bytes_of p.group) → Memᴰ d (bytes_of q.group) → bit_xor p.base c ≡ bit_xor q.base d → (p ≡ q) × (c ≡ d)
  -- a child's cell is past root's and dead's, and within the blocks
  pub child_inside : (a : ℕ) → Alphabet a → (l : Layout) → Good a l → (p : Placed) (c : ℕ) → Memᴰ p l.placed
      → Memᴰ c (bytes_of p.group) → (1 < bit_xor p.base c) × (bit_xor p.base c < l.blocks * a)
  -- a base is in one of the blocks
  pub base_inside : (a : ℕ) (l : Layout) → Good a l → 0 < a → (p : Placed) → Memᴰ p l.placed → p.base / a < l.blocks
  -- a block with no unused base has no vacant cell
  pub filled : (a : ℕ) (l : Layout) → Alphabet a → Good a l → (k : ℕ) → unused_in a l k ≡ none → (j : ℕ) → k * a ≤ j → j < k * a + a
      → taken_cell l j ≡ true
  -- the unused base of block 0 is 0
  pub block_zero : (a : ℕ) (l : Layout) → Alphabet a → Good a l → unused_in a l 0 ≡ some 0
  -- the unused base of a block is its smallest
  pub smallest : (a : ℕ) (l : Layout) (k u : ℕ) → unused_in a l k ≡ some u → Smallest a l k u
  -- ---- the cells of a full layout

  -- all groups of a set of states, placed in any order, give a full layout
  pub full : (a : ℕ) → Alphabet a → (S : List ℕ → Bool) (ts : List Task) → ((t : Task) → Memᴰ t ts → Reaches t.start)
      → Grouping a S (map (λ t. t.group) ts) → Full a S (place_tasks a one_block ts)
  -- a probe from a state is accepted, its base not being 0, exactly where the state has the child
  pub probe : (a n : ℕ) → Alphabet a → (S : List ℕ → Bool) → Bounded a n S → (l : Layout) → Full a S l → (s : List ℕ) (c : ℕ)
      → ((base_of l s ≢ 0) × (check_of a l (bit_xor (base_of l s) c) ≡ c)) ↔ (S (snoc s c) ≡ true)
  -- it reads a cell of the blocks
  pub probe_within : (a n : ℕ) → Alphabet a → (S : List ℕ → Bool) → Bounded a n S → (l : Layout) → Full a S l → (s : List ℕ) (c : ℕ)
      → base_of l s ≢ 0 → c < a → bit_xor (base_of l s) c < l.blocks * a
  -- a child's cell is its parent's base xor its byte
  pub child : (l : Layout) (s : List ℕ) (c : ℕ) → cell_of l (snoc s c) ≡ bit_xor (base_of l s) c
  -- the base is 0 exactly where there is no child
  pub childless : (a n : ℕ) → Alphabet a → (S : List ℕ → Bool) → Bounded a n S → (l : Layout) → Full a S l → (s : List ℕ)
      → (base_of l s ≡ 0) ↔ (kid_bytes a S s ≡ [])
  -- different states have different cells
  pub different : (a n : ℕ) → Alphabet a → (S : List ℕ → Bool) → Bounded a n S → (l : Layout) → Full a S l → (s t : List ℕ)
      → S s ≡ true → S t ≡ true → cell_of l s ≡ cell_of l t → s ≡ t
  -- a state's cell is within the blocks
  pub within : (a n : ℕ) → Alphabet a → (S : List ℕ → Bool) → Bounded a n S → (l : Layout) → Full a S l → (s : List ℕ)
      → S s ≡ true → cell_of l s < l.blocks * a
  -- only root is in cell 0
  pub root_alone : (a n : ℕ) → Alphabet a → (S : List ℕ → Bool) → Bounded a n S → (l : Layout) → Full a S l → (s : List ℕ)
      → S s ≡ true → cell_of l s ≡ 0 → s ≡ []
  -- no state is in cell 1
  pub dead_alone : (a n : ℕ) → Alphabet a → (S : List ℕ → Bool) → Bounded a n S → (l : Layout) → Full a S l → (s : List ℕ)
      → S s ≡ true → cell_of l s ≢ 1
  -- a vacant cell's check leads to it from the smallest unused base of its block
  pub vacant_check : (a n : ℕ) → Alphabet a → (S : List ℕ → Bool) → Bounded a n S → (l : Layout) → Full a S l → (j : ℕ)
      → vacant l j ≡ true → (u : ℕ) × Smallest a l (j / a) u × (bit_xor u (check_of a l j) ≡ j)
  -- so do root's and dead's from 0, which is the smallest of block 0
  pub low_check : (a n : ℕ) → Alphabet a → (S : List ℕ → Bool) → Bounded a n S → (l : Layout) → Full a S l → (j : ℕ)
      → j ≤ 1 → check_of a l j ≡ j
  -- these are the checks of the cells
  pub cell_check : (a : ℕ) (l : Layout) (link_of : List ℕ → Link) (place_of : List ℕ → ℕ) (j : ℕ)
      → (cell_at a l link_of place_of j).check ≡ check_of a l j
  -- a child's check is its byte
  pub child_check : (a n : ℕ) → Alphabet a → (S : List ℕ → Bool) → Bounded a n S → (l : Layout) → Full a S l → (s : List ℕ) (c : ℕ)
      → S (snoc s c) ≡ true → check_of a l (cell_of l (snoc s c)) ≡ c
  -- a state's cell has its base, the cell of its link's target, its output place, and its length
  pub state_cell_lem : (a n : ℕ) → Alphabet a → (S : List ℕ → Bool) → Bounded a n S → (l : Layout) → Full a S l
      → (link_of : List ℕ → Link) (place_of : List ℕ → ℕ) → link_of [] ≡ to [] → (s : List ℕ) → S s ≡ true
      → cell_at a l link_of place_of (cell_of l s)
      ≡ record {
        base = base_of l s;
        link = link_cell l (link_of s);
        output = place_of s;
        check = check_of a l (cell_of l s);
        depth = length s;
      }
  -- a vacant cell has 0 but for the check
  pub vacant_cell : (a n : ℕ) → Alphabet a → (S : List ℕ → Bool) → Bounded a n S → (l : Layout) → Full a S l
      → (link_of : List ℕ → Link) (place_of : List ℕ → ℕ) (j : ℕ) → vacant l j ≡ true
      → cell_at a l link_of place_of j ≡ record { base = 0; link = 0; output = 0; check = check_of a l j; depth = 0 }
  -- so has dead's
  pub dead_cell : (a n : ℕ) → Alphabet a → (S : List ℕ → Bool) → Bounded a n S → (l : Layout) → Full a S l
      → (link_of : List ℕ → Link) (place_of : List ℕ → ℕ)
      → cell_at a l link_of place_of 1 ≡ record { base = 0; link = 0; output = 0; check = 1; depth = 0 }
