-- The cells of a layout, as functions of the cell number.
use Rattle.std.specs.Prelude.{◌≡◌, Bool, true, false, not, List, [], ◌∷◌, map, ℕ, ◌+◌, ◌*◌, ◌/◌, ◌≤◌, ◌<◌, length}
use Rattle.std.proofs.Math.Option.{Option, none, some, get_or}
use Rattle.std.specs.Int.Bits.{bit_xor}
use Rattle.paper.specs.Lists.{each}
use Rattle.paper.specs.Automaton.{Link, dead, to}
use Rattle.plan.specs.Groups.{Grouping}
use Rattle.plan.specs.Placement.{Layout, used_base, first_where, base_of, cell_of, owner_of, Good}

-- ---- checks

-- the smallest unused base of block k; 0 counts as unused
unfoldable pub unused_in : ℕ → Layout → ℕ → Option ℕ
unused_in a l k = first_where (λ b. not (used_base l b)) (k * a) a

-- the check of a cell without a byte, by the unused base of its block. A block without one has no such cell, so the 0 is never read.
unfoldable pub spare_check : ℕ → Layout → ℕ → ℕ
spare_check a l j = bit_xor (get_or (unused_in a l (j / a)) 0) j

-- the last byte of a string that is not empty
unfoldable pub last_byte : ℕ → List ℕ → ℕ
last_byte x [] = x
last_byte x (y ∷ ys) = last_byte y ys

-- by who sits there: only a child has a byte
abbrev pub check_by : Option (List ℕ) → ℕ → ℕ
check_by none spare = spare
check_by (some []) spare = spare
check_by (some (x ∷ xs)) spare = last_byte x xs

-- the check of cell j: a child's byte; else c with u xor c equal to j, u the smallest unused base of the block
unfoldable pub check_of : ℕ → Layout → ℕ → ℕ
check_of a l j = check_by (owner_of l j) (spare_check a l j)

-- ---- cells

-- a cell: its base, the cell it links to, its output place, its check, and the length of its state
pub record Cell : Type 0 where
  pub base : ℕ
  pub link : ℕ
  pub output : ℕ
  pub check : ℕ
  pub depth : ℕ

-- the cell of a link's target; dead's is 1
abbrev pub link_cell : Layout → Link → ℕ
link_cell l dead = 1
link_cell l (to r) = cell_of l r

-- by who sits there: a vacant cell and dead's have 0 but for the check
abbrev pub cell_by : Layout → (List ℕ → Link) → (List ℕ → ℕ) → Option (List ℕ) → ℕ → Cell
cell_by l link_of place_of none check = record { base = 0; link = 0; output = 0; check = check; depth = 0 }
cell_by l link_of place_of (some []) check = record { base = base_of l []; link = 0; output = place_of []; check = check; depth = 0 }
cell_by l link_of place_of (some (x ∷ xs)) check =
    record {
      base = base_of l (x ∷ xs);
      link = link_cell l (link_of (x ∷ xs));
      output = place_of (x ∷ xs);
      check = check;
      depth = length (x ∷ xs);
    }

-- the cell j, given the states' links and output places
unfoldable pub cell_at : ℕ → Layout → (List ℕ → Link) → (List ℕ → ℕ) → ℕ → Cell
cell_at a l link_of place_of j = cell_by l link_of place_of (owner_of l j) (check_of a l j)

-- all cells
unfoldable pub cells : ℕ → Layout → (List ℕ → Link) → (List ℕ → ℕ) → List Cell
cells a l link_of place_of = each 0 (l.blocks * a) (λ j. cell_at a l link_of place_of j ∷ [])

-- ---- the sentences

-- u is the smallest unused base of block k
pub record Smallest (a : ℕ) (l : Layout) (k u : ℕ) : Type 0 where
  pub from : k * a ≤ u
  pub within : u < k * a + a
  pub unused : used_base l u ≡ false
  pub smallest : (b : ℕ) → k * a ≤ b → b < u → used_base l b ≡ true

-- a full layout of a set of states: it is good, and every state with children is placed once, with its child bytes
pub record Full (a : ℕ) (S : List ℕ → Bool) (l : Layout) : Type 0 where
  pub good : Good a l
  pub grouping : Grouping a S (map (λ p. p.group) l.placed)
