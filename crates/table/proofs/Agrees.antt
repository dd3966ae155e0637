-- What follows for any tables that agree.
use mathlib.Core.Path.{◌≡◌, refl}
use mathlib.Core.List.{List, [], ◌∷◌}
use Prim.Native.Nat.{ℕ}
use lib.Bits.{bit_xor}
use lib.ListN.{get_or}
use Rattle.paper.specs.Lists.{snoc}
use Rattle.table.specs.Agrees.{Tables, cell_in, state_cell}

in_snoc : (base : List ℕ) (i : ℕ) (w : List ℕ) (c : ℕ) → cell_in base i (snoc w c) ≡ bit_xor (get_or base (cell_in base i w) 0) c
unfolding cell_in
in_snoc base i [] c = refl
in_snoc base i (d ∷ w) c = in_snoc base (bit_xor (get_or base i 0) d) w c

-- root's cell is 0
pub cell_root : (T : Tables) → state_cell T [] ≡ 0
unfolding cell_in
cell_root T = refl

-- a child's cell is its parent's base xor its byte
pub cell_child : (T : Tables) (s : List ℕ) (c : ℕ) → state_cell T (snoc s c) ≡ bit_xor (get_or T.base (state_cell T s) 0) c
cell_child T s c = in_snoc T.base 0 s c
