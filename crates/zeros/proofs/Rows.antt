-- The fields of a table after a row is set, and of a table of zeros.
use mathlib.Core.Path.{◌≡◌, refl, ap}
use mathlib.Core.List.{List, []}
use Prim.Native.Nat.{ℕ, zero, suc, ◌<◌}
use lib.ListN.{length, get_or, set, replicate}
use lib.Seq.{get_or-set_same, get_or-set_other}
use Rattle.zeros.specs.Rows.{zeros, field}

pub field_set_same : (rows : List (List ℕ)) (i j : ℕ) (r : List ℕ) → i < length rows → field (set rows i r) i j ≡ get_or r j 0
field_set_same rows i j r h = ap (λ (x : List ℕ). get_or x j 0) (get_or-set_same rows i r [] h)

pub field_set_other : (rows : List (List ℕ)) (i k j : ℕ) (r : List ℕ) → (k ≡ i → ⊥) → field (set rows i r) k j ≡ field rows k j
field_set_other rows i k j r h = ap (λ (x : List ℕ). get_or x j 0) (get_or-set_other rows i k r [] h)

-- an element of a list of zeros is 0, also past its end
pub get_or_zeros : (n j : ℕ) → get_or (zeros n) j 0 ≡ 0
get_or_zeros zero j = refl
get_or_zeros (suc n) zero = refl
get_or_zeros (suc n) (suc j) = get_or_zeros n j

pub field_zeros : (n m i j : ℕ) → field (replicate n (zeros m)) i j ≡ 0
field_zeros zero m i j = refl
field_zeros (suc n) m zero j = get_or_zeros m j
field_zeros (suc n) m (suc i) j = field_zeros n m i j
