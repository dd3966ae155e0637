-- A column as a list, by what stands in its slots.
use mathlib.Core.Path.{◌≡◌, refl, sym, ap, ◌∙◌}
use mathlib.Core.List.{List, [], ◌∷◌, map}
use Prim.Native.Nat.{ℕ, zero, suc, ◌+◌, ◌-◌, ◌≤◌, ◌<◌}
use native.Mathlib.Decide.{dec_lt}
use native.Mathlib.Omega.{arith}
use lib.ListN.{length, get_or, replicate, length-append, length-map, length-replicate, get_or-append}
use lib.Seq.{ext_get_or, get_or-append-add}
use Rattle.zeros.proofs.Rows.{get_or_zeros}
use Rattle.plan.specs.Cells.{Cell}
use Rattle.cells.specs.Columns.{column, Blank}

-- a column by its slots
pub column_by_slots : (part : Cell → ℕ) (cs : List Cell) (d : Cell) (xs : List ℕ) (slots : ℕ) → length xs ≡ slots → length cs ≤ slots
    → ((j : ℕ) → j < length cs → get_or xs j 0 ≡ part (get_or cs j d)) → ((j : ℕ) → length cs ≤ j → get_or xs j 0 ≡ 0) → xs ≡ column part cs slots
column_by_slots part cs d xs slots long room here past =
    ext_get_or 0 xs (column part cs slots) same_length (λ j h. elim (dec_lt j (length cs)) [ yes l ↦ inside j l | no l ↦ outside j (omega arith) ])
  where
    same_length : length xs ≡ length (column part cs slots)
    same_length =
        omega (
          arith,
          length-append (map part cs) (replicate (slots - length cs) 0),
          length-map cs part,
          length-replicate {A = ℕ} (slots - length cs) 0,
        )

    -- inside the cells the number that stands for none is never read
    in_map : (ds : List Cell) (j : ℕ) → j < length ds → get_or (map part ds) j 0 ≡ part (get_or ds j d)
    in_map [] j h = absurd (omega arith)
    in_map (x ∷ ds) zero h = refl
    in_map (x ∷ ds) (suc j) h = in_map ds j (omega arith)

    inside : (j : ℕ) → j < length cs → get_or xs j 0 ≡ get_or (column part cs slots) j 0
    inside j l =
        here j l
        ∙ sym (get_or-append (map part cs) (replicate (slots - length cs) 0) 0 j (rw (length-map cs part) l) ∙ in_map cs j l)

    outside : (j : ℕ) → length cs ≤ j → get_or xs j 0 ≡ get_or (column part cs slots) j 0
    outside j l =
        let e : j ≡ length (map part cs) + (j - length cs) = omega (arith, length-map cs part) in
        past j l
        ∙ sym (ap (λ (i : ℕ). get_or (column part cs slots) i 0) e
        ∙ get_or-append-add (map part cs) (replicate (slots - length cs) 0) (j - length cs) 0
        ∙ get_or_zeros (slots - length cs) (j - length cs))

pub blank_slot : {column : List ℕ} {n : ℕ} → Blank column n → (j : ℕ) → get_or column j 0 ≡ 0
blank_slot {column} B j = ap (λ (c : List ℕ). get_or c j 0) B.zero ∙ get_or_zeros (length column) j
