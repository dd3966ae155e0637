-- The rows that `insert` writes are those of one state more.
use mathlib.Core.Path.{◌≡◌, refl, ◌∙◌}
use mathlib.Core.List.{List, [], ◌∷◌}
use Prim.Native.Nat.{ℕ, ◌<◌}
use native.Mathlib.Decide.{ℕ_discrete}
use native.Mathlib.Omega.{arith}
use lib.ListN.{length, get_or, set, length-set}
use Rattle.zeros.specs.Rows.{field}
use Rattle.zeros.proofs.Rows.{field_set_same, field_set_other}
use Rattle.trie.specs.Trie.{slots_of, Inserted, with_new, with_first, with_sibling}

-- a field that a row keeps is kept everywhere
pub kept_field : (rows : List (List ℕ)) (i j : ℕ) (r : List ℕ) → i < length rows → get_or r j 0 ≡ field rows i j
    → (k : ℕ) → field (set rows i r) k j ≡ field rows k j
kept_field rows i j r h e k =
    elim (ℕ_discrete k i) [
      | yes q ↦ rw q (field_set_same rows i j r h ∙ e)
      | no q ↦ field_set_other rows i k j r q
    ]

module _ (rows : List (List ℕ)) (n s b d prev next : ℕ) (inside : n < length rows) (below : s < n) (before : prev < n) where
  abbrev new : List (List ℕ)
  new = with_new rows n next b d

  long : (k : ℕ) → k < n → k < length new
  long k h = omega (arith, length-set rows n (0 ∷ next ∷ b ∷ d ∷ 0 ∷ []))

  -- field j of the new row, whatever lower row was written after it
  at_new : (i j : ℕ) (r : List ℕ) → i < n → field (set new i r) n j ≡ get_or (0 ∷ next ∷ b ∷ d ∷ 0 ∷ []) j 0
  at_new i j r h = field_set_other new i n j r (λ e. omega arith) ∙ field_set_same rows n j (0 ∷ next ∷ b ∷ d ∷ 0 ∷ []) inside

  -- field j of another row that the later write keeps
  at_old : (i j : ℕ) (r : List ℕ) → i < n → get_or r j 0 ≡ field new i j → (k : ℕ) → (k ≡ n → ⊥) → field (set new i r) k j ≡ field rows k j
  at_old i j r h e k q = kept_field new i j r (long i h) e k ∙ field_set_other rows n k j (0 ∷ next ∷ b ∷ d ∷ 0 ∷ []) q

  -- the new state is its parent's first child
  pub inserted_first : prev ≡ 0 → Inserted (slots_of rows) (slots_of (with_first new s n)) n s b d prev next
  inserted_first z =
      let r : List ℕ = n ∷ field new s 1 ∷ field new s 2 ∷ field new s 3 ∷ field new s 4 ∷ [] in
      record {
        first_new = at_new s 0 r below;
        first_parent = λ _. field_set_same new s 0 r (long s below);
        first_other = λ k q p. field_set_other new s k 0 r (p z) ∙ field_set_other rows n k 0 (0 ∷ next ∷ b ∷ d ∷ 0 ∷ []) q;
        sibling_new = at_new s 1 r below;
        sibling_prev = λ p. absurd (p z);
        sibling_other = λ k q _. at_old s 1 r below refl k q;
        label_new = at_new s 2 r below;
        label_other = at_old s 2 r below refl;
        depth_new = at_new s 3 r below;
        depth_other = at_old s 3 r below refl;
        own_new = at_new s 4 r below;
        own_other = at_old s 4 r below refl;
      }

  -- the new state comes after prev
  pub inserted_after : (prev ≡ 0 → ⊥) → Inserted (slots_of rows) (slots_of (with_sibling new prev n)) n s b d prev next
  inserted_after z =
      let r : List ℕ = field new prev 0 ∷ n ∷ field new prev 2 ∷ field new prev 3 ∷ field new prev 4 ∷ [] in
      record {
        first_new = at_new prev 0 r before;
        first_parent = λ p. absurd (z p);
        first_other = λ k q _. at_old prev 0 r before refl k q;
        sibling_new = at_new prev 1 r before;
        sibling_prev = λ _. field_set_same new prev 1 r (long prev before);
        sibling_other = λ k q p. field_set_other new prev k 1 r (p z) ∙ field_set_other rows n k 1 (0 ∷ next ∷ b ∷ d ∷ 0 ∷ []) q;
        label_new = at_new prev 2 r before;
        label_other = at_old prev 2 r before refl;
        depth_new = at_new prev 3 r before;
        depth_other = at_old prev 3 r before refl;
        own_new = at_new prev 4 r before;
        own_other = at_old prev 4 r before refl;
      }
