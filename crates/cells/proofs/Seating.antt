-- A column after a value was written at the cell of each state: what stands at a state's cell, and elsewhere.
use mathlib.Core.Path.{◌≡◌, refl, sym, ap, ap₂, ◌∙◌}
use mathlib.Core.List.{List}
use Prim.Native.Nat.{ℕ, zero, suc, ◌<◌}
use native.Mathlib.Decide.{ℕ_discrete}
use native.Mathlib.Omega.{arith}
use lib.ListN.{length, get_or, set, length-set}
use lib.Seq.{get_or-set_same, get_or-set_other}
use Rattle.std.proofs.lemmas.Bool.{eq-eqb, ne_eqb}
use Rattle.cells.specs.Writing.{seat_of, target_of, output_of, group_base, own_byte, depth_of, seated, CellWritten, StatesWritten}

module _ (cell value : ℕ → ℕ) (column : List ℕ) where
  -- ---- one state more

  pub seated_none : seated 0 cell value column ≡ column
  unfolding seated
  seated_none = refl

  pub seated_dead : (n : ℕ) → n ≡ 1 → seated (suc n) cell value column ≡ seated n cell value column
  unfolding seated
  seated_dead n e = rw (eq-eqb n 1 e)

  pub seated_more : (n : ℕ) → (n ≡ 1 → ⊥) → seated (suc n) cell value column ≡ set (seated n cell value column) (cell n) (value n)
  unfolding seated
  seated_more n e = rw (ne_eqb n 1 e)

  pub seated_length : (n : ℕ) → length (seated n cell value column) ≡ length column
  seated_length zero = ap length seated_none
  seated_length (suc n) =
      elim (ℕ_discrete n 1) [
        | yes e ↦ ap length (seated_dead n e) ∙ seated_length n
        | no e ↦ ap length (seated_more n e) ∙ length-set (seated n cell value column) (cell n) (value n) ∙ seated_length n
      ]

  -- ---- what stands where

  -- a cell of none of the states is as it was
  pub seated_else : (n j : ℕ) → ((k : ℕ) → k < n → (k ≡ 1 → ⊥) → cell k ≡ j → ⊥) → get_or (seated n cell value column) j 0 ≡ get_or column j 0
  seated_else zero j h = ap (λ (l : List ℕ). get_or l j 0) seated_none
  seated_else (suc n) j h =
      let before : get_or (seated n cell value column) j 0 ≡ get_or column j 0 = seated_else n j (λ k l. h k (omega arith)) in
      elim (ℕ_discrete n 1) [
        | yes e ↦ ap (λ (l : List ℕ). get_or l j 0) (seated_dead n e) ∙ before
        | no e ↦ ap (λ (l : List ℕ). get_or l j 0) (seated_more n e)
            ∙ get_or-set_other (seated n cell value column) (cell n) j (value n) 0 (λ q. h n (omega arith) e (sym q))
            ∙ before
      ]

  last_at : (n : ℕ) → (n ≡ 1 → ⊥) → cell n < length column → get_or (seated (suc n) cell value column) (cell n) 0 ≡ value n
  last_at n z r =
      ap (λ (l : List ℕ). get_or l (cell n) 0) (seated_more n z)
      ∙ get_or-set_same (seated n cell value column) (cell n) (value n) 0 (rw (seated_length n) r)

  -- a state's cell has its value, if no other state has the cell
  pub seated_at : (n k : ℕ) → k < n → (k ≡ 1 → ⊥) → cell k < length column
      → ((i : ℕ) → i < n → (i ≡ 1 → ⊥) → cell i ≡ cell k → i ≡ k) → get_or (seated n cell value column) (cell k) 0 ≡ value k
  seated_at zero k h z r once = absurd (omega arith)
  seated_at (suc n) k h z r once =
      elim (ℕ_discrete k n) [
        | yes e ↦ rw e (last_at n (λ q. z (e ∙ q)) (rw e at r))
        | no e ↦
            let before : get_or (seated n cell value column) (cell k) 0 ≡ value k
            = seated_at n k (omega arith) z r (λ i l. once i (omega arith)) in
            elim (ℕ_discrete n 1) [
              | yes q ↦ ap (λ (l : List ℕ). get_or l (cell k) 0) (seated_dead n q) ∙ before
              | no q ↦ ap (λ (l : List ℕ). get_or l (cell k) 0) (seated_more n q)
                  ∙ get_or-set_other (seated n cell value column) (cell n) (cell k) (value n) 0 (λ d. e (sym (once n (omega arith) q (sym d))))
                  ∙ before
            ]
      ]

-- ---- the five columns

module _ {trie notes : List (List ℕ)} {base₀ link₀ output₀ check₀ depth₀ : List ℕ} where
  -- the five values of a state at its cell
  pub cell_written : {s i b t o y d : ℕ} → i ≡ seat_of notes s → b ≡ group_base trie notes s → t ≡ target_of notes s
      → o ≡ output_of notes s → y ≡ own_byte trie s → d ≡ depth_of trie s
      → CellWritten trie notes s base₀ link₀ output₀ check₀ depth₀
      (set base₀ i b) (set link₀ i t) (set output₀ i o) (set check₀ i y) (set depth₀ i d)
  cell_written i b t o y d =
      record {
        bases = ap₂ (set base₀) i b;
        links = ap₂ (set link₀) i t;
        outputs = ap₂ (set output₀) i o;
        checks = ap₂ (set check₀) i y;
        depths = ap₂ (set depth₀) i d;
      }

  pub states_none : StatesWritten trie notes 0 base₀ link₀ output₀ check₀ depth₀ base₀ link₀ output₀ check₀ depth₀
  unfolding seated
  states_none = record { bases = refl; links = refl; outputs = refl; checks = refl; depths = refl }

  module _ {n : ℕ} {base link output check depth : List ℕ}
      (W : StatesWritten trie notes n base₀ link₀ output₀ check₀ depth₀ base link output check depth) where
    -- dead is passed
    pub states_dead : n ≡ 1 → StatesWritten trie notes (suc n) base₀ link₀ output₀ check₀ depth₀ base link output check depth
    states_dead e =
        record {
          bases = W.bases ∙ sym (seated_dead _ _ base₀ n e);
          links = W.links ∙ sym (seated_dead _ _ link₀ n e);
          outputs = W.outputs ∙ sym (seated_dead _ _ output₀ n e);
          checks = W.checks ∙ sym (seated_dead _ _ check₀ n e);
          depths = W.depths ∙ sym (seated_dead _ _ depth₀ n e);
        }

    -- one state's cell more
    pub states_more : {base' link' output' check' depth' : List ℕ} → (n ≡ 1 → ⊥)
        → CellWritten trie notes n base link output check depth base' link' output' check' depth'
        → StatesWritten trie notes (suc n) base₀ link₀ output₀ check₀ depth₀ base' link' output' check' depth'
    states_more e C =
        record {
          bases = C.bases ∙ rw W.bases (sym (seated_more _ _ base₀ n e));
          links = C.links ∙ rw W.links (sym (seated_more _ _ link₀ n e));
          outputs = C.outputs ∙ rw W.outputs (sym (seated_more _ _ output₀ n e));
          checks = C.checks ∙ rw W.checks (sym (seated_more _ _ check₀ n e));
          depths = C.depths ∙ rw W.depths (sym (seated_more _ _ depth₀ n e));
        }
