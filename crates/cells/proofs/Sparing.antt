-- The checks of the cells without a byte, cell by cell and then block by block.
use mathlib.Core.Path.{◌≡◌, sym, ap, ◌∙◌}
use mathlib.Core.List.{List}
use mathlib.Core.Option.{none, some, some-injective, none-ne-some}
use Prim.Native.Nat.{ℕ, suc, ◌+◌, ◌*◌, ◌/◌, ◌≤◌, ◌<◌}
use native.Mathlib.Decide.{ℕ_discrete}
use native.Mathlib.Omega.{arith}
use lib.Bits.{bit_xor, xor_self, xor_shr}
use lib.Dec.{eqb}
use Rattle.std.specs.Prelude.{Option, Some, None}
use Rattle.zeros.specs.Rows.{field}
use Rattle.list.specs.Limits.{alphabet, block}
use Rattle.plan.specs.Placement.{first_where}
use Rattle.plan.proofs.Scans.{first_some}
use Rattle.spots.specs.Charted.{based}
use Rattle.cells.specs.Writing.{unused_from, Spared, BlocksSpared}

-- ---- the base that nobody has

module _ (spots : List (List ℕ)) (from : ℕ) (r : Option ℕ) (said : based r ≡ first_where (λ (b : ℕ). eqb (field spots b 1) 0) from block) where
  pub found_some : (u : ℕ) → r ≡ Some u → unused_from spots from ≡ some u
  unfolding unused_from
  found_some u e = sym said ∙ ap based e

  pub found_none : r ≡ None → unused_from spots from ≡ none
  unfolding unused_from
  found_none e = sym said ∙ ap based e

-- it is in the block
pub found_inside : (spots : List (List ℕ)) (from u : ℕ) → unused_from spots from ≡ some u → (from ≤ u) × (u < from + block)
unfolding unused_from
found_inside spots from u e = let F = first_some (λ (b : ℕ). eqb (field spots b 1) 0) from block u e in (F.from, F.within)

-- ---- the blocks

module _ {spots : List (List ℕ)} {check₀ : List ℕ} where
  module _ {n : ℕ} {check : List ℕ} (B : BlocksSpared spots n check₀ check) where
    -- a block that has an unused base
    pub blocks_more : {check' : List ℕ} (u : ℕ) → unused_from spots (n * block) ≡ some u
        → Spared spots u (n * block) (n * block + block) check check' → BlocksSpared spots (suc n) check₀ check'
    blocks_more {check'} u found S =
        record {
          spare = λ k j v h from below q e.
              elim (ℕ_discrete k n) [
                | yes r ↦
                    let same : u ≡ v = some-injective u v (sym found ∙ rw r at e) in
                    rw (← same) (S.spare j (omega arith) (omega arith) q)
                | no r ↦ S.kept j (λ a l. absurd (omega arith)) ∙ B.spare k j v (omega arith) from below q e
              ];
          kept = λ j h. S.kept j (λ a l q. h (omega arith) q) ∙ B.kept j (λ l q. h (omega arith) q);
        }

    -- and one that has none
    pub blocks_past : unused_from spots (n * block) ≡ none → BlocksSpared spots (suc n) check₀ check
    blocks_past found =
        record {
          spare = λ k j v h from below q e.
              elim (ℕ_discrete k n) [
                | yes r ↦ absurd (none-ne-some v (sym found ∙ rw r at e))
                | no r ↦ B.spare k j v (omega arith) from below q e
              ];
          kept = λ j h. B.kept j (λ l q. h (omega arith) q);
        }

-- ---- a check is a byte

-- two cells of one block differ in a byte
pub same_block : (n u j : ℕ) → n * block ≤ u → u < n * block + block → n * block ≤ j → j < n * block + block → bit_xor u j < alphabet
same_block n u j a b h l = omega (arith, high)
  where
    quotient : (i : ℕ) → n * block ≤ i → i < n * block + block → i / block ≡ n
    quotient i p q = omega arith

    high : bit_xor u j / block ≡ 0
    high = xor_shr u j 8 ∙ rw (quotient u a b, quotient j h l) (xor_self n)
