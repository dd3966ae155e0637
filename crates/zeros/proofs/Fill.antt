-- A fill from the front, over any element: what the loops of this crate keep, and what they end with.
use mathlib.Core.Path.{◌≡◌, refl, ap, ◌∙◌}
use mathlib.Core.List.{List, [], ◌∷◌, ◌++◌, append-nil}
use Prim.Native.Nat.{ℕ, zero, suc, ◌+◌, ◌≤◌, ◌<◌}
use native.Mathlib.Nat.{not-suc-le-zero, le_of_suc-le-suc}
use native.Mathlib.Numerals.{add-one}
use native.Mathlib.Omega.{arith}
use lib.ListN.{length, drop, set, replicate, length-set}
use lib.Seq.{drop-length}

-- the first i elements of s are z, and the others are as they were in s₀
pub record Filled {A : Type 0} (z : A) (s₀ : List A) (i : ℕ) (s : List A) : Type 0 where
  pub inside : i ≤ length s₀
  pub as_long : length s ≡ length s₀
  pub parts : s ≡ replicate i z ++ drop i s₀

module _ {A : Type 0} (z : A) where
  fill_suc : (n : ℕ) (s : List A) → n < length s → set (replicate n z ++ drop n s) n z ≡ replicate (suc n) z ++ drop (suc n) s
  fill_suc n [] l = absurd (not-suc-le-zero l)
  fill_suc zero (x ∷ s) l = refl
  fill_suc (suc n) (x ∷ s) l = ap (λ (t : List A). z ∷ t) (fill_suc n s (le_of_suc-le-suc l))

  pub fill_none : (s₀ : List A) → Filled z s₀ 0 s₀
  fill_none s₀ = record { inside = omega arith; as_long = refl; parts = refl }

  pub fill_more : (s₀ : List A) (i : ℕ) (s : List A) → Filled z s₀ i s → i < length s → Filled z s₀ (i + 1) (set s i z)
  fill_more s₀ i s f l =
      let h : i < length s₀ = omega arith in
      record {
        inside = omega arith;
        as_long = length-set s i z ∙ f.as_long;
        parts = rw (f.parts, add-one i) (fill_suc i s₀ h);
      }

  -- the same, where the place and the value are told to be these
  pub fill_next : (s₀ : List A) (i j : ℕ) (s : List A) (x : A) → Filled z s₀ i s → i < length s → j ≡ i → x ≡ z → Filled z s₀ (i + 1) (set s j x)
  fill_next s₀ i j s x f l e h = rw (e, h) (fill_more s₀ i s f l)

  pub fill_all : (s₀ : List A) (i : ℕ) (s : List A) → Filled z s₀ i s → length s ≤ i → s ≡ replicate (length s₀) z
  fill_all s₀ i s f l = let e : i ≡ length s₀ = omega arith in f.parts ∙ rw e (rw drop-length (append-nil _))
