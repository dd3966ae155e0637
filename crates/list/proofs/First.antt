-- `first_where` is the lowest index of an element that passes, and nothing else is.
use mathlib.Core.Path.{◌≡◌, refl, ap}
use mathlib.Core.Bool.{Bool, false}
use mathlib.Core.List.{List, [], ◌∷◌}
use mathlib.Core.Option.{Option, none, some}
use Prim.Native.Nat.{ℕ, zero, suc, ◌<◌}
use native.Mathlib.Nat.{not-suc-le-zero, le_of_suc-le-suc}
use native.Mathlib.Omega.{arith}
use lib.ListN.{length, get_or}
use Rattle.paper.proofs.Tests.{test}
use Rattle.list.specs.Listed.{first_where, further}
use Rattle.list.specs.Claims.{LowestIndex}

-- what holds of 0 and of each number after another holds of every number
by_zero : (P : ℕ → Type 0) → P zero → ((j : ℕ) → P (suc j)) → (j : ℕ) → P j
by_zero P z s zero = z
by_zero P z s (suc j) = s j

module _ {A : Type 0} (d : A) (passes : A → Bool) where
  -- an element that does not pass comes in front
  one_more : (x : A) (xs : List A) (o : Option ℕ) → passes x ≡ false → LowestIndex d passes xs o → LowestIndex d passes (x ∷ xs) (further o)
  one_more x xs none h l =
      by_zero (λ j. j < length (x ∷ xs) → passes (get_or (x ∷ xs) j d) ≡ false) (λ k. h) (λ j k. l j (le_of_suc-le-suc k))
  one_more x xs (some i) h l =
      (omega (arith, l.0), l.1, by_zero (λ j. j < suc i → passes (get_or (x ∷ xs) j d) ≡ false) (λ k. h) (λ j k. l.2 j (le_of_suc-le-suc k)))

  pub first_is : (xs : List A) → LowestIndex d passes xs (first_where passes xs)
  unfolding first_where
  first_is [] = λ j k. absurd (not-suc-le-zero k)
  first_is (x ∷ xs) =
      test (passes x)
      (λ h. rw h (omega arith, h, λ j k. absurd (not-suc-le-zero k)))
      (λ h. rw h (one_more x xs (first_where passes xs) h (first_is xs)))

  pub first_only : (xs : List A) (o : Option ℕ) → LowestIndex d passes xs o → o ≡ first_where passes xs
  unfolding first_where
  first_only [] none l = refl
  first_only [] (some i) l = absurd (not-suc-le-zero l.0)
  first_only (x ∷ xs) none l = rw (l 0 (omega arith)) (ap further (first_only xs none (λ j k. l (suc j) (omega arith))))
  first_only (x ∷ xs) (some zero) l = rw l.1
  first_only (x ∷ xs) (some (suc i)) l =
      rw (l.2 0 (omega arith))
      (ap further (first_only xs (some i) (le_of_suc-le-suc l.0, l.1, λ j k. l.2 (suc j) (omega arith))))

  pub first_below : (xs : List A) (i : ℕ) → first_where passes xs ≡ some i → i < length xs
  first_below xs i e = (rw e at (first_is xs)).0

  pub first_none : (xs : List A) → first_where passes xs ≡ none → (j : ℕ) → j < length xs → passes (get_or xs j d) ≡ false
  first_none xs e = rw e at (first_is xs)

-- two tests that agree on every element find the same
pub first_same : {A : Type 0} (d : A) (f g : A → Bool) (xs : List A) → ((j : ℕ) → j < length xs → f (get_or xs j d) ≡ g (get_or xs j d))
    → first_where f xs ≡ first_where g xs
unfolding first_where
first_same d f g [] h = refl
first_same d f g (x ∷ xs) h = rw (h 0 (omega arith), first_same d f g xs (λ j k. h (suc j) (omega arith)))
