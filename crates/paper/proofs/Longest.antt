-- The longest suffix that is a state, over any set of states that is closed under prefixes. Nothing here knows patterns.
use mathlib.Core.Path.{◌≡◌, refl}
use mathlib.Core.Bool.{Bool, true, false}
use mathlib.Core.List.{List, [], ◌∷◌}
use Prim.Native.Nat.{ℕ, ◌≤◌}
use native.Mathlib.Omega.{arith}
use lib.ListN.{length}
use Rattle.paper.specs.Lists.{snoc}
use Rattle.paper.specs.Automaton.{longest_state}
use Rattle.paper.proofs.Tests.{test, clash}

-- what makes a set of strings a set of states
pub record States (S : List ℕ → Bool) : Type 0 where
  pub root : S [] ≡ true
  pub closed : (s : List ℕ) (c : ℕ) → S (snoc s c) ≡ true → S s ≡ true

module _ (S : List ℕ → Bool) where
  pub longest_of : (s : List ℕ) → S s ≡ true → longest_state S s ≡ s
  unfolding longest_state
  longest_of [] h = refl
  longest_of (x ∷ xs) h = rw h

  pub longest_length : (s : List ℕ) → length (longest_state S s) ≤ length s
  unfolding longest_state
  longest_length [] = omega arith
  longest_length (x ∷ xs) = test (S (x ∷ xs)) (λ h. rw h (omega arith)) (λ h. rw h (omega (arith, longest_length xs)))

  module _ (L : States S) where
    pub not_longer : (s : List ℕ) (c : ℕ) → S s ≡ false → S (snoc s c) ≡ false
    not_longer s c h = test (S (snoc s c)) (λ k. clash (L.closed s c k) h) (λ k. k)

    pub longest_is_state : (s : List ℕ) → S (longest_state S s) ≡ true
    unfolding longest_state
    longest_is_state [] = L.root
    longest_is_state (x ∷ xs) = test (S (x ∷ xs)) (λ h. rw h h) (λ h. rw h (longest_is_state xs))

    -- what was read before the longest suffix does not matter: the key to the walk
    pub longest_step : (t : List ℕ) (c : ℕ) → longest_state S (snoc t c) ≡ longest_state S (snoc (longest_state S t) c)
    unfolding longest_state
    longest_step [] c = refl
    longest_step (x ∷ xs) c =
        test (S (x ∷ xs)) (λ h. rw h) (λ h. rw (h, not_longer (x ∷ xs) c h) (longest_step xs c))
