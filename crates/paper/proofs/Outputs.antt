-- What a state's chain puts out, for all kinds at once: own outputs of the string and of its suffixes, longest first, up to a
-- suffix at whose head a stopping string starts. Standard stops nowhere, so there it is every suffix.
use mathlib.Core.Path.{◌≡◌, refl, sym, ◌∙◌}
use mathlib.Core.Bool.{Bool, true, false, ◌||◌}
use mathlib.Core.List.{List, [], ◌∷◌, ◌++◌}
use Prim.Native.Nat.{ℕ, zero, suc, ◌≤◌}
use native.Mathlib.Nat.{not-suc-le-zero}
use native.Mathlib.Omega.{arith}
use lib.ListN.{length}
use Rattle.paper.specs.Lists.{pick}
use Rattle.paper.specs.Patterns.{Entry}
use Rattle.paper.specs.Automaton.{Machine, longest_state, failure, starts, before, is_dead, link, chain, output}
use Rattle.std.proofs.lemmas.Bool.{or_parts}
use Rattle.paper.proofs.Tests.{test, clash}
use Rattle.paper.proofs.Longest.{longest_length}
use Rattle.paper.proofs.Links.{Lawful}

-- what ends at the end of w
unfoldable pub endings : Machine → List ℕ → List Entry
endings M [] = []
endings M (x ∷ xs) = M.own (x ∷ xs) ++ pick (starts M.stops (x ∷ xs)) [] (endings M xs)

module _ (M : Machine) (L : Lawful M) where
  abbrev S : List ℕ → Bool
  S = M.is_state

  -- a stopping string that starts before the state leaves nothing to put out
  pub endings_before : (w : List ℕ) → before S M.stops w ≡ true → endings M w ≡ []
  unfolding endings before
  endings_before [] h = refl
  endings_before (x ∷ xs) h =
      test (S (x ∷ xs)) (λ e. clash refl (sym h ∙ rw e))
      (λ e. rw (L.own_at_states (x ∷ xs) e)
      (test (starts M.stops (x ∷ xs)) (λ q. rw q) (λ q. rw q (endings_before xs (rw (e, q) at h)))))

  -- else the longest suffix that is a state puts out what ends here
  pub endings_longest : (w : List ℕ) → before S M.stops w ≡ false → endings M w ≡ endings M (longest_state S w)
  unfolding endings before longest_state
  endings_longest [] h = refl
  endings_longest (x ∷ xs) h =
      test (S (x ∷ xs)) (λ e. rw e)
      (λ e. let k : (starts M.stops (x ∷ xs) || before S M.stops xs) ≡ false = rw e at h in
      rw (e, L.own_at_states (x ∷ xs) e, (or_parts (starts M.stops (x ∷ xs)) (before S M.stops xs) k).0)
      (endings_longest xs (or_parts (starts M.stops (x ∷ xs)) (before S M.stops xs) k).1))

  pub chain_is : (n : ℕ) (s : List ℕ) → length s ≤ n → chain M n s ≡ endings M s
  unfolding chain endings link is_dead failure
  chain_is zero [] h = refl
  chain_is zero (x ∷ xs) h = absurd (not-suc-le-zero h)
  chain_is (suc n) [] h = refl
  chain_is (suc n) (x ∷ xs) h =
      let ih = chain_is n (longest_state S xs) (omega (arith, longest_length S xs)) in
      test (starts M.stops (x ∷ xs)) (λ q. rw q)
      (λ q. rw q (test (before S M.stops xs) (λ r. rw (r, endings_before xs r)) (λ r. rw (r, ih, endings_longest xs r))))

  -- (B) for a state
  pub output_is : (s : List ℕ) → output M s ≡ endings M s
  output_is s = chain_is (length s) s (omega arith)

  pub output_here : (w : List ℕ) → before S M.stops w ≡ false → output M (longest_state S w) ≡ endings M w
  output_here w h = output_is (longest_state S w) ∙ sym (endings_longest w h)
