-- What is proved of the plan: each claim with its English above it. The proofs stand in ../proofs; `plan` there has them all.
use Rattle.std.specs.Prelude.{◌≡◌, Bool, true, ◌↔◌, ℕ, ◌≤◌, length}
use mathlib.Core.List.{List, Memᴰ}
use Rattle.paper.specs.Lists.{Sorted}
use Rattle.paper.specs.Patterns.{Entry, Kind, Proper}
use Rattle.paper.specs.Automaton.{machine, is_state, output}
use Rattle.plan.specs.Breadth.{breadth, Bounded, Within, Listing}
use Rattle.plan.specs.Outputs.{store_all, nothing, Chained}

-- what is proved of names, order and outputs
pub record PlanClaims : Type 0 where
  -- patterns of at most n letters below a have states of at most n letters below a
  pub bounded : (a n : ℕ) (es : List Entry) → Within a n es → Bounded a n (is_state es)
  -- the breadth-first list has exactly the states
  pub exact : (a n : ℕ) (S : List ℕ → Bool) → Bounded a n S → (s : List ℕ) → Memᴰ s (breadth a S n) ↔ (S s ≡ true)
  -- it has no state twice
  pub once : (a n : ℕ) (S : List ℕ → Bool) → Bounded a n S → Sorted (λ x y. x ≡ y → ⊥) (breadth a S n)
  -- it has shorter states first
  pub rising : (a n : ℕ) (S : List ℕ → Bool) → Bounded a n S → Sorted (λ x y. length x ≤ length y) (breadth a S n)
  -- from the place of a state the chain of stored outputs lists what the state puts out
  pub stored : (kind : Kind) (es : List Entry) → Proper es → (B : List (List ℕ)) → Listing (is_state es) B
      → (s : List ℕ) → is_state es s ≡ true
      → let e = store_all (machine kind es) nothing B in Chained e.outs (e.place s) (output (machine kind es) s)
  -- each pattern is stored once: there are as many outputs as patterns
  pub counted : (kind : Kind) (es : List Entry) (B : List (List ℕ)) → Listing (is_state es) B
      → length (store_all (machine kind es) nothing B).outs ≡ length es
