-- The smaller of two.
use mathlib.Core.Path.{◌≡◌, ◌∙◌}
use Prim.Native.Nat.{ℕ, ◌≤◌, ◌<◌, min}
use native.Mathlib.Omega.{arith}
use lib.Dec.{ltb}
use Rattle.std.proofs.Math.Nat.{min-eq_left, min-eq_right}
use Rattle.std.proofs.lemmas.Bool.{lt-ltb, le-ltb, ltb-true, ltb-false}
use Rattle.paper.proofs.Tests.{test}
use Rattle.list.specs.Limits.{smaller}

pub smaller_left : (a b : ℕ) → smaller a b ≤ a
smaller_left a b = test (ltb a b) (λ h. rw h (omega arith)) (λ h. rw h (ltb-false a b h))

pub smaller_right : (a b : ℕ) → smaller a b ≤ b
smaller_right a b = test (ltb a b) (λ h. let l = ltb-true a b h in rw h (omega arith)) (λ h. rw h (omega arith))

pub smaller_first : (a b : ℕ) → a < b → a ≡ smaller a b
smaller_first a b h = rw (lt-ltb a b h)

pub smaller_second : (a b : ℕ) → b ≤ a → b ≡ smaller a b
smaller_second a b h = rw (le-ltb a b h)

-- std's `min` is the smaller
pub min_smaller : (a b : ℕ) → min a b ≡ smaller a b
min_smaller a b =
    test (ltb a b) (λ h. let l = ltb-true a b h in min-eq_left (omega arith) ∙ smaller_first a b l)
    (λ h. let l = ltb-false a b h in min-eq_right l ∙ smaller_second a b l)
