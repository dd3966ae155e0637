-- Tests by cases, beside the library's laws of tests (`Rattle.std.proofs.lemmas.Bool`). A fact about a test is `b ≡ true` or `b ≡ false`, so that it can be
-- put into a `pick`.
use mathlib.Core.Path.{◌≡◌, refl, sym, ◌∙◌}
use mathlib.Core.Bool.{Bool, true, false, true≢false}

-- a test, by cases, keeping what it says
pub test {ℓ} : {X : Type ℓ} (b : Bool) → (b ≡ true → X) → (b ≡ false → X) → X
test true f g = f refl
test false f g = g refl

-- a test that holds and fails proves anything
pub clash {ℓ} : {X : Type ℓ} {b : Bool} → b ≡ true → b ≡ false → X
clash h k = absurd (true≢false (sym h ∙ k))

-- two tests that hold together are the same
pub true_both : (a b : Bool) → (a ≡ true → b ≡ true) → (b ≡ true → a ≡ true) → a ≡ b
true_both true b f g = sym (f refl)
true_both false true f g = g refl
true_both false false f g = refl
