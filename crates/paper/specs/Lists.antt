-- The few functions on lists that the definitions use beside the library's.
use Rattle.std.specs.Prelude.{Bool, true, false, ◌&&◌, ℕ, zero, suc, eqb}
use mathlib.Core.List.{List, [], ◌∷◌, ◌++◌, Memᴰ}

-- the first where the test holds, else the second
abbrev pub pick {ℓ} : {X : Type ℓ} → Bool → X → X → X
pick true x y = x
pick false x y = y

-- two strings are the same
unfoldable pub same : List ℕ → List ℕ → Bool
same [] [] = true
same [] (y ∷ ys) = false
same (x ∷ xs) [] = false
same (x ∷ xs) (y ∷ ys) = eqb x y && same xs ys

-- the first string begins the second
unfoldable pub prefix : List ℕ → List ℕ → Bool
prefix [] ys = true
prefix (x ∷ xs) [] = false
prefix (x ∷ xs) (y ∷ ys) = eqb x y && prefix xs ys

-- a string with one byte more at its end
abbrev pub snoc : List ℕ → ℕ → List ℕ
snoc [] c = c ∷ []
snoc (x ∷ xs) c = x ∷ snoc xs c

-- there is nothing in the list
abbrev pub is_nil {ℓ} : {A : Type ℓ} → List A → Bool
is_nil [] = true
is_nil (x ∷ xs) = false

-- the elements that pass a test, in their order
unfoldable pub those {ℓ} : {A : Type ℓ} → (A → Bool) → List A → List A
those test [] = []
those test (x ∷ xs) = let r = those test xs in pick (test x) (x ∷ r) r

-- f i, then f (i + 1), and so on, n of them, joined
unfoldable pub each {ℓ} : {A : Type ℓ} → ℕ → ℕ → (ℕ → List A) → List A
each i zero f = []
each i (suc n) f = f i ++ each (suc i) n f

-- each element stands in R to every later one
abbrev pub Sorted : {A : Type 0} → (A → A → Type 0) → List A → Type 0
Sorted R [] = Unit {0}
Sorted {A} R (x ∷ xs) = ((y : A) → Memᴰ y xs → R x y) × Sorted R xs
