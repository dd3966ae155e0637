-- The children of a state by rising byte, as the slots lead from one to the next.
use mathlib.Core.Path.{◌≡◌, refl, sym, ap, ◌∙◌}
use mathlib.Core.Bool.{Bool, true, false}
use mathlib.Core.List.{List, [], ◌∷◌, map}
use Prim.Native.Nat.{ℕ, zero, suc, ◌+◌, ◌-◌, ◌≤◌, ◌<◌}
use native.Mathlib.Omega.{arith}
use Rattle.paper.specs.Lists.{snoc, those, each}
use Rattle.plan.specs.Names.{has}
use Rattle.plan.specs.Breadth.{kid_bytes, kids}
use Rattle.trie.specs.Trie.{Least}

-- the bytes from lo on that pass
bytes_from : (ℕ → Bool) → ℕ → ℕ → List ℕ
bytes_from g lo n = those g (each lo n (λ c. c ∷ []))

-- what fails is skipped
skip : (g : ℕ → Bool) (k n m lo hi : ℕ) → n ≡ k + m → hi ≡ k + lo → ((d : ℕ) → lo ≤ d → d < hi → g d ≡ false) → bytes_from g lo n ≡ bytes_from g hi m
unfolding bytes_from those each
skip g zero n m lo hi e f h = let x : n ≡ m = omega arith in let y : hi ≡ lo = omega arith in rw (x, y)
skip g (suc k) zero m lo hi e f h = absurd (omega arith)
skip g (suc k) (suc n) m lo hi e f h = rw (h lo (omega arith) (omega arith)) (skip g k n m (suc lo) hi (omega arith) (omega arith) (λ d a b. h d (omega arith) b))

take_one : (g : ℕ → Bool) (n m i : ℕ) → n ≡ suc m → g i ≡ true → bytes_from g i n ≡ i ∷ bytes_from g (suc i) m
unfolding bytes_from those each
take_one g zero m i e h = absurd (omega arith)
take_one g (suc n) m i e h = let x : n ≡ m = omega arith in rw (x, h)

no_bytes : (g : ℕ → Bool) (n i : ℕ) → n ≡ 0 → bytes_from g i n ≡ []
unfolding bytes_from those each
no_bytes g zero i e = refl
no_bytes g (suc n) i e = absurd (omega arith)

-- the child bytes from lo on
pub bytes_on : ℕ → (List ℕ → Bool) → List ℕ → ℕ → List ℕ
bytes_on a S u lo = bytes_from (λ c. S (snoc u c)) lo (a - lo)

pub bytes_all : (a : ℕ) (S : List ℕ → Bool) (u : List ℕ) → kid_bytes a S u ≡ bytes_on a S u 0
unfolding kid_bytes bytes_on bytes_from
bytes_all a S u = let e : a - 0 ≡ a = omega arith in rw e

-- the children from the byte lo on
abbrev pub kids_from : ℕ → (List ℕ → Bool) → List ℕ → ℕ → List (List ℕ)
kids_from a S u lo = map (snoc u) (bytes_on a S u lo)

pub kids_all : (a : ℕ) (S : List ℕ → Bool) (u : List ℕ) → kids a S u ≡ kids_from a S u 0
unfolding kids
kids_all a S u = ap (map (snoc u)) (bytes_all a S u)

-- S agrees with the names on strings that end in a byte
module _ (a : ℕ) (S : List ℕ → Bool) (ns : List (List ℕ)) (agree : (u : List ℕ) (c : ℕ) → c < a → has ns (snoc u c) ≡ S (snoc u c)) where
  gap_false : {u : List ℕ} {lo t : ℕ} (l : Least a ns u lo t) → l.stop ≤ a → (d : ℕ) → lo ≤ d → d < l.stop → S (snoc u d) ≡ false
  gap_false {u} l h d p q = sym (agree u d (omega arith)) ∙ l.gap d p q

  pub bytes_none : {u : List ℕ} {lo t : ℕ} (l : Least a ns u lo t) → t ≡ 0 → bytes_on a S u lo ≡ []
  unfolding bytes_on
  bytes_none {u} {lo} l z =
      let e : l.stop ≡ a = l.none z in
      skip (λ c. S (snoc u c)) (a - lo) (a - lo) 0 lo l.stop (omega arith) (omega (arith, l.low)) (gap_false l (omega arith))
      ∙ no_bytes (λ c. S (snoc u c)) 0 l.stop refl

  pub bytes_some : {u : List ℕ} {lo t : ℕ} (l : Least a ns u lo t) → (t ≡ 0 → ⊥) → S (snoc u l.stop) ≡ true
      → bytes_on a S u lo ≡ l.stop ∷ bytes_on a S u (suc l.stop)
  unfolding bytes_on
  bytes_some {u} {lo} l nz here =
      let k = l.some nz in
      skip (λ c. S (snoc u c)) (l.stop - lo) (a - lo) (a - l.stop) lo l.stop (omega (arith, l.low, k.byte)) (omega (arith, l.low)) (gap_false l (omega (arith, k.byte)))
      ∙ take_one (λ c. S (snoc u c)) (a - l.stop) (a - suc l.stop) l.stop (omega (arith, k.byte)) here

  pub kids_none : {u : List ℕ} {lo t : ℕ} (l : Least a ns u lo t) → t ≡ 0 → kids_from a S u lo ≡ []
  kids_none {u} l z = ap (map (snoc u)) (bytes_none l z)

  pub kids_some : {u : List ℕ} {lo t : ℕ} (l : Least a ns u lo t) → (t ≡ 0 → ⊥) → S (snoc u l.stop) ≡ true
      → kids_from a S u lo ≡ snoc u l.stop ∷ kids_from a S u (suc l.stop)
  kids_some {u} l nz here = ap (map (snoc u)) (bytes_some l nz here)
