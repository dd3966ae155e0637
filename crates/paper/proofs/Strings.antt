-- Laws of strings: the same, a prefix, one byte more.
use mathlib.Core.Path.{◌≡◌, refl, sym, ap, ap₂, ◌∙◌}
use mathlib.Core.Bool.{true, false≢true}
use mathlib.Core.List.{List, [], ◌∷◌, ◌++◌, append_assoc, append-nil, head-eq_of_cons-eq, tail-eq_of_cons-eq}
use mathlib.Core.Logic.{◌⊎◌, inl, inr}
use Prim.Native.Nat.{ℕ, suc, ◌≤◌}
use native.Mathlib.Nat.{not-suc-le-zero}
use native.Mathlib.Decide.{dec_lt}
use native.Mathlib.Omega.{arith}
use lib.Dec.{eqb}
use lib.ListN.{length, length-append}
use Rattle.paper.specs.Lists.{same, prefix, snoc}
use Rattle.std.proofs.lemmas.Bool.{eqb-true, eq-eqb, and_from, and_parts}

abbrev cons : ℕ → List ℕ → List ℕ
cons x xs = x ∷ xs

-- ---- the same string

pub same_eq : (xs ys : List ℕ) → same xs ys ≡ true → xs ≡ ys
unfolding same
same_eq [] [] e = refl
same_eq [] (y ∷ ys) e = absurd (false≢true e)
same_eq (x ∷ xs) [] e = absurd (false≢true e)
same_eq (x ∷ xs) (y ∷ ys) e =
    ap₂ cons (eqb-true x y (and_parts (eqb x y) (same xs ys) e).0) (same_eq xs ys (and_parts (eqb x y) (same xs ys) e).1)

pub same_refl : (xs : List ℕ) → same xs xs ≡ true
unfolding same
same_refl [] = refl
same_refl (x ∷ xs) = and_from (eqb x x) (same xs xs) (eq-eqb x x refl) (same_refl xs)

pub eq_same : (xs ys : List ℕ) → xs ≡ ys → same xs ys ≡ true
eq_same xs ys e = rw e (same_refl ys)

-- ---- prefixes

-- p is a prefix of p and whatever follows it, and a prefix is followed by some rest
pub prefix_append : (p r : List ℕ) → prefix p (p ++ r) ≡ true
unfolding prefix
prefix_append [] r = refl
prefix_append (x ∷ xs) r = and_from (eqb x x) (prefix xs (xs ++ r)) (eq-eqb x x refl) (prefix_append xs r)

pub prefix_refl : (p : List ℕ) → prefix p p ≡ true
prefix_refl p = rw append-nil at (prefix_append p [])

pub prefix_rest : (p t : List ℕ) → prefix p t ≡ true → (r : List ℕ) × (t ≡ p ++ r)
unfolding prefix
prefix_rest [] t h = (t, refl)
prefix_rest (x ∷ xs) [] h = absurd (false≢true h)
prefix_rest (x ∷ xs) (y ∷ ys) h =
    let rest : (r : List ℕ) × (ys ≡ xs ++ r) = prefix_rest xs ys (and_parts (eqb x y) (prefix xs ys) h).1 in
    (rest.0, ap₂ cons (sym (eqb-true x y (and_parts (eqb x y) (prefix xs ys) h).0)) rest.1)

pub prefix_trans : (p q t : List ℕ) → prefix p q ≡ true → prefix q t ≡ true → prefix p t ≡ true
prefix_trans p q t h k =
    let a = prefix_rest p q h in
    let b = prefix_rest q t k in
    let e : t ≡ p ++ (a.0 ++ b.0) = b.1 ∙ ap (λ (l : List ℕ). l ++ b.0) a.1 ∙ append_assoc p a.0 b.0 in
    rw e (prefix_append p (a.0 ++ b.0))

pub prefix_length : (p t : List ℕ) → prefix p t ≡ true → length p ≤ length t
prefix_length p t h = let a = prefix_rest p t h in omega (arith, simp length-append at (ap length a.1))

-- of two prefixes of one text the shorter begins the longer
pub prefix_of : (a b w : List ℕ) → prefix a w ≡ true → prefix b w ≡ true → length a ≤ length b → prefix a b ≡ true
unfolding prefix
prefix_of [] b w h k l = refl
prefix_of (x ∷ a) [] w h k l = absurd (not-suc-le-zero l)
prefix_of (x ∷ a) (y ∷ b) [] h k l = absurd (false≢true h)
prefix_of (x ∷ a) (y ∷ b) (z ∷ w) h k l =
    let p : x ≡ z = eqb-true x z (and_parts (eqb x z) (prefix a w) h).0 in
    let q : y ≡ z = eqb-true y z (and_parts (eqb y z) (prefix b w) k).0 in
    and_from (eqb x y) (prefix a b) (eq-eqb x y (p ∙ sym q))
    (prefix_of a b w (and_parts (eqb x z) (prefix a w) h).1 (and_parts (eqb y z) (prefix b w) k).1 (omega arith))

-- a prefix that is no shorter is the whole
pub prefix_same : (a b : List ℕ) → prefix a b ≡ true → length b ≤ length a → a ≡ b
unfolding prefix
prefix_same [] [] h l = refl
prefix_same [] (y ∷ b) h l = absurd (not-suc-le-zero l)
prefix_same (x ∷ a) [] h l = absurd (false≢true h)
prefix_same (x ∷ a) (y ∷ b) h l =
    ap₂ cons (eqb-true x y (and_parts (eqb x y) (prefix a b) h).0) (prefix_same a b (and_parts (eqb x y) (prefix a b) h).1 (omega arith))

-- ---- one byte more

pub snoc_is : (s : List ℕ) (c : ℕ) → snoc s c ≡ s ++ (c ∷ [])
snoc_is [] c = refl
snoc_is (x ∷ xs) c = ap (cons x) (snoc_is xs c)

pub snoc_append : (s : List ℕ) (c : ℕ) (t : List ℕ) → snoc s c ++ t ≡ s ++ c ∷ t
snoc_append [] c t = refl
snoc_append (x ∷ xs) c t = ap (cons x) (snoc_append xs c t)

pub length_snoc : (s : List ℕ) (c : ℕ) → length (snoc s c) ≡ suc (length s)
length_snoc [] c = refl
length_snoc (x ∷ xs) c = ap suc (length_snoc xs c)

-- a string with one byte more tells the string and the byte
pub snoc_parent : (u v : List ℕ) (c d : ℕ) → snoc u c ≡ snoc v d → u ≡ v
snoc_parent [] [] c d e = refl
snoc_parent [] (y ∷ v) c d e = absurd (omega (arith, ap length e, length_snoc v d))
snoc_parent (x ∷ u) [] c d e = absurd (omega (arith, ap length e, length_snoc u c))
snoc_parent (x ∷ u) (y ∷ v) c d e = ap₂ ◌∷◌ (head-eq_of_cons-eq e) (snoc_parent u v c d (tail-eq_of_cons-eq e))

pub snoc_byte : (u v : List ℕ) (c d : ℕ) → snoc u c ≡ snoc v d → c ≡ d
snoc_byte [] [] c d e = head-eq_of_cons-eq e
snoc_byte [] (y ∷ v) c d e = absurd (omega (arith, ap length e, length_snoc v d))
snoc_byte (x ∷ u) [] c d e = absurd (omega (arith, ap length e, length_snoc u c))
snoc_byte (x ∷ u) (y ∷ v) c d e = snoc_byte u v c d (tail-eq_of_cons-eq e)

pub prefix_snoc : (s : List ℕ) (c : ℕ) → prefix s (snoc s c) ≡ true
prefix_snoc s c = rw snoc_is (prefix_append s (c ∷ []))

-- a prefix of a string with one byte more is one of the string, or all of it
pub prefix_cases : (v w : List ℕ) (c : ℕ) → prefix v (snoc w c) ≡ true → (prefix v w ≡ true) ⊎ (v ≡ snoc w c)
prefix_cases v w c h =
    elim (dec_lt (length w) (length v)) [
      | yes l ↦ inr (prefix_same v (snoc w c) h (omega (arith, length_snoc w c)))
      | no l ↦ inl (prefix_of v w (snoc w c) h (prefix_snoc w c) (omega arith))
    ]

-- what holds of the empty string and is kept by one byte more holds of every string
pub by_snoc : (P : List ℕ → Type 0) → P [] → ((w : List ℕ) (c : ℕ) → P w → P (snoc w c)) → (w : List ℕ) → P w
by_snoc P base more w = go [] w base
  where
    go : (u t : List ℕ) → P u → P (u ++ t)
    go u [] h = rw append-nil h
    go u (c ∷ t) h = rw (← snoc_append u c t) (go (snoc u c) t (more u c h))
