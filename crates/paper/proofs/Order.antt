-- Laws of sorted lists and of the functions that make them, over any elements and any relation: what is in `those` and
-- `each`, when an append, an `each`, a `those` and a map are sorted, and that a sorted list is known by its members.
use mathlib.Core.Path.{◌≡◌, refl, sym, ap₂, ◌∙◌, subst}
use mathlib.Core.Bool.{Bool, true}
use mathlib.Core.List.Memᴰ
use mathlib.Core.List.{List, [], ◌∷◌, ◌++◌, map, Memᴰ}
use mathlib.Core.Logic.{◌⊎◌, inl, inr, ⊎_elim, ◌↔◌}
use Prim.Native.Nat.{ℕ, zero, suc, ◌+◌, ◌≤◌, ◌<◌}
use native.Mathlib.Decide.{dec_lt}
use native.Mathlib.Omega.{arith}
use Rattle.paper.specs.Lists.{pick, those, each, Sorted}
use Rattle.paper.specs.Patterns.{Choice, longest, first}
use Rattle.paper.specs.Matches.{Then, ByEnd, ByLength, ByRow, Leftmost}
use Rattle.paper.proofs.Tests.{test}

-- R never holds both ways; so never of an element and itself
abbrev pub Asymmetric : {A : Type 0} → (A → A → Type 0) → Type 0
Asymmetric {A} R = (x y : A) → R x y → R y x → ⊥

abbrev pub Transitive : {A : Type 0} → (A → A → Type 0) → Type 0
Transitive {A} R = (x y z : A) → R x y → R y z → R x z

-- ---- members

module _ {A : Type 0} where
  -- what is in a list and is not its first is in the rest
  pub not_head : {x y : A} {l : List A} → (x ≡ y → ⊥) → Memᴰ x (y ∷ l) → Memᴰ x l
  not_head h m = ⊎_elim (λ e. absurd (h e)) (λ k. k) (Memᴰ.cases_cons m)

  -- x is in `those` exactly where it is in the list and passes
  pub in_those : (passes : A → Bool) (l : List A) {x : A} → Memᴰ x (those passes l) → Memᴰ x l × (passes x ≡ true)
  unfolding those
  in_those passes [] m = absurd (Memᴰ.not-nil m)
  in_those passes (y ∷ l) {x} m =
      test (passes y)
      (λ h. ⊎_elim (λ e. (Memᴰ.head e, rw e h)) (λ k. later (in_those passes l k)) (Memᴰ.cases_cons (rw h at m)))
      (λ h. later (in_those passes l (rw h at m)))
    where
      later : Memᴰ x l × (passes x ≡ true) → Memᴰ x (y ∷ l) × (passes x ≡ true)
      later r = (Memᴰ.tail r.0, r.1)

  pub to_those : (passes : A → Bool) (l : List A) {x : A} → Memᴰ x l → passes x ≡ true → Memᴰ x (those passes l)
  unfolding those
  to_those passes [] m h = absurd (Memᴰ.not-nil m)
  to_those passes (y ∷ l) {x} m h =
      ⊎_elim (λ e. let g : passes y ≡ true = rw (← e) h in rw g (Memᴰ.head e))
      (λ k. kept (to_those passes l k h))
      (Memᴰ.cases_cons m)
    where
      kept : Memᴰ x (those passes l) → Memᴰ x (pick (passes y) (y ∷ those passes l) (those passes l))
      kept k = test (passes y) (λ g. rw g (Memᴰ.tail k)) (λ g. rw g k)

  -- x is in `each` exactly where it is in f k for some k of the range
  pub in_each : (i n : ℕ) (f : ℕ → List A) {x : A} → Memᴰ x (each i n f) → (k : ℕ) × (i ≤ k) × (k < i + n) × Memᴰ x (f k)
  unfolding each
  in_each i zero f m = absurd (Memᴰ.not-nil m)
  in_each i (suc n) f m =
      ⊎_elim (λ h. (i, omega arith, omega arith, h))
      (λ h. let r = in_each (suc i) n f h in (r.0, omega arith, omega arith, r.3))
      (Memᴰ.append_cases (f i) m)

  pub to_each : (i n k : ℕ) (f : ℕ → List A) {x : A} → i ≤ k → k < i + n → Memᴰ x (f k) → Memᴰ x (each i n f)
  unfolding each
  to_each i zero k f h j m = absurd (omega arith)
  to_each i (suc n) k f h j m =
      elim (dec_lt i k) [
        | yes l ↦ Memᴰ.append_right (f i) (to_each (suc i) n k f l (omega arith) m)
        | no l ↦ let e : k ≡ i = omega arith in Memᴰ.append_left (each (suc i) n f) (rw e at m)
      ]

-- ---- sorted lists

module _ {A : Type 0} (R : A → A → Type 0) where
  pub sorted_append : (l m : List A) → Sorted R l → Sorted R m → ((x y : A) → Memᴰ x l → Memᴰ y m → R x y) → Sorted R (l ++ m)
  sorted_append [] m s t across = t
  sorted_append (x ∷ l) m s t across = (
    λ y k. ⊎_elim (s.0 y) (across x y (Memᴰ.head refl)) (Memᴰ.append_cases l k),
    sorted_append l m s.1 t (λ y z h. across y z (Memᴰ.tail h)),
  )

  pub sorted_those : (passes : A → Bool) (l : List A) → Sorted R l → Sorted R (those passes l)
  unfolding those
  sorted_those passes [] s = tt
  sorted_those passes (x ∷ l) s =
      test (passes x)
      (λ h. rw h (λ y k. s.0 y (in_those passes l k).0, sorted_those passes l s.1))
      (λ h. rw h (sorted_those passes l s.1))

  -- only what stands in the range is compared, for an f that is not monotone past it
  pub sorted_each : (i n : ℕ) (f : ℕ → List A) → ((k : ℕ) → Sorted R (f k))
      → ((j k : ℕ) → j < k → k < i + n → (x y : A) → Memᴰ x (f j) → Memᴰ y (f k) → R x y) → Sorted R (each i n f)
  unfolding each
  sorted_each i zero f s across = tt
  sorted_each i (suc n) f s across =
      sorted_append (f i) (each (suc i) n f) (s i) (sorted_each (suc i) n f s (λ j k l b. across j k l (omega arith)))
      (λ x y h k. let r = in_each (suc i) n f k in across i r.0 r.1 (omega arith) x y h r.3)

  -- of two members, one comes first or they are the same
  pub sorted_cases : (l : List A) → Sorted R l → (x y : A) → Memᴰ x l → Memᴰ y l → (x ≡ y) ⊎ (R x y ⊎ R y x)
  sorted_cases [] s x y h k = absurd (Memᴰ.not-nil h)
  sorted_cases (z ∷ l) s x y h k = go (sorted_cases l s.1 x y) (Memᴰ.cases_cons h) (Memᴰ.cases_cons k)
    where
      go : (Memᴰ x l → Memᴰ y l → (x ≡ y) ⊎ (R x y ⊎ R y x))
          → (x ≡ z) ⊎ Memᴰ x l → (y ≡ z) ⊎ Memᴰ y l → (x ≡ y) ⊎ (R x y ⊎ R y x)
      go below (inl a) (inl b) = inl (a ∙ sym b)
      go below (inl a) (inr b) = inr (inl (rw a (s.0 y b)))
      go below (inr a) (inl b) = inr (inr (rw b (s.0 x a)))
      go below (inr a) (inr b) = below a b

  module _ (asymmetric : Asymmetric R) where
    -- two sorted lists whose members are the same begin with the same
    same_head : (x y : A) (l m : List A) → Sorted R (x ∷ l) → Sorted R (y ∷ m) → Memᴰ x (y ∷ m) → Memᴰ y (x ∷ l) → x ≡ y
    same_head x y l m s t h k =
        ⊎_elim (λ e. e) (λ a. ⊎_elim sym (λ b. absurd (asymmetric x y (s.0 y b) (t.0 x a))) (Memᴰ.cases_cons k))
        (Memᴰ.cases_cons h)

    -- and what follows the first of one follows the first of the other
    same_tail : (x y : A) (l m : List A) → Sorted R (x ∷ l) → x ≡ y
        → ((z : A) → Memᴰ z (x ∷ l) → Memᴰ z (y ∷ m)) → (z : A) → Memᴰ z l → Memᴰ z m
    same_tail x y l m s e into z k =
        not_head (λ b. let g : R x x = subst (R x) (b ∙ sym e) (s.0 z k) in asymmetric x x g g) (into z (Memᴰ.tail k))

    -- a sorted list is known by its members
    pub sorted_unique : (l m : List A) → Sorted R l → Sorted R m → ((x : A) → Memᴰ x l ↔ Memᴰ x m) → l ≡ m
    sorted_unique [] [] s t e = refl
    sorted_unique [] (y ∷ m) s t e = absurd (Memᴰ.not-nil ((e y).1 (Memᴰ.head refl)))
    sorted_unique (x ∷ l) [] s t e = absurd (Memᴰ.not-nil ((e x).0 (Memᴰ.head refl)))
    sorted_unique (x ∷ l) (y ∷ m) s t e =
        let h : x ≡ y = same_head x y l m s t ((e x).0 (Memᴰ.head refl)) ((e y).1 (Memᴰ.head refl)) in
        ap₂ ◌∷◌ h
        (sorted_unique l m s.1 t.1
        (λ z. (same_tail x y l m s h (λ w. (e w).0) z, same_tail y x m l t (sym h) (λ w. (e w).1) z)))

-- sorted by R is sorted by S where R gives S between members
pub sorted_weaken : {A : Type 0} (R S : A → A → Type 0) (l : List A)
    → ((x y : A) → Memᴰ x l → Memᴰ y l → R x y → S x y) → Sorted R l → Sorted S l
sorted_weaken R S [] f s = tt
sorted_weaken R S (x ∷ l) f s = (
  λ y k. f x y (Memᴰ.head refl) (Memᴰ.tail k) (s.0 y k),
  sorted_weaken R S l (λ y z h k. f y z (Memᴰ.tail h) (Memᴰ.tail k)) s.1,
)

-- a map is sorted where the list is, by the relation of the images
pub sorted_map : {A B : Type 0} (R : B → B → Type 0) (f : A → B) (l : List A) → Sorted (λ x y. R (f x) (f y)) l → Sorted R (map f l)
sorted_map R f [] s = tt
sorted_map R f (x ∷ l) s = (λ y k. let r = Memᴰ.of_map f l k in subst (R (f x)) r.2 (s.0 r.0 r.1), sorted_map R f l s.1)

-- ---- the order by a number first, then by what is left

-- over numbers and not over elements, so that it serves the larger-first parts too
pub then_asymmetric : (m n : ℕ) {P Q : Type 0} → (P → Q → ⊥) → Then m n P → Then n m Q → ⊥
then_asymmetric m n f (inl a) (inl b) = omega arith
then_asymmetric m n f (inl a) (inr b) = omega arith
then_asymmetric m n f (inr a) (inl b) = omega arith
then_asymmetric m n f (inr a) (inr b) = f a.1 b.1

pub then_transitive : (m n o : ℕ) {P Q S : Type 0} → (P → Q → S) → Then m n P → Then n o Q → Then m o S
then_transitive m n o f (inl a) (inl b) = inl (omega arith)
then_transitive m n o f (inl a) (inr b) = inl (omega arith)
then_transitive m n o f (inr a) (inl b) = inl (omega arith)
then_transitive m n o f (inr a) (inr b) = inr (a.0 ∙ b.0, f a.1 b.1)

pub by_end_asymmetric : Asymmetric ByEnd
by_end_asymmetric f g = then_asymmetric _ _ (then_asymmetric _ _ (λ h k. omega arith))

pub by_length_asymmetric : Asymmetric ByLength
by_length_asymmetric f g = then_asymmetric _ _ (then_asymmetric _ _ (λ h k. omega arith))

pub by_row_asymmetric : Asymmetric ByRow
by_row_asymmetric f g = then_asymmetric _ _ (λ h k. omega arith)

pub by_row_transitive : Transitive ByRow
by_row_transitive f g h = then_transitive f.start g.start h.start (λ a b. omega arith)

pub leftmost_asymmetric : (c : Choice) → Asymmetric (Leftmost c)
leftmost_asymmetric longest = by_length_asymmetric
leftmost_asymmetric first = by_row_asymmetric
