-- Laws of the tests over a list and of the scan over numbers: what they say, and when they say it.
use mathlib.Core.Path.{◌≡◌, refl, sym, ap, ◌∙◌}
use mathlib.Core.Bool.{Bool, true, false, ◌||◌, or_assoc}
use mathlib.Core.List.Memᴰ
use mathlib.Core.List.{List, [], ◌∷◌, ◌++◌, Memᴰ}
use mathlib.Core.Logic.{⊎_elim}
use mathlib.Core.Option.{Option, none, some, some-injective, none-ne-some}
use Prim.Native.Nat.{ℕ, zero, suc, ◌+◌, ◌≤◌, ◌<◌}
use native.Mathlib.Decide.{ℕ_discrete, dec_lt}
use native.Mathlib.Omega.{arith}
use lib.ListN.{length, get_or}
use Rattle.paper.specs.Lists.{each}
use Rattle.std.proofs.lemmas.Bool.{and_from, or_left, or_right, or_cases, and_parts}
use Rattle.paper.proofs.Tests.{test, clash}
use Rattle.plan.specs.Placement.{any_of, all_of, first_where}

-- ---- an element passes, all pass

module _ {A : Type 0} (passes : A → Bool) where
  pub any_in : (l : List A) → any_of passes l ≡ true → (x : A) × Memᴰ x l × (passes x ≡ true)
  unfolding any_of
  any_in [] h = clash refl (sym h)
  any_in (x ∷ l) h =
      ⊎_elim (λ k. (x, Memᴰ.head refl, k)) (λ k. let r = any_in l k in (r.0, Memᴰ.tail r.1, r.2))
      (or_cases (passes x) (any_of passes l) h)

  pub to_any : (l : List A) {x : A} → Memᴰ x l → passes x ≡ true → any_of passes l ≡ true
  unfolding any_of
  to_any [] m h = absurd (Memᴰ.not-nil m)
  to_any (y ∷ l) m h =
      ⊎_elim (λ e. or_left (passes y) (any_of passes l) (rw e at h)) (λ k. or_right (passes y) (any_of passes l) (to_any l k h))
      (Memᴰ.cases_cons m)

  pub any_append : (l m : List A) → any_of passes (l ++ m) ≡ (any_of passes l || any_of passes m)
  unfolding any_of
  any_append [] m = refl
  any_append (x ∷ l) m = rw (any_append l m) (sym (or_assoc (passes x) (any_of passes l) (any_of passes m)))

  pub all_in : (l : List A) {x : A} → all_of passes l ≡ true → Memᴰ x l → passes x ≡ true
  unfolding all_of
  all_in [] h m = absurd (Memᴰ.not-nil m)
  all_in (y ∷ l) h m =
      ⊎_elim (λ e. rw e (and_parts (passes y) (all_of passes l) h).0) (λ k. all_in l (and_parts (passes y) (all_of passes l) h).1 k)
      (Memᴰ.cases_cons m)

  pub to_all : (l : List A) → ((x : A) → Memᴰ x l → passes x ≡ true) → all_of passes l ≡ true
  unfolding all_of
  to_all [] h = refl
  to_all (y ∷ l) h = and_from (passes y) (all_of passes l) (h y (Memᴰ.head refl)) (to_all l (λ x m. h x (Memᴰ.tail m)))

-- ---- the first number that passes

-- k is the first of the n numbers from i that passes
pub record First (passes : ℕ → Bool) (i n k : ℕ) : Type 0 where
  pub from : i ≤ k
  pub within : k < i + n
  pub passed : passes k ≡ true
  pub first : (j : ℕ) → i ≤ j → j < k → passes j ≡ false

module _ (passes : ℕ → Bool) where
  pub first_some : (i n k : ℕ) → first_where passes i n ≡ some k → First passes i n k
  unfolding first_where
  first_some i zero k e = absurd (none-ne-some k e)
  first_some i (suc n) k e = test (passes i) here (λ h. later h (first_some (suc i) n k (rw h at e)))
    where
      here : passes i ≡ true → First passes i (suc n) k
      here h =
          let at : i ≡ k = some-injective i k (rw h at e) in
          record { from = omega arith; within = omega arith; passed = rw (← at) h; first = λ j l u. absurd (omega arith) }

      later : passes i ≡ false → First passes (suc i) n k → First passes i (suc n) k
      later h r =
          record {
            from = omega (arith, r.from);
            within = omega (arith, r.within);
            passed = r.passed;
            first = λ j l u. elim (ℕ_discrete i j) [ yes q ↦ rw (← q) h | no q ↦ r.first j (omega arith) u ];
          }

  pub first_none : (i n : ℕ) → first_where passes i n ≡ none → (j : ℕ) → i ≤ j → j < i + n → passes j ≡ false
  unfolding first_where
  first_none i zero e j l u = absurd (omega arith)
  first_none i (suc n) e j l u =
      test (passes i) (λ h. absurd (none-ne-some i (sym (rw h at e))))
      (λ h. elim (ℕ_discrete i j) [ yes q ↦ rw (← q) h | no q ↦ first_none (suc i) n (rw h at e) j (omega arith) (omega arith) ])

  -- so the scan finds the number that is the first
  pub to_first_some : (i n k : ℕ) → First passes i n k → first_where passes i n ≡ some k
  to_first_some i n k F = go (first_where passes i n) refl
    where
      go : (o : Option ℕ) → first_where passes i n ≡ o → first_where passes i n ≡ some k
      go none e = clash F.passed (first_none i n e k F.from F.within)
      go (some j) e = e ∙ ap some (the_first (first_some i n j e))
        where
          the_first : First passes i n j → j ≡ k
          the_first G =
              elim (dec_lt j k) [
                | yes l ↦ clash G.passed (F.first j G.from l)
                | no l ↦ elim (dec_lt k j) [ yes m ↦ clash F.passed (G.first k F.from m) | no m ↦ omega arith ]
              ]

  pub to_first_none : (i n : ℕ) → ((j : ℕ) → i ≤ j → j < i + n → passes j ≡ false) → first_where passes i n ≡ none
  to_first_none i n h = go (first_where passes i n) refl
    where
      go : (o : Option ℕ) → first_where passes i n ≡ o → first_where passes i n ≡ none
      go none e = e
      go (some k) e = let F = first_some i n k e in clash F.passed (h k F.from F.within)

-- ---- one element for each number of a range

module _ {A : Type 0} (f : ℕ → A) where
  pub each_length : (i n : ℕ) → length (each i n (λ j. f j ∷ [])) ≡ n
  unfolding each
  each_length i zero = refl
  each_length i (suc n) = ap suc (each_length (suc i) n)

  pub each_get : (i n k : ℕ) (d : A) → k < n → get_or (each i n (λ j. f j ∷ [])) k d ≡ f (i + k)
  unfolding each
  each_get i zero k d h = absurd (omega arith)
  each_get i (suc n) zero d h = let e : i + 0 ≡ i = omega arith in rw e
  each_get i (suc n) (suc k) d h = let e : i + suc k ≡ suc i + k = omega arith in rw e (each_get (suc i) n k d (omega arith))
