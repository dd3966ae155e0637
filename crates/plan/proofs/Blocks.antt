-- A block with no unused base has no vacant cell: each base of the block has a child in it, no two of them share a cell, and so the
-- children fill the block. In block 0 the base 0 is never used.
use mathlib.Core.Path.{◌≡◌, refl, sym, ap, ◌∙◌}
use mathlib.Core.Bool.{true, false, not}
use mathlib.Core.List.Memᴰ
use mathlib.Core.List.{List, [], ◌∷◌, map, Memᴰ}
use mathlib.Core.Logic.{⊎_elim}
use mathlib.Core.Option.{Option, none, some}
use Prim.Native.Nat.{ℕ, suc, ◌+◌, ◌*◌, ◌/◌, ◌≤◌, ◌<◌}
use native.Mathlib.Nat.{suc-mul, zero-mul, div-mul-le_self, lt-div-mul-add}
use native.Mathlib.Omega.{arith}
use lib.Bits.{bit_xor}
use lib.Dec.{eqb}
use lib.ListN.{length-map}
use Rattle.paper.specs.Lists.{pick, each, Sorted}
use Rattle.std.proofs.lemmas.Bool.{not-true, not-false, eqb-true}
use Rattle.paper.proofs.Tests.{test, clash}
use Rattle.paper.proofs.Order.{in_each, to_each, sorted_each, sorted_weaken, sorted_map}
use Rattle.plan.specs.Placement.{Placed, Layout, any_of, taken_cell, vacant, used_base, Alphabet, Good}
use Rattle.plan.specs.Cells.{unused_in, Smallest}
use Rattle.plan.proofs.Lists.{fits as no_longer}
use Rattle.plan.proofs.Xor.{some_letter, xor_below, xor_above}
use Rattle.plan.proofs.Scans.{first_some, first_none, to_first_some}
use Rattle.plan.proofs.Layouts.{Sitting, taken_child, cell_alone, zero_unused}

-- ---- the numbers of a range

abbrev numbers : ℕ → ℕ → List ℕ
numbers i n = each i n (λ k. k ∷ [])

in_numbers : (i n : ℕ) {k : ℕ} → Memᴰ k (numbers i n) → (i ≤ k) × (k < i + n)
in_numbers i n {k} m =
    let r = in_each i n (λ j. j ∷ []) m in
    let e : k ≡ r.0 = Memᴰ.eq_of_singleton r.3 in
    omega (arith, r.1, r.2)

to_numbers : (i n k : ℕ) → i ≤ k → k < i + n → Memᴰ k (numbers i n)
to_numbers i n k h l = to_each i n k (λ j. j ∷ []) h l (Memᴰ.head refl)

numbers_rising : (i n : ℕ) → Sorted (λ x y. x < y) (numbers i n)
numbers_rising i n =
    sorted_each (λ x y. x < y) i n (λ k. k ∷ []) (λ k. (λ y m. absurd (Memᴰ.not-nil m), tt))
    (λ j k l b x y m p. omega (arith, Memᴰ.eq_of_singleton m, Memᴰ.eq_of_singleton p))

-- ---- the pigeonhole

-- the lowest byte of the group that has base b
low_in : List Placed → ℕ → ℕ
low_in [] b = 0
low_in (p ∷ ps) b = pick (eqb p.base b) p.group.low (low_in ps b)

low_in_lem : (ps : List Placed) (b : ℕ) → any_of (λ p. eqb p.base b) ps ≡ true
    → (p : Placed) × Memᴰ p ps × (p.base ≡ b) × (low_in ps b ≡ p.group.low)
unfolding any_of low_in
low_in_lem [] b h = clash refl (sym h)
low_in_lem (p ∷ ps) b h =
    test (eqb p.base b) (λ e. (p, Memᴰ.head refl, eqb-true p.base b e, rw e))
    (λ e. let r = low_in_lem ps b (rw e at h) in (r.0, Memᴰ.tail r.1, r.2, rw e r.3))

module _ (a : ℕ) (A : Alphabet a) (l : Layout) (G : Good a l) (k : ℕ) where
  -- the cell of the lowest child of the group that has base b
  cell : ℕ → ℕ
  cell b = bit_xor b (low_in l.placed b)

  -- it sits there
  record Lowest (b : ℕ) : Type 0 where
    one : Placed
    listed : Memᴰ one l.placed
    is : one.base ≡ b
    byte : low_in l.placed b ≡ one.group.low

  lowest : (b : ℕ) → used_base l b ≡ true → Lowest b
  unfolding used_base
  lowest b h = let r = low_in_lem l.placed b h in record { one = r.0; listed = r.1; is = r.2; byte = r.3 }

  sitting : (b : ℕ) → Lowest b → Sitting l.placed (cell b)
  unfolding cell
  sitting b w =
      record { one = w.one; listed = w.listed; byte = w.one.group.low; has = Memᴰ.head refl; is = rw (w.is, w.byte) }

  different : (b d : ℕ) → Lowest b → Lowest d → cell b ≡ cell d → b ≡ d
  unfolding sitting
  different b d v w e =
      let r = cell_alone a l G v.one w.one v.one.group.low w.one.group.low v.listed w.listed
      (Memᴰ.head refl) (Memᴰ.head refl) ((sitting b v).is ∙ e ∙ sym (sitting d w).is) in
      sym v.is ∙ ap (λ (p : Placed). p.base) r.0 ∙ w.is

  letter : (b : ℕ) → Lowest b → low_in l.placed b < a
  letter b w = rw w.byte (G.lettered w.one w.listed w.one.group.low (Memᴰ.head refl))

  module _ (used : (b : ℕ) → k * a ≤ b → b < k * a + a → used_base l b ≡ true) where
    here : (b : ℕ) → Memᴰ b (numbers (k * a) a) → Lowest b
    here b m = let r = in_numbers (k * a) a m in lowest b (used b r.0 r.1)

    stays : (b : ℕ) → Memᴰ b (numbers (k * a) a) → Memᴰ (cell b) (numbers (k * a) a)
    unfolding cell
    stays b m =
        let r = in_numbers (k * a) a m in
        let c : low_in l.placed b < a = letter b (here b m) in
        to_numbers (k * a) a (bit_xor b (low_in l.placed b)) (xor_above a A b (low_in l.placed b) k c r.0)
        (omega (arith, suc-mul k a, xor_below a A b (low_in l.placed b) (suc k) c (omega (arith, suc-mul k a, r.1))))

    block_filled : (j : ℕ) → k * a ≤ j → j < k * a + a → taken_cell l j ≡ false → ⊥
    block_filled j h u v =
        omega (
          arith,
          no_longer (j ∷ map cell (numbers (k * a) a)) (numbers (k * a) a) once into,
          length-map (numbers (k * a) a) cell,
        )
      where
        once : Sorted (λ x y. x ≡ y → ⊥) (j ∷ map cell (numbers (k * a) a))
        once = (
          λ y m e. let r = Memᴰ.of_map cell (numbers (k * a) a) m in
              clash (taken_child l (cell r.0) (sitting r.0 (here r.0 r.1))) (rw (r.2, ← e) v),
          sorted_map (λ x y. x ≡ y → ⊥) cell (numbers (k * a) a)
              (sorted_weaken (λ x y. x < y) (λ x y. cell x ≡ cell y → ⊥) (numbers (k * a) a)
              (λ x y m p q e. omega (arith, different x y (here x m) (here y p) e)) (numbers_rising (k * a) a)),
        )

        into : (x : ℕ) → Memᴰ x (j ∷ map cell (numbers (k * a) a)) → Memᴰ x (numbers (k * a) a)
        into x m =
            ⊎_elim (λ e. rw e (to_numbers (k * a) a j h u))
            (λ p. let r = Memᴰ.of_map cell (numbers (k * a) a) p in rw (← r.2) (stays r.0 r.1)) (Memᴰ.cases_cons m)

-- ---- the smallest unused base of a block

module _ (a : ℕ) (l : Layout) where
  -- (q5) it is in the block, unused, and every smaller base of the block is used
  pub unused_some : (k u : ℕ) → unused_in a l k ≡ some u → Smallest a l k u
  unfolding unused_in
  unused_some k u e =
      let F = first_some (λ b. not (used_base l b)) (k * a) a u e in
      record {
        from = F.from;
        within = F.within;
        unused = not-true (used_base l u) F.passed;
        smallest = λ b h m. not-false (used_base l b) (F.first b h m);
      }

  pub to_unused_some : (k u : ℕ) → Smallest a l k u → unused_in a l k ≡ some u
  unfolding unused_in
  to_unused_some k u M =
      to_first_some (λ b. not (used_base l b)) (k * a) a u
      (record {
        from = M.from;
        within = M.within;
        passed = ap not M.unused;
        first = λ b h m. ap not (M.smallest b h m);
      })

  pub unused_none : (k : ℕ) → unused_in a l k ≡ none → (b : ℕ) → k * a ≤ b → b < k * a + a → used_base l b ≡ true
  unfolding unused_in
  unused_none k e b h m = not-false (used_base l b) (first_none (λ c. not (used_base l c)) (k * a) a e b h m)

  module _ (A : Alphabet a) (G : Good a l) where
    -- (q4) a block with no unused base has no vacant cell
    pub full_block : (k : ℕ) → unused_in a l k ≡ none → (j : ℕ) → k * a ≤ j → j < k * a + a → taken_cell l j ≡ true
    full_block k e j h m =
        test (taken_cell l j) (λ t. t) (λ t. absurd (block_filled a A l G k (unused_none k e) j h m t))

    -- so the block of a vacant cell has one
    pub vacant_unused : (j : ℕ) → vacant l j ≡ true → (u : ℕ) × (unused_in a l (j / a) ≡ some u)
    vacant_unused j v = go (unused_in a l (j / a)) refl
      where
        go : (o : Option ℕ) → unused_in a l (j / a) ≡ o → (u : ℕ) × (unused_in a l (j / a) ≡ some u)
        go none e =
            clash (full_block (j / a) e j (div-mul-le_self j a) (lt-div-mul-add (some_letter a A))) (not-true (taken_cell l j) v)
        go (some u) e = (u, e)

    -- (q4) block 0 has base 0
    pub block_zero : unused_in a l 0 ≡ some 0
    block_zero =
        to_unused_some 0 0
        (record {
          from = omega (arith, zero-mul a);
          within = omega (arith, A.two);
          unused = zero_unused a l G;
          smallest = λ b h m. absurd (omega arith);
        })
