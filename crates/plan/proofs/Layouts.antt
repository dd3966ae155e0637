-- Layouts: what the tests say, what one group more changes, and what a good layout is good for.
use mathlib.Core.Path.{◌≡◌, refl, sym, ap, ◌∙◌, subst}
use mathlib.Core.Bool.{Bool, true, false, not, ◌&&◌, ◌||◌, or_assoc, or-false}
use mathlib.Core.List.Memᴰ
use mathlib.Core.List.{List, [], ◌∷◌, Memᴰ}
use mathlib.Core.Logic.{◌≢◌, ◌⊎◌, inl, inr, ⊎_elim, ◌↔◌}
use Prim.Native.Nat.{ℕ, ◌*◌, ◌/◌, ◌≤◌, ◌<◌}
use native.Mathlib.Nat.{suc-mul, div-lt_iff_lt-mul}
use native.Mathlib.Decide.{dec_lt}
use native.Mathlib.Omega.{arith}
use lib.Bits.{bit_xor}
use lib.Dec.{eqb, leb}
use Rattle.paper.specs.Lists.{Sorted}
use Rattle.std.proofs.lemmas.Bool.{and_from, or_left, or_right, or_cases, not-true, false_from_ne_true, eqb-true, eq-eqb, ne_eqb, eqb-false, leb-true, le-leb, and_parts, not_from_false}
use Rattle.paper.proofs.Tests.{clash}
use Rattle.paper.proofs.Order.{sorted_append, sorted_cases}
use Rattle.plan.specs.Groups.{Group, bytes_of}
use Rattle.plan.specs.Placement.{Placed, Layout, one_block, any_of, all_of, sits, taken_cell, vacant, used_base, fits, serves, grown}
use Rattle.plan.specs.Placement.{placed_by, put, Alphabet, Lettered, Fits, OtherBase, OtherCells, Good}
use Rattle.plan.proofs.Xor.{xor_twice, xor_byte, xor_below}
use Rattle.plan.proofs.Scans.{any_in, to_any, any_append, all_in, to_all}

-- ---- what the tests say

-- a child that sits at j: its group and its byte
pub record Sitting (ps : List Placed) (j : ℕ) : Type 0 where
  pub one : Placed
  pub listed : Memᴰ one ps
  pub byte : ℕ
  pub has : Memᴰ byte (bytes_of one.group)
  pub is : bit_xor one.base byte ≡ j

module _ (l : Layout) where
  pub taken_cases : (j : ℕ) → taken_cell l j ≡ true → (j ≤ 1) ⊎ Sitting l.placed j
  unfolding taken_cell sits
  taken_cases j h =
      ⊎_elim (λ k. inl (leb-true j 1 k)) (λ k. inr (sitting k)) (or_cases (leb j 1) (any_of (λ p. sits p j) l.placed) h)
    where
      sitting : any_of (λ p. sits p j) l.placed ≡ true → Sitting l.placed j
      sitting k =
          let r = any_in (λ p. sits p j) l.placed k in
          let q = any_in (λ c. eqb (bit_xor r.0.base c) j) (bytes_of r.0.group) r.2 in
          record { one = r.0; listed = r.1; byte = q.0; has = q.1; is = eqb-true (bit_xor r.0.base q.0) j q.2 }

  pub taken_low : (j : ℕ) → j ≤ 1 → taken_cell l j ≡ true
  unfolding taken_cell
  taken_low j h = or_left (leb j 1) (any_of (λ p. sits p j) l.placed) (le-leb j 1 h)

  pub taken_child : (j : ℕ) → Sitting l.placed j → taken_cell l j ≡ true
  unfolding taken_cell sits
  taken_child j s =
      or_right (leb j 1) (any_of (λ p. sits p j) l.placed)
      (to_any (λ p. sits p j) l.placed s.listed
      (to_any (λ c. eqb (bit_xor s.one.base c) j) (bytes_of s.one.group) s.has
      (eq-eqb (bit_xor s.one.base s.byte) j s.is)))

  pub vacant_off : (j : ℕ) → vacant l j ≡ true → 1 < j
  vacant_off j h = elim (dec_lt 1 j) [ yes k ↦ k | no k ↦ clash (taken_low j (omega arith)) (not-true (taken_cell l j) h) ]

  pub vacant_free : (j : ℕ) → vacant l j ≡ true → Sitting l.placed j → ⊥
  vacant_free j h s = clash (taken_child j s) (not-true (taken_cell l j) h)

  pub to_vacant : (j : ℕ) → 1 < j → (Sitting l.placed j → ⊥) → vacant l j ≡ true
  to_vacant j h k =
      not_from_false _ (false_from_ne_true (taken_cell l j) (λ t. ⊎_elim (λ (q : j ≤ 1). let z : ⊥ = omega arith in z) k (taken_cases j t)))

  pub used_in : (b : ℕ) → used_base l b ≡ true → (p : Placed) × Memᴰ p l.placed × (p.base ≡ b)
  unfolding used_base
  used_in b h = let r = any_in (λ p. eqb p.base b) l.placed h in (r.0, r.1, eqb-true r.0.base b r.2)

  pub to_used : (p : Placed) → Memᴰ p l.placed → used_base l p.base ≡ true
  unfolding used_base
  to_used p m = to_any (λ q. eqb q.base p.base) l.placed m (eq-eqb p.base p.base refl)

  pub to_unused : (b : ℕ) → ((p : Placed) → Memᴰ p l.placed → p.base ≢ b) → used_base l b ≡ false
  to_unused b h = false_from_ne_true (used_base l b) (λ k. let r = used_in b k in h r.0 r.1 r.2)

  -- the test for a base says what document 01 asks of it
  pub fits_is : (g : Group) (b : ℕ) → (fits l g b ≡ true) ↔ Fits l g b
  unfolding fits
  fits_is g b = (from, to)
    where
      room : Bool
      room = all_of (λ c. vacant l (bit_xor b c)) (bytes_of g)

      from : (not (eqb b 0) && (not (used_base l b) && room)) ≡ true → Fits l g b
      from h =
          let rest = (and_parts (not (eqb b 0)) (not (used_base l b) && room) h).1 in
          let free = not-true (used_base l b) (and_parts (not (used_base l b)) room rest).0 in
          record {
            nonzero = eqb-false b 0 (not-true (eqb b 0) (and_parts (not (eqb b 0)) (not (used_base l b) && room) h).0);
            unused = λ p m e. clash (to_used p m) (rw e free);
            room = λ c m. all_in (λ d. vacant l (bit_xor b d)) (bytes_of g) (and_parts (not (used_base l b)) room rest).1 m;
          }

      to : Fits l g b → (not (eqb b 0) && (not (used_base l b) && room)) ≡ true
      to F =
          and_from (not (eqb b 0)) (not (used_base l b) && room) (not_from_false _ (ne_eqb b 0 F.nonzero))
          (and_from (not (used_base l b)) room (not_from_false _ (to_unused b F.unused))
          (to_all (λ d. vacant l (bit_xor b d)) (bytes_of g) F.room))

  -- the index of a base that fits is vacant: the lowest child sits there
  pub fits_vacant : (g : Group) (i : ℕ) → fits l g (bit_xor i g.low) ≡ true → vacant l i ≡ true
  fits_vacant g i h =
      subst (λ (j : ℕ). vacant l j ≡ true) (xor_twice i g.low) (((fits_is g (bit_xor i g.low)).0 h).room g.low (Memᴰ.head refl))

-- ---- one block more, one group more

pub serves_grown : (l : Layout) (g : Group) (i : ℕ) → serves (grown l) g i ≡ serves l g i
unfolding taken_cell fits used_base
serves_grown l g i = refl

pub taken_put : (l : Layout) (g : Group) (i j : ℕ) → taken_cell (put l g i) j ≡ (taken_cell l j || sits (placed_by g i) j)
unfolding taken_cell any_of
taken_put l g i j =
    rw (any_append (λ p. sits p j) l.placed (placed_by g i ∷ []), or-false (sits (placed_by g i) j))
    (sym (or_assoc (leb j 1) (any_of (λ p. sits p j) l.placed) (sits (placed_by g i) j)))

pub used_put : (l : Layout) (g : Group) (i b : ℕ) → used_base (put l g i) b ≡ (used_base l b || eqb (bit_xor i g.low) b)
unfolding used_base any_of
used_put l g i b =
    rw (any_append (λ p. eqb p.base b) l.placed (placed_by g i ∷ []), or-false (eqb (bit_xor i g.low) b))

-- what holds of all that was placed and of the new one holds of all
put_all : (l : Layout) (g : Group) (i : ℕ) (P : Placed → Type 0) → ((p : Placed) → Memᴰ p l.placed → P p)
    → P (placed_by g i) → (p : Placed) → Memᴰ p (put l g i).placed → P p
put_all l g i P old new p m =
    ⊎_elim (old p) (λ k. let e : p ≡ placed_by g i = Memᴰ.eq_of_singleton k in rw e new) (Memᴰ.append_cases l.placed m)

-- and so of a relation
put_sorted : (l : Layout) (g : Group) (i : ℕ) (R : Placed → Placed → Type 0) → Sorted R l.placed
    → ((p : Placed) → Memᴰ p l.placed → R p (placed_by g i)) → Sorted R (put l g i).placed
put_sorted l g i R s new =
    sorted_append R l.placed (placed_by g i ∷ []) s (λ y m. absurd (Memᴰ.not-nil m), tt)
    (λ p q m k. let e : q ≡ placed_by g i = Memᴰ.eq_of_singleton k in rw e (new p m))

-- ---- good layouts

module _ (a : ℕ) where
  pub begun_good : Good a one_block
  begun_good =
      record {
        some_block = omega arith;
        nonzero = λ p m. absurd (Memᴰ.not-nil m);
        within = λ p m. absurd (Memᴰ.not-nil m);
        lettered = λ p m. absurd (Memᴰ.not-nil m);
        unshared = tt;
        apart = tt;
        off = λ p m. absurd (Memᴰ.not-nil m);
      }

  pub grown_good : (l : Layout) → Good a l → Good a (grown l)
  grown_good l G =
      record {
        some_block = omega arith;
        nonzero = G.nonzero;
        within = λ p m. omega (arith, G.within p m, suc-mul l.blocks a);
        lettered = G.lettered;
        unshared = G.unshared;
        apart = G.apart;
        off = G.off;
      }

module _ (a : ℕ) (A : Alphabet a) where
  -- a base that fits keeps the layout good
  pub put_good : (l : Layout) (g : Group) (i : ℕ) → Good a l → Lettered a g → i < l.blocks * a → fits l g (bit_xor i g.low) ≡ true
      → Good a (put l g i)
  put_good l g i G T h f =
      record {
        some_block = G.some_block;
        nonzero = put_all l g i (λ p. p.base ≢ 0) G.nonzero F.nonzero;
        within = put_all l g i (λ p. p.base < l.blocks * a) G.within
            (xor_below a A i g.low l.blocks (T g.low (Memᴰ.head refl)) h);
        lettered = put_all l g i (λ p. Lettered a p.group) G.lettered T;
        unshared = put_sorted l g i OtherBase G.unshared F.unused;
        apart = put_sorted l g i OtherCells G.apart across;
        off = put_all l g i (λ p. (c : ℕ) → Memᴰ c (bytes_of p.group) → 1 < bit_xor p.base c) G.off
            (λ c m. vacant_off l (bit_xor (bit_xor i g.low) c) (F.room c m));
      }
    where
      F : Fits l g (bit_xor i g.low)
      F = (fits_is l g (bit_xor i g.low)).0 f

      across : (p : Placed) → Memᴰ p l.placed → OtherCells p (placed_by g i)
      across p m c d h k e =
          vacant_free l (bit_xor (bit_xor i g.low) d) (F.room d k) (record { one = p; listed = m; byte = c; has = h; is = e })

  -- all of a good layout is within its blocks
  pub sitting_within : (l : Layout) → Good a l → (j : ℕ) → Sitting l.placed j → j < l.blocks * a
  sitting_within l G j s =
      subst (λ (k : ℕ). k < l.blocks * a) s.is
      (xor_below a A s.one.base s.byte l.blocks (G.lettered s.one s.listed s.byte s.has)
      (G.within s.one s.listed))

  -- (q3) so is each child, past root and dead
  pub child_inside : (l : Layout) → Good a l → (p : Placed) (c : ℕ) → Memᴰ p l.placed → Memᴰ c (bytes_of p.group)
      → (1 < bit_xor p.base c) × (bit_xor p.base c < l.blocks * a)
  child_inside l G p c m k = (
    G.off p m c k,
    sitting_within l G (bit_xor p.base c) (record { one = p; listed = m; byte = c; has = k; is = refl }),
  )

-- (q3) what a good layout says of any two groups
module _ (a : ℕ) (l : Layout) (G : Good a l) where
  -- no base is shared
  pub base_alone : (p q : Placed) → Memᴰ p l.placed → Memᴰ q l.placed → p.base ≡ q.base → p ≡ q
  base_alone p q m k e =
      ⊎_elim (λ h. h) (⊎_elim (λ h. absurd (h e)) (λ h. absurd (h (sym e)))) (sorted_cases OtherBase l.placed G.unshared p q m k)

  -- no cell is shared
  pub cell_alone : (p q : Placed) (c d : ℕ) → Memᴰ p l.placed → Memᴰ q l.placed
      → Memᴰ c (bytes_of p.group) → Memᴰ d (bytes_of q.group) → bit_xor p.base c ≡ bit_xor q.base d → (p ≡ q) × (c ≡ d)
  cell_alone p q c d m k h i e = (same, xor_byte p.base c d (e ∙ ap (λ (r : Placed). bit_xor r.base d) (sym same)))
    where
      same : p ≡ q
      same =
          ⊎_elim (λ r. r) (⊎_elim (λ r. absurd (r c d h i e)) (λ r. absurd (r d c i h (sym e))))
          (sorted_cases OtherCells l.placed G.apart p q m k)

  -- a base's block is one of the blocks
  pub base_block : 0 < a → (p : Placed) → Memᴰ p l.placed → p.base / a < l.blocks
  base_block h p m = (div-lt_iff_lt-mul h).1 (G.within p m)

  -- 0 is never used
  pub zero_unused : used_base l 0 ≡ false
  zero_unused = to_unused l 0 G.nonzero
