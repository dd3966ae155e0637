-- Laws of lists that the library and the paper's crate lack: the pigeonhole, and where in a sorted list a member stands.
use mathlib.Core.Path.{◌≡◌, refl, sym, ap, ◌∙◌}
use mathlib.Core.List.Memᴰ
use mathlib.Core.List.{List, [], ◌∷◌, ◌++◌, append-nil, Memᴰ}
use mathlib.Core.Logic.{⊎_elim}
use Prim.Native.Nat.{ℕ, zero, suc, ◌+◌, ◌≤◌, ◌<◌}
use native.Mathlib.Nat.{not-suc-le-zero}
use native.Mathlib.Omega.{arith}
use lib.ListN.{length, get_or, take, drop, take-append-drop}
use lib.Seq.{drop-cons}
use Rattle.paper.specs.Lists.{each, Sorted}
use Rattle.paper.proofs.Order.{not_head}

module _ {A : Type 0} where
  -- what is empty at its end adds nothing
  pub each_past : (i m : ℕ) (f : ℕ → List A) → f (i + m) ≡ [] → each i (suc m) f ≡ each i m f
  unfolding each
  each_past i zero f h = let e : i + 0 ≡ i = omega arith in append-nil (f i) ∙ (rw e at h)
  each_past i (suc m) f h =
      let e : suc i + m ≡ i + suc m = omega arith in ap (λ (l : List A). f i ++ l) (each_past (suc i) m f (rw e h))

  -- ---- the pigeonhole

  -- the list without one member
  pub record Without (x : A) (m : List A) : Type 0 where
    pub rest : List A
    pub shorter : length m ≡ suc (length rest)
    pub keeps : (y : A) → (x ≡ y → ⊥) → Memᴰ y m → Memᴰ y rest

  without : (x : A) (m : List A) → Memᴰ x m → Without x m
  without x [] k = absurd (Memᴰ.not-nil k)
  without x (z ∷ m) k =
      ⊎_elim (λ e. record { rest = m; shorter = refl; keeps = λ y h. not_head (λ q. h (e ∙ sym q)) })
      (λ i. later (without x m i)) (Memᴰ.cases_cons k)
    where
      later : Without x m → Without x (z ∷ m)
      later w =
          record {
            rest = z ∷ w.rest;
            shorter = ap suc w.shorter;
            keeps = λ y h i. ⊎_elim (λ q. Memᴰ.head q) (λ j. Memᴰ.tail (w.keeps y h j)) (Memᴰ.cases_cons i);
          }

  -- a list without doubles is no longer than one that has all its members
  pub fits : (l m : List A) → Sorted (λ x y. x ≡ y → ⊥) l → ((x : A) → Memᴰ x l → Memᴰ x m) → length l ≤ length m
  fits [] m s into = omega arith
  fits (x ∷ l) m s into =
      let w = without x m (into x (Memᴰ.head refl)) in
      let ih : length l ≤ length w.rest = fits l w.rest s.1 (λ y k. w.keeps y (s.0 y k) (into y (Memᴰ.tail k))) in
      omega (arith, w.shorter)

  -- ---- places

  pub get_member : (l : List A) (k : ℕ) (d : A) → k < length l → Memᴰ (get_or l k d) l
  get_member [] k d h = absurd (not-suc-le-zero h)
  get_member (x ∷ l) zero d h = Memᴰ.head refl
  get_member (x ∷ l) (suc k) d h = Memᴰ.tail (get_member l k d (omega arith))

  pub member_at : (l : List A) (d : A) {x : A} → Memᴰ x l → (k : ℕ) × (k < length l) × (get_or l k d ≡ x)
  member_at [] d m = absurd (Memᴰ.not-nil m)
  member_at (y ∷ l) d m =
      ⊎_elim (λ e. (0, omega arith, sym e)) (λ i. let r = member_at l d i in (suc r.0, omega (arith, r.1), r.2))
      (Memᴰ.cases_cons m)

  module _ (R : A → A → Type 0) where
    -- what stands in the first of two parts is in R to what stands in the second
    pub sorted_across : (l m : List A) → Sorted R (l ++ m) → (x y : A) → Memᴰ x l → Memᴰ y m → R x y
    sorted_across [] m s x y h k = absurd (Memᴰ.not-nil h)
    sorted_across (z ∷ l) m s x y h k =
        ⊎_elim (λ e. rw e (s.0 y (Memᴰ.append_right l k))) (λ i. sorted_across l m s.1 x y i k) (Memᴰ.cases_cons h)

    -- what stands before place k is in R to what stands there
    pub sorted_take : (l : List A) → Sorted R l → (k : ℕ) (d x : A) → k < length l → Memᴰ x (take k l) → R x (get_or l k d)
    sorted_take l s k d x h m =
        sorted_across (take k l) (drop k l) (rw (take-append-drop k l) s) x (get_or l k d) m (rw (drop-cons l k d h) (Memᴰ.head refl))

    -- a member that place k is neither the same as nor in R to stands before it
    pub sorted_before : (l : List A) → Sorted R l → (k : ℕ) (d x : A) → k < length l → Memᴰ x l
        → (get_or l k d ≡ x → ⊥) → (R (get_or l k d) x → ⊥) → Memᴰ x (take k l)
    sorted_before [] s k d x h m differs not-later = absurd (Memᴰ.not-nil m)
    sorted_before (y ∷ l) s zero d x h m differs not-later =
        ⊎_elim (λ e. absurd (differs (sym e))) (λ i. absurd (not-later (s.0 x i))) (Memᴰ.cases_cons m)
    sorted_before (y ∷ l) s (suc k) d x h m differs not-later =
        ⊎_elim (λ e. Memᴰ.head e) (λ i. Memᴰ.tail (sorted_before l s.1 k d x (omega arith) i differs not-later))
        (Memᴰ.cases_cons m)
