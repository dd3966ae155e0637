-- From a stack no state is pushed twice: the states popped and those on the stack are states, each once, and the parent of each was popped.
-- So together they are no more than there are states.
use mathlib.Core.Path.{◌≡◌, refl, sym, ap, ◌∙◌, subst}
use mathlib.Core.Bool.{Bool, true}
use mathlib.Core.List.Memᴰ
use mathlib.Core.List.{List, [], ◌∷◌, ◌++◌, reverse, Memᴰ}
use mathlib.Core.Logic.{◌⊎◌, inl, inr, ⊎_elim}
use Prim.Native.Nat.{ℕ, ◌+◌, ◌≤◌}
use native.Mathlib.Omega.{arith}
use lib.ListN.{length, length-append}
use Rattle.paper.specs.Lists.{snoc, Sorted}
use Rattle.paper.proofs.Strings.{length_snoc, snoc_parent}
use Rattle.paper.proofs.Order.{sorted_append, sorted_weaken}
use Rattle.plan.specs.Breadth.{kids, Apart}
use Rattle.plan.proofs.Breadth.{in_kids, kids_once}
use Rattle.plan.proofs.Lists.{fits}
use Rattle.plan.proofs.Groups.{in_reverse, sorted_reverse}

-- popped, or on the stack
abbrev pub Seen : List (List ℕ) → List (List ℕ) → List ℕ → Type 0
Seen popped stack x = Memᴰ x popped ⊎ Memᴰ x stack

pub record Visits (S : List ℕ → Bool) (popped stack : List (List ℕ)) : Type 0 where
  pub popped_once : Sorted Apart popped
  pub stack_once : Sorted Apart stack
  pub apart : (x y : List ℕ) → Memᴰ x popped → Memᴰ y stack → Apart x y
  pub states : (x : List ℕ) → Seen popped stack x → S x ≡ true
  pub parents : (u : List ℕ) (c : ℕ) → Seen popped stack (snoc u c) → Memᴰ u popped

-- root alone
pub visits_root : (S : List ℕ → Bool) → S [] ≡ true → Visits S [] ([] ∷ [])
visits_root S h =
    record {
      popped_once = tt;
      stack_once = (λ y m. absurd (Memᴰ.not-nil m), tt);
      apart = λ x y m k. absurd (Memᴰ.not-nil m);
      states = λ x m. ⊎_elim (λ k. absurd (Memᴰ.not-nil k)) (λ k. subst (λ (z : List ℕ). S z ≡ true) (sym (Memᴰ.eq_of_singleton k)) h) m;
      parents = λ u c m. ⊎_elim (λ k. absurd (Memᴰ.not-nil k)) (λ k. absurd (omega (arith, ap length (Memᴰ.eq_of_singleton k), length_snoc u c))) m;
    }

-- these states are no more than a list that has all states
pub visits_fit : {S : List ℕ → Bool} {popped stack : List (List ℕ)} → Visits S popped stack
    → (m : List (List ℕ)) → ((s : List ℕ) → S s ≡ true → Memᴰ s m) → length popped + length stack ≤ length m
visits_fit {S} {popped} {stack} W m all =
    omega (
      arith,
      length-append popped stack,
      fits (popped ++ stack) m (sorted_append Apart popped stack W.popped_once W.stack_once W.apart)
          (λ x k. all x (W.states x (Memᴰ.append_cases popped k))),
    )

module _ (a : ℕ) (S : List ℕ → Bool) (popped stack : List (List ℕ)) (s : List ℕ) (W : Visits S popped (s ∷ stack)) where
  -- the children of s
  abbrev K : List (List ℕ)
  K = kids a S s

  kid_is : {x : List ℕ} → Memᴰ x K → (c : ℕ) × (x ≡ snoc s c) × (S x ≡ true)
  kid_is m =
      let k = in_kids a S s m in
      (k.letter, k.is ∙ ap (λ (u : List ℕ). snoc u k.letter) (Memᴰ.eq_of_singleton k.listed), k.state)

  -- s was not popped before, so none of its children was seen
  kid_new : {x : List ℕ} → Memᴰ x K → Seen popped (s ∷ stack) x → ⊥
  kid_new m seen =
      let k = kid_is m in
      W.apart s s (W.parents s k.0 (subst (Seen popped (s ∷ stack)) k.1 seen)) (Memᴰ.head refl) refl

  -- what is seen afterwards is a child, or was seen before
  came : {x : List ℕ} → Seen (s ∷ popped) (reverse K ++ stack) x → Memᴰ x K ⊎ Seen popped (s ∷ stack) x
  came (inl m) = ⊎_elim (λ e. inr (inr (Memᴰ.head e))) (λ k. inr (inl k)) (Memᴰ.cases_cons m)
  came (inr m) = ⊎_elim (λ k. inl (in_reverse K k)) (λ k. inr (inr (Memᴰ.tail k))) (Memᴰ.append_cases (reverse K) m)

  apart_still : (x y : List ℕ) → Memᴰ x (s ∷ popped) → Memᴰ y (reverse K ++ stack) → Apart x y
  apart_still x y m k e = ⊎_elim from_kid from_stack (Memᴰ.append_cases (reverse K) k)
    where
      from_kid : Memᴰ y (reverse K) → ⊥
      from_kid j =
          let kid = in_reverse K j in
          let q = kid_is kid in
          ⊎_elim (λ d. omega (arith, ap length (sym d ∙ e ∙ q.1), length_snoc s q.0))
          (λ i. kid_new kid (inl (subst (λ (z : List ℕ). Memᴰ z popped) e i))) (Memᴰ.cases_cons m)

      from_stack : Memᴰ y stack → ⊥
      from_stack j =
          ⊎_elim (λ d. W.stack_once.0 y j (sym d ∙ e)) (λ i. W.apart x y i (Memᴰ.tail j) e) (Memᴰ.cases_cons m)

  -- s is popped and its children are pushed
  pub visits_pop : Visits S (s ∷ popped) (reverse K ++ stack)
  visits_pop =
      record {
        popped_once = (λ y m e. W.apart y s m (Memᴰ.head refl) (sym e), W.popped_once);
        stack_once =
            sorted_append Apart (reverse K) stack
            (sorted_reverse Apart K (sorted_weaken Apart (λ x y. Apart y x) K (λ x y m k h e. h (sym e)) (kids_once a S s)))
            W.stack_once.1
            (λ x y m k e. kid_new (in_reverse K m) (inr (Memᴰ.tail (subst (λ (z : List ℕ). Memᴰ z stack) (sym e) k))));
        apart = apart_still;
        states = λ x m. ⊎_elim (λ k. (kid_is k).2) (λ k. W.states x k) (came m);
        parents = λ u c m.
            ⊎_elim (λ k. let q = kid_is k in Memᴰ.head (snoc_parent u s c q.0 q.1)) (λ k. Memᴰ.tail (W.parents u c k)) (came m);
      }
