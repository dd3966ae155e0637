-- The names are the states and dead, each once; a list of names only grows.
use mathlib.Core.Path.{◌≡◌, refl, sym, ap, ◌∙◌, subst}
use mathlib.Core.Bool.{Bool, true, false, ◌||◌, or_assoc, or-false}
use mathlib.Core.List.{List, [], ◌∷◌, ◌++◌, append-nil, Memᴰ}
use mathlib.Core.Logic.{⊎_elim}
use Prim.Native.Nat.{ℕ, zero, suc, ◌+◌, ◌*◌, ◌≤◌, ◌<◌}
use native.Mathlib.Nat.{not-suc-le-zero}
use native.Mathlib.Decide.{dec_lt}
use native.Mathlib.Omega.{arith}
use lib.Dec.{eqb}
use lib.ListN.{length, get_or, length-append, get_or-append}
use lib.Seq.{get_or-append_seam}
use Rattle.paper.specs.Lists.{same, prefix, snoc}
use Rattle.paper.specs.Patterns.{Entry}
use Rattle.paper.specs.Automaton.{is_state}
use Rattle.std.proofs.lemmas.Bool.{or_left, or_right, or_cases, eqb-true, and_parts}
use Rattle.paper.proofs.Tests.{test, clash, true_both}
use Rattle.paper.proofs.Strings.{same_eq, same_refl, prefix_append, snoc_append}
use Rattle.paper.proofs.Machines.{state_root}
use Rattle.plan.specs.Names.{has, made, along, names_from, root_and_dead, names, Distinct}

-- ---- members

pub has_append : (xs ys : List (List ℕ)) (s : List ℕ) → has (xs ++ ys) s ≡ (has xs s || has ys s)
unfolding has
has_append [] ys s = refl
has_append (x ∷ xs) ys s = rw (has_append xs ys s) (sym (or_assoc (same s x) (has xs s) (has ys s)))

pub has_one : (x s : List ℕ) → has (x ∷ []) s ≡ same s x
unfolding has
has_one x s = or-false (same s x)

pub has_at : (ns : List (List ℕ)) (i : ℕ) → i < length ns → has ns (get_or ns i []) ≡ true
unfolding has
has_at [] i h = absurd (not-suc-le-zero h)
has_at (x ∷ xs) zero h = or_left (same x x) (has xs x) (same_refl x)
has_at (x ∷ xs) (suc i) h = or_right (same (get_or xs i []) x) (has xs (get_or xs i [])) (has_at xs i (omega arith))

-- where a name stands
pub record Index (ns : List (List ℕ)) (s : List ℕ) : Type 0 where
  pub at : ℕ
  pub inside : at < length ns
  pub is : get_or ns at [] ≡ s

pub index : (ns : List (List ℕ)) (s : List ℕ) → has ns s ≡ true → Index ns s
unfolding has
index [] s h = clash refl (sym h)
index (x ∷ xs) s h =
    test (same s x) (λ e. record { at = 0; inside = omega arith; is = sym (same_eq s x e) })
    (λ e. let i = index xs s (rw e at h) in record { at = suc i.at; inside = omega (arith, i.inside); is = i.is })

has_made : (ns : List (List ℕ)) (x s : List ℕ) → has (made ns x) s ≡ (has ns s || same s x)
unfolding made
has_made ns x s =
    test (has ns x)
    (λ h. rw h (test (same s x) (λ e. rw (e, same_eq s x e, h)) (λ e. rw e (sym (or-false (has ns s))))))
    (λ h. rw (h, has_append ns (x ∷ []) s, has_one x s))

-- s is u with one byte of w after it, or more
within : List ℕ → List ℕ → List ℕ → Bool
within u [] s = false
within u (c ∷ w) s = same s (snoc u c) || within (snoc u c) w s

has_along : (ns : List (List ℕ)) (u w s : List ℕ) → has (along ns u w) s ≡ (has ns s || within u w s)
unfolding along within
has_along ns u [] s = sym (or-false (has ns s))
has_along ns u (c ∷ w) s = rw (has_along (made ns (snoc u c)) (snoc u c) w s, has_made ns (snoc u c) s, or_assoc)

within_prefix : (u w s : List ℕ) → within u w s ≡ true → prefix s (u ++ w) ≡ true
unfolding within
within_prefix u [] s h = clash refl (sym h)
within_prefix u (c ∷ w) s h =
    rw (← snoc_append u c w)
    (⊎_elim (λ e. rw (same_eq s (snoc u c) e) (prefix_append (snoc u c) w)) (λ k. within_prefix (snoc u c) w s k)
    (or_cases (same s (snoc u c)) (within (snoc u c) w s) h))

prefix_within : (u r w : List ℕ) (x : ℕ) → prefix (x ∷ r) w ≡ true → within u w (u ++ x ∷ r) ≡ true
unfolding within prefix
prefix_within u r [] x h = clash refl (sym h)
prefix_within u [] (c ∷ w) x h =
    let e : x ≡ c = eqb-true x c (and_parts (eqb x c) true h).0 in
    rw (← snoc_append u x [], append-nil, e) (or_left (same (snoc u c) (snoc u c)) (within (snoc u c) w (snoc u c)) (same_refl (snoc u c)))
prefix_within u (y ∷ r) (c ∷ w) x h =
    let e : x ≡ c = eqb-true x c (and_parts (eqb x c) (prefix (y ∷ r) w) h).0 in
    let k : prefix (y ∷ r) w ≡ true = (and_parts (eqb x c) (prefix (y ∷ r) w) h).1 in
    rw (← snoc_append u x (y ∷ r), e)
    (or_right (same (snoc u c ++ y ∷ r) (snoc u c)) (within (snoc u c) w (snoc u c ++ y ∷ r)) (prefix_within (snoc u c) r w y k))

within_is : (p s : List ℕ) (x : ℕ) → within [] p (x ∷ s) ≡ prefix (x ∷ s) p
within_is p s x = true_both (within [] p (x ∷ s)) (prefix (x ∷ s) p) (within_prefix [] p (x ∷ s)) (prefix_within [] s p x)

root_kept : (ns : List (List ℕ)) (p : List ℕ) → has ns [] ≡ true → has (along ns [] p) [] ≡ true
root_kept ns p h = rw (has_along ns [] p [], h)

-- the names made from a list that has root: its own, and the states
pub has_from : (es : List Entry) (ns : List (List ℕ)) (s : List ℕ) → has ns [] ≡ true → has (names_from ns es) s ≡ (has ns s || is_state es s)
unfolding names_from is_state prefix
has_from [] ns [] h = rw h
has_from [] ns (x ∷ s) h = sym (or-false (has ns (x ∷ s)))
has_from (p ∷ es) ns [] h = rw (has_from es (along ns [] p.word) [] (root_kept ns p.word h), root_kept ns p.word h, h)
has_from (p ∷ es) ns (x ∷ s) h =
    rw (has_from es (along ns [] p.word) (x ∷ s) (root_kept ns p.word h), has_along ns [] p.word (x ∷ s), within_is p.word s x, or_assoc)

pub root_has : (a : ℕ) → has (root_and_dead a) [] ≡ true
unfolding root_and_dead has same
root_has a = refl

-- a string that is not dead's name is a name exactly if it is a state
pub has_names : (a : ℕ) (es : List Entry) (s : List ℕ) → same s (a ∷ []) ≡ false → has (names a es) s ≡ is_state es s
unfolding names root_and_dead has same
has_names a es [] h = has_from es (root_and_dead a) [] refl ∙ sym (state_root es)
has_names a es (x ∷ s) h = has_from es (root_and_dead a) (x ∷ s) refl ∙ rw h

-- ---- one name more

module _ (ns : List (List ℕ)) (w : List ℕ) where
  pub more_length : length (ns ++ (w ∷ [])) ≡ suc (length ns)
  more_length = omega (arith, length-append ns (w ∷ []))

  pub more_old : (k : ℕ) → k < length ns → get_or (ns ++ (w ∷ [])) k [] ≡ get_or ns k []
  more_old k h = get_or-append ns (w ∷ []) [] k h

  pub more_new : get_or (ns ++ (w ∷ [])) (length ns) [] ≡ w
  more_new = get_or-append_seam ns w [] []

  pub more_absent : (s : List ℕ) → has ns s ≡ false → (s ≡ w → ⊥) → has (ns ++ (w ∷ [])) s ≡ false
  more_absent s h n = rw (has_append ns (w ∷ []) s, h, has_one w s) (test (same s w) (λ e. absurd (n (same_eq s w e))) (λ e. e))

  -- a name that stands is not absent
  pub not_absent : (k : ℕ) → k < length ns → get_or ns k [] ≡ w → has ns w ≡ false → ⊥
  not_absent k h e q = clash (subst (λ (x : List ℕ). has ns x ≡ true) e (has_at ns k h)) q

  pub more_distinct : Distinct ns → has ns w ≡ false → Distinct (ns ++ (w ∷ []))
  unfolding Distinct
  more_distinct d q i j a b e =
      elim (dec_lt i (length ns)) [
        | yes p ↦ elim (dec_lt j (length ns)) [
          | yes r ↦ d i j p r (sym (more_old i p) ∙ e ∙ more_old j r)
          | no r ↦ let z : j ≡ length ns = omega (arith, more_length) in
              absurd (not_absent i p (sym (more_old i p) ∙ e ∙ ap (λ (k : ℕ). get_or (ns ++ (w ∷ [])) k []) z ∙ more_new) q)
        ]
        | no p ↦ let y : i ≡ length ns = omega (arith, more_length) in
            elim (dec_lt j (length ns)) [
              | yes r ↦ absurd (not_absent j r (sym (more_old j r) ∙ sym e ∙ ap (λ (k : ℕ). get_or (ns ++ (w ∷ [])) k []) y ∙ more_new) q)
              | no r ↦ omega (arith, more_length)
            ]
      ]

-- ---- the names grow

pub made_long : (ns : List (List ℕ)) (s : List ℕ) → length ns ≤ length (made ns s)
unfolding made
made_long ns s = test (has ns s) (λ h. rw h (omega arith)) (λ h. rw h (omega (arith, more_length ns s)))

pub along_long : (ns : List (List ℕ)) (u w : List ℕ) → length ns ≤ length (along ns u w)
unfolding along
along_long ns u [] = omega arith
along_long ns u (c ∷ w) = omega (arith, made_long ns (snoc u c), along_long (made ns (snoc u c)) (snoc u c) w)

pub from_long : (ns : List (List ℕ)) (es : List Entry) → length ns ≤ length (names_from ns es)
unfolding names_from
from_long ns [] = omega arith
from_long ns (x ∷ es) = omega (arith, along_long ns [] x.word, from_long (along ns [] x.word) es)

-- along a byte whose state is there, and along one whose state is made
pub along_old : (ns : List (List ℕ)) (u w : List ℕ) (c : ℕ) → has ns (snoc u c) ≡ true → along ns u (c ∷ w) ≡ along ns (snoc u c) w
unfolding along made
along_old ns u w c h = rw h

pub along_new : (ns : List (List ℕ)) (u w : List ℕ) (c : ℕ) → has ns (snoc u c) ≡ false
    → along ns u (c ∷ w) ≡ along (ns ++ (snoc u c ∷ [])) (snoc u c) w
unfolding along made
along_new ns u w c h = rw h

pub along_end : (ns : List (List ℕ)) (u : List ℕ) → along ns u [] ≡ ns
unfolding along
along_end ns u = refl

-- ---- how many there can be

made_few : (ns : List (List ℕ)) (s : List ℕ) → length (made ns s) ≤ suc (length ns)
unfolding made
made_few ns s = test (has ns s) (λ h. rw h (omega arith)) (λ h. rw h (omega (arith, length-append ns (s ∷ []))))

along_few : (ns : List (List ℕ)) (u w : List ℕ) → length (along ns u w) ≤ length ns + length w
unfolding along
along_few ns u [] = omega arith
along_few ns u (c ∷ w) = omega (arith, along_few (made ns (snoc u c)) (snoc u c) w, made_few ns (snoc u c))

from_few : (n : ℕ) (ns : List (List ℕ)) (es : List Entry) → ((x : Entry) → Memᴰ x es → length x.word ≤ n)
    → length (names_from ns es) ≤ length ns + length es * n
unfolding names_from
from_few n ns [] h = omega arith
from_few n ns (x ∷ es) h =
    omega (arith, from_few n (along ns [] x.word) es (λ y m. h y (Memᴰ.tail m)), along_few ns [] x.word, h x (Memᴰ.head refl))

-- a pattern of at most n letters makes at most n states
pub names_few : (a n : ℕ) (es : List Entry) → ((x : Entry) → Memᴰ x es → length x.word ≤ n) → length (names a es) ≤ 2 + length es * n
unfolding names root_and_dead
names_few a n es h = from_few n (root_and_dead a) es h
