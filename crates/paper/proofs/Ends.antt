-- What ends at a place, from both sides: the own outputs of the suffixes of what was read, and the occurrences that end there.
use mathlib.Core.Path.{◌≡◌, refl, sym, ap, ap₂, ◌∙◌, subst}
use mathlib.Core.Bool.{Bool, true, ◌&&◌}
use mathlib.Core.List.{List, [], ◌∷◌, ◌++◌, map, map-append, append_assoc}
use Prim.Native.Nat.{ℕ, zero, suc, ◌+◌, ◌-◌, ◌≤◌}
use native.Mathlib.Omega.{arith}
use native.Mathlib.Numerals.{add-one}
use lib.Dec.{eqb}
use lib.ListN.{length, take, drop, length-take, length-drop, take-append-drop}
use lib.Seq.{take-add, drop_at, length-take-le, take-append_seam, drop-drop}
use Rattle.paper.specs.Lists.{same, prefix, those, each}
use Rattle.paper.specs.Patterns.{Entry, standard}
use Rattle.paper.specs.Matches.{occurs, Occurrence, occurrence_at, between, ending_at}
use Rattle.paper.specs.Automaton.{machine, own_of, end_at}
use Rattle.std.proofs.lemmas.Bool.{and_from, eqb-true, eq-eqb, and_parts}
use Rattle.paper.proofs.Tests.{test, true_both}
use Rattle.paper.proofs.Strings.{same_eq, eq_same, prefix_append, prefix_rest}
use Rattle.paper.proofs.Machines.{never_starts}
use Rattle.paper.proofs.Outputs.{endings}

-- ---- an occurrence that ends at n is a suffix of the first n bytes

drop_take : (a m : ℕ) (t : List ℕ) → a ≤ length t → drop a (take (a + m) t) ≡ take m (drop a t)
drop_take a m t h = rw take-add (drop_at (take a t) (take m (drop a t)) a (length-take-le a t h))

occurs→suffix : (p t : List ℕ) (s n : ℕ) → n ≤ length t → s + length p ≡ n → occurs p t s ≡ true → p ≡ drop s (take n t)
unfolding occurs
occurs→suffix p t s n h z o =
    let r = prefix_rest p (drop s t) o in
    rw (← z, drop_take s (length p) t (omega arith), r.1, take-append_seam)

suffix→occurs : (p t : List ℕ) (s n : ℕ) → n ≤ length t → s ≤ n → p ≡ drop s (take n t) → (occurs p t s ≡ true) × (s + length p ≡ n)
unfolding occurs
suffix→occurs p t s n h k e =
    let z : s + (n - s) ≡ n = omega arith in
    let q : p ≡ take (n - s) (drop s t) = e ∙ ap (λ (m : ℕ). drop s (take m t)) (sym z) ∙ drop_take s (n - s) t (omega arith) in (
      subst (λ (l : List ℕ). prefix p l ≡ true) (take-append-drop (n - s) (drop s t)) (rw (← q) (prefix_append p (drop (n - s) (drop s t)))),
      omega (arith, ap length q, length-take (n - s) (drop s t), length-drop s t),
    )

pub suffix_test : (p t : List ℕ) (s n : ℕ) → n ≤ length t → s ≤ n
    → same p (drop s (take n t)) ≡ (occurs p t s && eqb (s + length p) n)
suffix_test p t s n h k =
    true_both (same p (drop s (take n t))) (occurs p t s && eqb (s + length p) n)
    (λ e. let o = suffix→occurs p t s n h k (same_eq p (drop s (take n t)) e) in
    and_from (occurs p t s) (eqb (s + length p) n) o.0 (eq-eqb (s + length p) n o.1))
    (λ e. eq_same p (drop s (take n t))
    (occurs→suffix p t s n h (eqb-true (s + length p) n (and_parts (occurs p t s) (eqb (s + length p) n) e).1) (and_parts (occurs p t s) (eqb (s + length p) n) e).0))

-- ---- those that pass, mapped

pub map_those : {A B : Type 0} (f g : A → B) (a b : A → Bool) (l : List A) → ((x : A) → a x ≡ b x) → ((x : A) → a x ≡ true → f x ≡ g x)
    → map f (those a l) ≡ map g (those b l)
unfolding those
map_those f g a b [] h k = refl
map_those {A} {B} f g a b (x ∷ xs) h k =
    rw (← h x)
    (test (a x) (λ e. rw e (ap₂ (λ (y : B) (r : List B). y ∷ r) (k x e) (map_those f g a b xs h k))) (λ e. rw e (map_those f g a b xs h k)))

-- the patterns that are the suffix from s are those that occur at s and end at n
pub own_between : (es : List Entry) (t : List ℕ) (s n : ℕ) → n ≤ length t → s ≤ n
    → map (end_at n) (own_of es (drop s (take n t))) ≡ between es t s n
unfolding own_of between
own_between es t s n h k =
    map_those (end_at n) (occurrence_at s) (λ x. same x.word (drop s (take n t))) (λ x. occurs x.word t s && eqb (s + length x.word) n) es
    (λ x. suffix_test x.word t s n h k)
    (λ x e. let z = (suffix→occurs x.word t s n h k (same_eq x.word (drop s (take n t)) e)).1 in
    let begin : n - length x.word ≡ s = omega (arith, z) in
    rw (begin, z))

-- ---- `each` in two parts

pub each_split : {A : Type 0} (i a b : ℕ) (f : ℕ → List A) → each i (a + b) f ≡ each i a f ++ each (i + a) b f
unfolding each
each_split i zero b f = let p : 0 + b ≡ b = omega arith in let q : i + 0 ≡ i = omega arith in rw (p, q)
each_split i (suc a) b f =
    let p : suc a + b ≡ suc (a + b) = omega arith in
    let q : i + suc a ≡ suc i + a = omega arith in
    rw (p, q, each_split (suc i) a b f) (sym (append_assoc (f i) (each (suc i) a f) (each (suc i + a) b f)))

-- ---- Standard: what ends at n, from the suffixes

pub endings_each : (es : List Entry) (t : List ℕ) (n s : ℕ) (v : List ℕ) → n ≤ length t → s + length v ≡ n → v ≡ drop s (take n t)
    → map (end_at n) (endings (machine standard es) v) ≡ each s (length v) (λ i. between es t i n)
unfolding endings each
endings_each es t n s [] h z e = refl
endings_each es t n s (x ∷ xs) h z e =
    let next : xs ≡ drop (suc s) (take n t) = ap (drop 1) e ∙ drop-drop 1 s (take n t) ∙ ap (λ (k : ℕ). drop k (take n t)) (add-one s) in
    let own : map (end_at n) (own_of es (x ∷ xs)) ≡ between es t s n
    = ap (λ (l : List ℕ). map (end_at n) (own_of es l)) e ∙ own_between es t s n h (omega arith) in
    rw (never_starts es (x ∷ xs), map-append)
    (ap₂ (λ (a b : List Occurrence). a ++ b) own (endings_each es t n (suc s) xs h (omega arith) next))

-- (B) at a place: all that ends there
pub endings_here : (es : List Entry) (t : List ℕ) (n : ℕ) → n ≤ length t
    → map (end_at n) (endings (machine standard es) (take n t)) ≡ ending_at es t n
unfolding ending_at
endings_here es t n h =
    let l : length (take n t) ≡ n = length-take-le n t h in
    endings_each es t n 0 (take n t) h (omega (arith, l)) refl ∙ ap (λ (k : ℕ). each 0 k (λ i. between es t i n)) l
