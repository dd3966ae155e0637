-- The order of groups: the list has exactly the groups of the states with children, no state twice, a parent's group before its
-- child's; and what a stack stands for when a state is popped and its children are pushed.
use mathlib.Core.Path.{◌≡◌, refl, sym, ap, ap₂, ◌∙◌, subst}
use mathlib.Core.Bool.{Bool, true}
use mathlib.Core.List.Memᴰ
use mathlib.Core.List.{List, [], ◌∷◌, ◌++◌, reverse, reverse_aux, append_assoc, append-nil, Memᴰ}
use mathlib.Core.Logic.{◌⊎◌, inl, inr, ⊎_elim, ◌↔◌}
use Prim.Native.Nat.{ℕ, zero, suc, ◌+◌, ◌≤◌, ◌<◌}
use native.Mathlib.Omega.{arith}
use lib.ListN.{length, get_or, take}
use Rattle.paper.specs.Lists.{prefix, snoc, Sorted}
use Rattle.paper.proofs.Strings.{length_snoc, snoc_append, prefix_append, prefix_refl, prefix_rest, prefix_length, prefix_trans}
use Rattle.paper.proofs.Strings.{prefix_snoc, prefix_same, prefix_of}
use Rattle.paper.proofs.Order.{sorted_append, sorted_weaken}
use Rattle.paper.proofs.Links.{Ended, none, last, ended}
use Rattle.plan.specs.Breadth.{kid_bytes, kids, Bounded, Apart}
use Rattle.plan.specs.Groups.{Group, bytes_of, group_of, own_group, joined, groups_from, groups, flat, OtherParent, NotBelow, Grouping}
use Rattle.plan.proofs.Breadth.{in_kid_bytes, to_kid_bytes, in_kids, to_kids, kids_once}
use Rattle.plan.proofs.Lists.{get_member, sorted_before}

-- ---- joined lists, and lists turned round

module _ {A B : Type 0} where
  pub joined_append : (f : A → List B) (l m : List A) → joined f (l ++ m) ≡ joined f l ++ joined f m
  unfolding joined
  joined_append f [] m = refl
  joined_append f (x ∷ l) m = rw (joined_append f l m) (sym (append_assoc (f x) (joined f l) (joined f m)))

  pub joined_same : (f g : A → List B) (l : List A) → ((x : A) → Memᴰ x l → f x ≡ g x) → joined f l ≡ joined g l
  unfolding joined
  joined_same f g [] h = refl
  joined_same f g (x ∷ l) h = ap₂ ◌++◌ (h x (Memᴰ.head refl)) (joined_same f g l (λ y m. h y (Memᴰ.tail m)))

  pub in_joined : (f : A → List B) (l : List A) {y : B} → Memᴰ y (joined f l) → (x : A) × Memᴰ x l × Memᴰ y (f x)
  unfolding joined
  in_joined f [] m = absurd (Memᴰ.not-nil m)
  in_joined f (x ∷ l) m =
      ⊎_elim (λ h. (x, Memᴰ.head refl, h)) (λ h. let r = in_joined f l h in (r.0, Memᴰ.tail r.1, r.2))
      (Memᴰ.append_cases (f x) m)

  pub to_joined : (f : A → List B) (l : List A) {x : A} {y : B} → Memᴰ x l → Memᴰ y (f x) → Memᴰ y (joined f l)
  unfolding joined
  to_joined f [] m h = absurd (Memᴰ.not-nil m)
  to_joined f (z ∷ l) m h =
      ⊎_elim (λ e. Memᴰ.append_left (joined f l) (rw e at h)) (λ k. Memᴰ.append_right (f z) (to_joined f l k h)) (Memᴰ.cases_cons m)

  -- sorted where each part is, and across the parts of elements in P
  pub sorted_joined : (R : B → B → Type 0) (P : A → A → Type 0) (f : A → List B) (l : List A) → Sorted P l
      → ((x : A) → Memᴰ x l → Sorted R (f x))
      → ((x y : A) → Memᴰ x l → Memᴰ y l → P x y → (u v : B) → Memᴰ u (f x) → Memᴰ v (f y) → R u v)
      → Sorted R (joined f l)
  unfolding joined
  sorted_joined R P f [] s parts across = tt
  sorted_joined R P f (x ∷ l) s parts across =
      sorted_append R (f x) (joined f l) (parts x (Memᴰ.head refl))
      (sorted_joined R P f l s.1 (λ y m. parts y (Memᴰ.tail m)) (λ y z h k. across y z (Memᴰ.tail h) (Memᴰ.tail k)))
      (λ u v h k. let r = in_joined f l k in
      across x r.0 (Memᴰ.head refl) (Memᴰ.tail r.1) (s.0 r.0 r.1) u v h r.2)

module _ {A : Type 0} where
  in_turned : (l r : List A) {x : A} → Memᴰ x (reverse_aux l r) → Memᴰ x l ⊎ Memᴰ x r
  in_turned [] r m = inr m
  in_turned (y ∷ l) r m =
      ⊎_elim (λ h. inl (Memᴰ.tail h)) (λ h. ⊎_elim (λ e. inl (Memᴰ.head e)) inr (Memᴰ.cases_cons h)) (in_turned l (y ∷ r) m)

  to_turned : (l r : List A) {x : A} → Memᴰ x l ⊎ Memᴰ x r → Memᴰ x (reverse_aux l r)
  to_turned [] r (inl m) = absurd (Memᴰ.not-nil m)
  to_turned [] r (inr m) = m
  to_turned (y ∷ l) r (inl m) =
      ⊎_elim (λ e. to_turned l (y ∷ r) (inr (Memᴰ.head e))) (λ h. to_turned l (y ∷ r) (inl h)) (Memᴰ.cases_cons m)
  to_turned (y ∷ l) r (inr m) = to_turned l (y ∷ r) (inr (Memᴰ.tail m))

  pub in_reverse : (l : List A) {x : A} → Memᴰ x (reverse l) → Memᴰ x l
  in_reverse l m = ⊎_elim (λ h. h) (λ h. absurd (Memᴰ.not-nil h)) (in_turned l [] m)

  pub to_reverse : (l : List A) {x : A} → Memᴰ x l → Memᴰ x (reverse l)
  to_reverse l m = to_turned l [] (inl m)

  sorted_turned : (R : A → A → Type 0) (l r : List A) → Sorted (λ x y. R y x) l → Sorted R r
      → ((x y : A) → Memᴰ x l → Memᴰ y r → R x y) → Sorted R (reverse_aux l r)
  sorted_turned R [] r s t across = t
  sorted_turned R (x ∷ l) r s t across =
      sorted_turned R l (x ∷ r) s.1 (λ y m. across x y (Memᴰ.head refl) m, t)
      (λ y z h k. ⊎_elim (λ e. rw e (s.0 y h)) (λ m. across y z (Memᴰ.tail h) m) (Memᴰ.cases_cons k))

  -- turned round, each element stands in R to every one that stood before it
  pub sorted_reverse : (R : A → A → Type 0) (l : List A) → Sorted (λ x y. R y x) l → Sorted R (reverse l)
  sorted_reverse R l s = sorted_turned R l [] s tt (λ x y h k. absurd (Memᴰ.not-nil k))

-- ---- groups below a state, over any set of strings

in_group_of : (s cs : List ℕ) {g : Group} → Memᴰ g (group_of s cs) → (g.parent ≡ s) × (cs ≡ bytes_of g)
in_group_of s [] m = absurd (Memᴰ.not-nil m)
in_group_of s (c ∷ cs) m = let e = Memᴰ.eq_of_singleton m in (ap (λ (h : Group). h.parent) e, sym (ap bytes_of e))

to_group_of : (g : Group) (cs : List ℕ) → cs ≡ bytes_of g → Memᴰ g (group_of g.parent cs)
to_group_of g cs e = rw e (Memᴰ.head refl)

group_of_once : (R : Group → Group → Type 0) (s cs : List ℕ) → Sorted R (group_of s cs)
group_of_once R s [] = tt
group_of_once R s (c ∷ cs) = (λ y m. absurd (Memᴰ.not-nil m), tt)

module _ (a : ℕ) (S : List ℕ → Bool) where
  -- what is below s: its string begins with s
  below_kid : (s : List ℕ) {t : List ℕ} → Memᴰ t (reverse (kids a S s)) → (c : ℕ) × (t ≡ snoc s c) × (c < a) × (S t ≡ true)
  below_kid s m =
      let k = in_kids a S s (in_reverse (kids a S s) m) in
      (k.letter, k.is ∙ ap (λ (u : List ℕ). snoc u k.letter) (Memᴰ.eq_of_singleton k.listed), k.letters, k.state)

  pub in_groups_from : (d : ℕ) (s : List ℕ) {g : Group} → Memᴰ g (groups_from a S d s)
      → (prefix s g.parent ≡ true) × (kid_bytes a S g.parent ≡ bytes_of g)
  unfolding groups_from
  in_groups_from zero s m = absurd (Memᴰ.not-nil m)
  in_groups_from (suc d) s {g} m =
      ⊎_elim
      (λ h. let r = in_group_of s (kid_bytes a S s) h in (rw r.0 (prefix_refl s), rw r.0 r.1))
      (λ h. let r = in_joined (λ t. groups_from a S d t) (reverse (kids a S s)) h in
      let k = below_kid s r.1 in let ih = in_groups_from d r.0 r.2 in
      (prefix_trans s r.0 g.parent (rw k.1 (prefix_snoc s k.0)) ih.0, ih.1))
      (Memᴰ.append_cases (own_group a S s) m)

  -- two strings of one length that begin the same string are the same
  same_start : (x y w : List ℕ) → prefix x w ≡ true → prefix y w ≡ true → length x ≡ length y → x ≡ y
  same_start x y w h k e = prefix_same x y (prefix_of x y w h k (omega arith)) (omega arith)

  -- a later group's state does not begin an earlier one's
  groups_from_sorted : (d : ℕ) (s : List ℕ) → Sorted (λ g h. prefix h.parent g.parent ≡ true → ⊥) (groups_from a S d s)
  unfolding groups_from
  groups_from_sorted zero s = tt
  groups_from_sorted (suc d) s =
      sorted_append Later (own_group a S s) (joined (λ t. groups_from a S d t) (reverse (kids a S s)))
      (group_of_once Later s (kid_bytes a S s))
      (sorted_joined Later Apart (λ t. groups_from a S d t) (reverse (kids a S s))
      (sorted_reverse Apart (kids a S s)
      (sorted_weaken Apart (λ x y. Apart y x) (kids a S s) (λ x y m k h e. h (sym e)) (kids_once a S s)))
      (λ t m. groups_from_sorted d t)
      across)
      own
    where
      Later : Group → Group → Type 0
      Later g h = prefix h.parent g.parent ≡ true → ⊥

      across : (x y : List ℕ) → Memᴰ x (reverse (kids a S s)) → Memᴰ y (reverse (kids a S s)) → Apart x y
          → (g h : Group) → Memᴰ g (groups_from a S d x) → Memᴰ h (groups_from a S d y) → Later g h
      across x y m k differ g h i j e =
          let p = below_kid s m in
          let q = below_kid s k in
          differ
          (same_start x y g.parent (in_groups_from d x i).0
          (prefix_trans y h.parent g.parent (in_groups_from d y j).0 e)
          (rw (p.1, q.1, length_snoc s p.0, length_snoc s q.0)))

      own : (g h : Group) → Memᴰ g (own_group a S s) → Memᴰ h (joined (λ t. groups_from a S d t) (reverse (kids a S s))) → Later g h
      own g h i j e =
          let r = in_joined (λ t. groups_from a S d t) (reverse (kids a S s)) j in
          let q = below_kid s r.1 in
          omega (
            arith,
            ap length (in_group_of s (kid_bytes a S s) i).0,
            ap length q.1,
            length_snoc s q.0,
            prefix_length r.0 h.parent (in_groups_from d r.0 r.2).0,
            prefix_length h.parent g.parent e,
          )

-- ---- the groups of the states

module _ (a n : ℕ) (S : List ℕ → Bool) (L : Bounded a n S) where
  closed_many : (s w : List ℕ) → S (s ++ w) ≡ true → S s ≡ true
  closed_many s [] h = rw append-nil at h
  closed_many s (c ∷ w) h = L.closed s c (closed_many (snoc s c) w (rw snoc_append h))

  -- a state with a child is shorter than n
  pub parent_short : (s : List ℕ) (c : ℕ) → S (snoc s c) ≡ true → length s < n
  parent_short s c h = omega (arith, L.short (snoc s c) h, length_snoc s c)

  -- a group's state has a child
  pub group_child : (g : Group) → kid_bytes a S g.parent ≡ bytes_of g → S (snoc g.parent g.low) ≡ true
  group_child g e = (in_kid_bytes a S g.parent {c = g.low} (rw e (Memᴰ.head refl))).1

  -- a state with a child has a group
  pub group_at : (s : List ℕ) (c : ℕ) → S (snoc s c) ≡ true → (g : Group) × (kid_bytes a S s ≡ bytes_of g) × (g.parent ≡ s)
  group_at s c h = go (kid_bytes a S s) refl (to_kid_bytes a S s c (L.byte s c h) h)
    where
      go : (cs : List ℕ) → kid_bytes a S s ≡ cs → Memᴰ c cs → (g : Group) × (kid_bytes a S s ≡ bytes_of g) × (g.parent ≡ s)
      go [] e m = absurd (Memᴰ.not-nil m)
      go (b ∷ bs) e m = (record { parent = s; low = b; more = bs }, e, refl)

  pub to_groups_from : (d : ℕ) (s : List ℕ) (g : Group) → prefix s g.parent ≡ true → kid_bytes a S g.parent ≡ bytes_of g
      → n ≤ length s + d → Memᴰ g (groups_from a S d s)
  unfolding groups_from
  to_groups_from zero s g p e l =
      absurd (omega (arith, prefix_length s g.parent p, parent_short g.parent g.low (group_child g e)))
  to_groups_from (suc d) s g p e l = let r = prefix_rest s g.parent p in go (λ t q k. to_groups_from d t g q e k) r.0 r.1
    where
      go : ((t : List ℕ) → prefix t g.parent ≡ true → n ≤ length t + d → Memᴰ g (groups_from a S d t))
          → (w : List ℕ) → g.parent ≡ s ++ w
          → Memᴰ g (own_group a S s ++ joined (λ t. groups_from a S d t) (reverse (kids a S s)))
      go ih [] q =
          let here : g.parent ≡ s = rw append-nil at q in
          Memᴰ.append_left (joined (λ t. groups_from a S d t) (reverse (kids a S s)))
          (subst (λ (t : List ℕ). Memᴰ g (own_group a S t)) here (to_group_of g (kid_bytes a S g.parent) e))
      go ih (x ∷ w) q =
          let under : g.parent ≡ snoc s x ++ w = q ∙ sym (snoc_append s x w) in
          let kid : S (snoc s x) ≡ true = closed_many (snoc s x) w (rw (← under) (L.closed g.parent g.low (group_child g e))) in
          Memᴰ.append_right (own_group a S s)
          (to_joined (λ t. groups_from a S d t) (reverse (kids a S s))
          (to_reverse (kids a S s) (to_kids a S s x (L.byte s x kid) kid))
          (ih (snoc s x) (rw under (prefix_append (snoc s x) w)) (omega (arith, length_snoc s x))))

  -- (g1) the list has exactly the groups: a group's bytes are its state's child bytes
  pub groups_exact : (g : Group) → Memᴰ g (groups a S n) ↔ (kid_bytes a S g.parent ≡ bytes_of g)
  unfolding groups prefix
  groups_exact g = (λ m. (in_groups_from a S (suc n) [] m).1, λ e. to_groups_from (suc n) [] g refl e (omega arith))

  -- (g2) no state has two groups in it
  pub groups_once : Sorted OtherParent (groups a S n)
  unfolding groups
  groups_once =
      sorted_weaken (λ g h. prefix h.parent g.parent ≡ true → ⊥) OtherParent (groups_from a S (suc n) [])
      (λ g h m k later e. later (rw e (prefix_refl h.parent))) (groups_from_sorted a S (suc n) [])

  pub grouping : Grouping a S (groups a S n)
  grouping = record { exact = groups_exact; once = groups_once }

  -- (g3) a later group is not that of an earlier one's parent
  pub groups_order : Sorted NotBelow (groups a S n)
  unfolding groups
  groups_order =
      sorted_weaken (λ g h. prefix h.parent g.parent ≡ true → ⊥) NotBelow (groups_from a S (suc n) [])
      (λ g h m k later c e. later (rw e (prefix_snoc h.parent c))) (groups_from_sorted a S (suc n) [])

  -- so each group but root's comes after its parent's
  pub groups_after : (k : ℕ) (d : Group) (u : List ℕ) (c : ℕ) → k < length (groups a S n) → (get_or (groups a S n) k d).parent ≡ snoc u c
      → (g : Group) × Memᴰ g (take k (groups a S n)) × (g.parent ≡ u)
  groups_after k d u c h e = (up.0, before, up.2)
    where
      G : List Group
      G = groups a S n

      child : S (snoc u c) ≡ true
      child =
          let g = get_or G k d in
          rw (← e) (L.closed g.parent g.low (group_child g ((groups_exact g).0 (get_member G k d h))))

      up : (g : Group) × (kid_bytes a S u ≡ bytes_of g) × (g.parent ≡ u)
      up = group_at u c child

      before : Memᴰ up.0 (take k G)
      before =
          sorted_before NotBelow G groups_order k d up.0 h ((groups_exact up.0).1 (rw up.2 up.1))
          (λ q. omega (arith, ap length (sym up.2 ∙ sym (ap (λ (g : Group). g.parent) q) ∙ e), length_snoc u c))
          (λ r. r c (e ∙ ap (λ (t : List ℕ). snoc t c) (sym up.2)))

  -- and the first is root's
  pub groups_first : (d : Group) → 0 < length (groups a S n) → (get_or (groups a S n) 0 d).parent ≡ []
  groups_first d h = go (ended (get_or (groups a S n) 0 d).parent) refl
    where
      go : {s : List ℕ} → Ended s → (get_or (groups a S n) 0 d).parent ≡ s → (get_or (groups a S n) 0 d).parent ≡ []
      go none e = e
      go (last u c) e = absurd (Memᴰ.not-nil (groups_after 0 d u c h e).1)

  -- ---- enough depth, and the stack

  no_kids : (s : List ℕ) → n ≤ length s → kid_bytes a S s ≡ []
  no_kids s l = empty (kid_bytes a S s) (λ c m. omega (arith, parent_short s c (in_kid_bytes a S s m).1))
    where
      empty : (cs : List ℕ) → ((c : ℕ) → Memᴰ c cs → ⊥) → cs ≡ []
      empty [] h = refl
      empty (c ∷ cs) h = absurd (h c (Memᴰ.head refl))

  deepest : (d : ℕ) (s : List ℕ) → n ≤ length s → groups_from a S d s ≡ []
  unfolding groups_from kids joined
  deepest zero s l = refl
  deepest (suc d) s l = rw (no_kids s l)

  -- depth beyond the longest state adds nothing
  pub groups_enough : (d e : ℕ) (s : List ℕ) → n ≤ length s + d → n ≤ length s + e → groups_from a S d s ≡ groups_from a S e s
  unfolding groups_from
  groups_enough zero e s h k = sym (deepest e s (omega arith))
  groups_enough (suc d) zero s h k = deepest (suc d) s (omega arith)
  groups_enough (suc d) (suc e) s h k =
      ap (λ (l : List Group). own_group a S s ++ l)
      (joined_same (λ t. groups_from a S d t) (λ t. groups_from a S e t) (reverse (kids a S s))
      (λ t m. let q = below_kid a S s m in
      let longer : length t ≡ suc (length s) = ap length q.1 ∙ length_snoc s q.0 in
      groups_enough d e t (omega arith) (omega arith)))

  pub flat_nil : flat a S n [] ≡ []
  unfolding flat joined
  flat_nil = refl

  -- (g4) a stack with root alone stands for all groups
  pub flat_root : flat a S n ([] ∷ []) ≡ groups a S n
  unfolding flat groups joined
  flat_root = append-nil (groups_from a S (suc n) [])

  -- (g5) a state popped gives its group, and its children are pushed, the highest byte's on top
  pub flat_pop : (s : List ℕ) (stack : List (List ℕ))
      → flat a S n (s ∷ stack) ≡ own_group a S s ++ flat a S n (reverse (kids a S s) ++ stack)
  unfolding flat joined groups_from
  flat_pop s stack =
      append_assoc (own_group a S s) (joined (λ t. groups_from a S n t) (reverse (kids a S s))) (joined (groups_from a S (suc n)) stack)
      ∙ ap (λ (l : List Group). own_group a S s ++ l)
      (ap (λ (l : List Group). l ++ joined (groups_from a S (suc n)) stack)
      (joined_same (λ t. groups_from a S n t) (groups_from a S (suc n)) (reverse (kids a S s))
      (λ t m. groups_enough n (suc n) t (omega arith) (omega arith)))
      ∙ sym (joined_append (groups_from a S (suc n)) (reverse (kids a S s)) stack))
