-- Who sits where in a full layout: each state has one cell, and no cell has two states.
use mathlib.Core.Path.{◌≡◌, refl, sym, ap, ap₂, ◌∙◌, subst}
use mathlib.Core.Bool.{Bool, true, false}
use mathlib.Core.List.Memᴰ
use mathlib.Core.List.{List, [], ◌∷◌, ◌++◌, map, append-nil, nil≢cons, Memᴰ}
use mathlib.Core.Logic.{◌≢◌, ◌⊎◌, inl, inr, ⊎_elim, ◌↔◌}
use mathlib.Core.Option.{Option, none, some, some-injective, none-ne-some}
use Prim.Native.Nat.{ℕ, ◌*◌, ◌≤◌, ◌<◌}
use native.Mathlib.Nat.{mul-le-mul_right, one-mul}
use native.Mathlib.Omega.{arith}
use lib.Bits.{bit_xor}
use lib.Dec.{eqb}
use Rattle.paper.specs.Lists.{pick, same, snoc, Sorted}
use Rattle.std.proofs.lemmas.Bool.{eqb-true, ne_eqb, eqb-false}
use Rattle.paper.proofs.Tests.{test, clash}
use Rattle.paper.proofs.Strings.{same_eq, eq_same, snoc_append}
use Rattle.paper.proofs.Order.{not_head, sorted_cases}
use Rattle.paper.proofs.Links.{Ended, none as nothing, last, ended}
use Rattle.plan.specs.Breadth.{kid_bytes, Bounded}
use Rattle.plan.specs.Groups.{Group, bytes_of, groups, OtherParent, Grouping}
use Rattle.plan.specs.Placement.{Placed, Layout, one_block, taken_cell, vacant, Task, place_tasks, tasks, place_all, base_in, base_of}
use Rattle.plan.specs.Placement.{cell_from, cell_of, child_at, or_else, owner_in, owner_of, Alphabet, Reaches, Fair}
use Rattle.plan.specs.Cells.{Full}
use Rattle.plan.proofs.Breadth.{in_kid_bytes, to_kid_bytes}
use Rattle.plan.proofs.Groups.{group_at, grouping}
use Rattle.plan.proofs.Xor.{xor_below}
use Rattle.plan.proofs.Layouts.{Sitting, taken_cases, vacant_off, vacant_free, begun_good, base_alone, cell_alone}
use Rattle.plan.proofs.Placement.{tasks_good, tasks_groups, tasks_are}

-- ---- the base of a state

-- a state's base is its group's; or it has no group, and the base is 0
abbrev pub Based : List Placed → List ℕ → Type 0
Based ps s =
    ((p : Placed) × Memᴰ p ps × (p.group.parent ≡ s) × (base_in ps s ≡ p.base))
    ⊎ ((base_in ps s ≡ 0) × ((p : Placed) → Memᴰ p ps → p.group.parent ≡ s → ⊥))

pub base_cases : (ps : List Placed) (s : List ℕ) → Based ps s
unfolding base_in
base_cases [] s = inr (refl, λ p m. absurd (Memᴰ.not-nil m))
base_cases (p ∷ ps) s =
    test (same p.group.parent s) (λ e. inl (p, Memᴰ.head refl, same_eq p.group.parent s e, rw e))
    (λ e. later e (base_cases ps s))
  where
    other : same p.group.parent s ≡ false → (q : Placed) → Memᴰ q (p ∷ ps) → q.group.parent ≡ s → Memᴰ q ps
    other e q m h = not_head (λ k. clash (eq_same p.group.parent s (sym (ap (λ (o : Placed). o.group.parent) k) ∙ h)) e) m

    later : same p.group.parent s ≡ false → Based ps s → Based (p ∷ ps) s
    later e (inl r) = inl (r.0, Memᴰ.tail r.1, r.2, rw e r.3)
    later e (inr r) = inr (rw e r.0, λ q m h. r.1 q (other e q m h) h)

-- ---- the cell of a state

module _ (l : Layout) where
  cell_from_snoc : (i : ℕ) (u w : List ℕ) (c : ℕ) → cell_from l i u (snoc w c) ≡ bit_xor (base_of l (u ++ w)) c
  unfolding cell_from
  cell_from_snoc i u [] c = rw append-nil
  cell_from_snoc i u (d ∷ w) c = rw (← snoc_append u d w) (cell_from_snoc (bit_xor (base_of l u) d) (snoc u d) w c)

  pub cell_root : cell_of l [] ≡ 0
  unfolding cell_from
  cell_root = refl

  -- (q6) a child's cell is its parent's base xor its byte
  pub cell_child : (s : List ℕ) (c : ℕ) → cell_of l (snoc s c) ≡ bit_xor (base_of l s) c
  cell_child s c = cell_from_snoc 0 [] s c

-- ---- who sits at a cell

child_some : (s : List ℕ) (b : ℕ) (cs : List ℕ) (j : ℕ) (t : List ℕ) → child_at s b cs j ≡ some t
    → (c : ℕ) × Memᴰ c cs × (t ≡ snoc s c) × (bit_xor b c ≡ j)
unfolding child_at
child_some s b [] j t e = absurd (none-ne-some t e)
child_some s b (c ∷ cs) j t e =
    test (eqb (bit_xor b c) j)
    (λ h. (c, Memᴰ.head refl, sym (some-injective (snoc s c) t (rw h at e)), eqb-true (bit_xor b c) j h))
    (λ h. let r = child_some s b cs j t (rw h at e) in (r.0, Memᴰ.tail r.1, r.2, r.3))

child_none : (s : List ℕ) (b : ℕ) (cs : List ℕ) (j : ℕ) → child_at s b cs j ≡ none → (c : ℕ) → Memᴰ c cs → bit_xor b c ≢ j
unfolding child_at
child_none s b [] j e c m = absurd (Memᴰ.not-nil m)
child_none s b (d ∷ cs) j e c m =
    test (eqb (bit_xor b d) j) (λ h. absurd (none-ne-some (snoc s d) (sym (rw h at e))))
    (λ h. ⊎_elim (λ q. rw q (eqb-false (bit_xor b d) j h)) (λ k. child_none s b cs j (rw h at e) c k) (Memᴰ.cases_cons m))

owner_in_some : (ps : List Placed) (j : ℕ) (t : List ℕ) → owner_in ps j ≡ some t
    → (C : Sitting ps j) × (t ≡ snoc C.one.group.parent C.byte)
unfolding owner_in
owner_in_some [] j t e = absurd (none-ne-some t e)
owner_in_some (p ∷ ps) j t e =
    go (λ h. owner_in_some ps j t h) (child_at p.group.parent p.base (bytes_of p.group) j) refl e
  where
    go : (owner_in ps j ≡ some t → (C : Sitting ps j) × (t ≡ snoc C.one.group.parent C.byte))
        → (o : Option (List ℕ)) → child_at p.group.parent p.base (bytes_of p.group) j ≡ o → or_else o (owner_in ps j) ≡ some t
        → (C : Sitting (p ∷ ps) j) × (t ≡ snoc C.one.group.parent C.byte)
    go ih none h k =
        let r = ih k in
        (record { one = r.0.one; listed = Memᴰ.tail r.0.listed; byte = r.0.byte; has = r.0.has; is = r.0.is }, r.1)
    go ih (some u) h k =
        let r = child_some p.group.parent p.base (bytes_of p.group) j t (h ∙ k) in
        (record { one = p; listed = Memᴰ.head refl; byte = r.0; has = r.1; is = r.3 }, r.2)

owner_in_none : (ps : List Placed) (j : ℕ) → owner_in ps j ≡ none → Sitting ps j → ⊥
unfolding owner_in
owner_in_none [] j e C = absurd (Memᴰ.not-nil C.listed)
owner_in_none (p ∷ ps) j e C =
    go (λ h. owner_in_none ps j h) (child_at p.group.parent p.base (bytes_of p.group) j) refl e
  where
    go : (owner_in ps j ≡ none → Sitting ps j → ⊥) → (o : Option (List ℕ))
        → child_at p.group.parent p.base (bytes_of p.group) j ≡ o → or_else o (owner_in ps j) ≡ none → ⊥
    go ih none h k =
        ⊎_elim
        (λ q. child_none p.group.parent p.base (bytes_of p.group) j h C.byte
        (subst (λ (r : Placed). Memᴰ C.byte (bytes_of r.group)) q C.has)
        (subst (λ (r : Placed). bit_xor r.base C.byte ≡ j) q C.is))
        (λ m. ih k (record { one = C.one; listed = m; byte = C.byte; has = C.has; is = C.is }))
        (Memᴰ.cases_cons C.listed)
    go ih (some u) h k = absurd (none-ne-some u (sym k))

-- ---- a full layout

-- placing all groups, in any order and each with a range of its own, gives one
pub tasks_full : (a : ℕ) (A : Alphabet a) (S : List ℕ → Bool) (ts : List Task) → ((t : Task) → Memᴰ t ts → Reaches t.start)
    → Grouping a S (map (λ t. t.group) ts) → Full a S (place_tasks a one_block ts)
tasks_full a A S ts R T =
    record {
      good = tasks_good a A one_block ts (begun_good a) fair;
      grouping = rw (tasks_groups a A one_block ts (begun_good a) fair) T;
    }
  where
    fair : (t : Task) → Memᴰ t ts → Fair a t
    fair t m =
        let e = (T.exact t.group).0 (Memᴰ.map (λ u. u.group) m) in
        record { reaches = R t m; lettered = λ c k. (in_kid_bytes a S t.group.parent (subst (Memᴰ c) (sym e) k)).0 }

-- and with one range for all
pub placed_full : (a : ℕ) (A : Alphabet a) (start : ℕ → ℕ) → Reaches start → (S : List ℕ → Bool) (gs : List Group) → Grouping a S gs
    → Full a S (place_all a start one_block gs)
placed_full a A start R S gs T =
    tasks_full a A S (tasks start gs)
    (λ t m. subst (λ (u : Task). Reaches u.start) (Memᴰ.of_map (λ g. record { start = start; group = g }) gs m).2 R)
    (rw (tasks_are start gs) T)

-- in particular the groups in the order of document 01
pub groups_full : (a n : ℕ) (A : Alphabet a) (start : ℕ → ℕ) → Reaches start → (S : List ℕ → Bool) → Bounded a n S
    → Full a S (place_all a start one_block (groups a S n))
groups_full a n A start R S L = placed_full a A start R S (groups a S n) (grouping a n S L)

sorted_of_map : {X Y : Type 0} (R : Y → Y → Type 0) (f : X → Y) (l : List X) → Sorted R (map f l) → Sorted (λ x y. R (f x) (f y)) l
sorted_of_map R f [] s = tt
sorted_of_map R f (x ∷ l) s = (λ y m. s.0 (f y) (Memᴰ.map f m), sorted_of_map R f l s.1)

module _ (a n : ℕ) (A : Alphabet a) (S : List ℕ → Bool) (L : Bounded a n S) (l : Layout) (F : Full a S l) where
  -- the place of a state with children
  pub record Home (s : List ℕ) : Type 0 where
    pub one : Placed
    pub listed : Memᴰ one l.placed
    pub mine : one.group.parent ≡ s
    pub based : base_of l s ≡ one.base
    pub bytes : kid_bytes a S s ≡ bytes_of one.group

  bytes_of_lem : (p : Placed) → Memᴰ p l.placed → kid_bytes a S p.group.parent ≡ bytes_of p.group
  bytes_of_lem p m = (F.grouping.exact p.group).0 (Memᴰ.map (λ q. q.group) m)

  placed_once : (p q : Placed) → Memᴰ p l.placed → Memᴰ q l.placed → p.group.parent ≡ q.group.parent → p ≡ q
  placed_once p q m k e =
      ⊎_elim (λ h. h) (⊎_elim (λ h. absurd (h e)) (λ h. absurd (h (sym e))))
      (sorted_cases (λ x y. OtherParent x.group y.group) l.placed
      (sorted_of_map OtherParent (λ x. x.group) l.placed F.grouping.once) p q m k)

  pub placed_base : (p : Placed) → Memᴰ p l.placed → base_of l p.group.parent ≡ p.base
  placed_base p m = go (base_cases l.placed p.group.parent)
    where
      go : Based l.placed p.group.parent → base_of l p.group.parent ≡ p.base
      go (inl r) = r.3 ∙ ap (λ (q : Placed). q.base) (placed_once r.0 p r.1 m r.2)
      go (inr r) = absurd (r.1 p m refl)

  -- each byte of a group placed is a child's, and the child sits at the base xor the byte
  pub placed_child : (p : Placed) (c : ℕ) → Memᴰ p l.placed → Memᴰ c (bytes_of p.group)
      → S (snoc p.group.parent c) ≡ true
  placed_child p c m k = (in_kid_bytes a S p.group.parent (subst (Memᴰ c) (sym (bytes_of_lem p m)) k)).1

  pub placed_cell : (p : Placed) (c : ℕ) → Memᴰ p l.placed → cell_of l (snoc p.group.parent c) ≡ bit_xor p.base c
  placed_cell p c m = cell_child l p.group.parent c ∙ ap (λ (b : ℕ). bit_xor b c) (placed_base p m)

  placed_home : (p : Placed) → Memᴰ p l.placed → Home p.group.parent
  placed_home p m = record { one = p; listed = m; mine = refl; based = placed_base p m; bytes = bytes_of_lem p m }

  -- a state with a base has one
  pub based_home : (s : List ℕ) → base_of l s ≢ 0 → Home s
  based_home s h = ⊎_elim (λ r. subst Home r.2 (placed_home r.0 r.1)) (λ r. absurd (h r.0)) (base_cases l.placed s)

  -- and so has a state with a child
  pub child_home : (s : List ℕ) (c : ℕ) → S (snoc s c) ≡ true → Home s
  child_home s c h = subst Home (ap (λ (g : Group). g.parent) q.2 ∙ w.2) (placed_home q.0 q.1)
    where
      w : (g : Group) × (kid_bytes a S s ≡ bytes_of g) × (g.parent ≡ s)
      w = group_at a n S L s c h

      q : (p : Placed) × Memᴰ p l.placed × (p.group ≡ w.0)
      q = Memᴰ.of_map (λ p. p.group) l.placed ((F.grouping.exact w.0).1 (rw w.2 w.1))

  pub home_based : (s : List ℕ) → Home s → base_of l s ≢ 0
  home_based s H = rw H.based (F.good.nonzero H.one H.listed)

  home_has : (s : List ℕ) (H : Home s) (c : ℕ) → S (snoc s c) ≡ true → Memᴰ c (bytes_of H.one.group)
  home_has s H c h = subst (Memᴰ c) H.bytes (to_kid_bytes a S s c (L.byte s c h) h)

  -- (q6) base 0 exactly for childless states
  pub base_zero : (s : List ℕ) → (base_of l s ≡ 0) ↔ (kid_bytes a S s ≡ [])
  base_zero s = (childless (kid_bytes a S s) refl, λ e. go e (base_cases l.placed s))
    where
      childless : (cs : List ℕ) → kid_bytes a S s ≡ cs → base_of l s ≡ 0 → kid_bytes a S s ≡ []
      childless [] e z = e
      childless (c ∷ cs) e z =
          absurd (home_based s (child_home s c (in_kid_bytes a S s {c = c} (rw e (Memᴰ.head refl))).1) z)

      go : kid_bytes a S s ≡ [] → Based l.placed s → base_of l s ≡ 0
      go e (inl r) = absurd (nil≢cons (sym e ∙ ap (kid_bytes a S) (sym r.2) ∙ bytes_of_lem r.0 r.1))
      go e (inr r) = r.0

  -- no two states have one base
  pub base_once : (s t : List ℕ) → base_of l s ≢ 0 → base_of l s ≡ base_of l t → s ≡ t
  base_once s t h e =
      let H = based_home s h in
      let K = based_home t (rw (← e) h) in
      sym H.mine
      ∙ ap (λ (p : Placed). p.group.parent)
      (base_alone a l F.good H.one K.one H.listed K.listed (sym H.based ∙ e ∙ K.based))
      ∙ K.mine

  -- (q6) a child's place is within the blocks, for any byte
  pub probe_within : (s : List ℕ) (c : ℕ) → base_of l s ≢ 0 → c < a → bit_xor (base_of l s) c < l.blocks * a
  probe_within s c h b =
      let H = based_home s h in
      rw H.based (xor_below a A H.one.base c l.blocks b (F.good.within H.one H.listed))

  -- ---- cells and states

  -- a child is past root and dead
  child_off : (s : List ℕ) (c : ℕ) → S (snoc s c) ≡ true → 1 < cell_of l (snoc s c)
  child_off s c h =
      let H = child_home s c h in
      rw (cell_child l s c, H.based) (F.good.off H.one H.listed c (home_has s H c h))

  -- a cell's owner is a state, and this is its cell
  pub owner_state : (j : ℕ) (s : List ℕ) → owner_of l j ≡ some s → (S s ≡ true) × (cell_of l s ≡ j)
  unfolding owner_of
  owner_state j s e =
      test (eqb j 0)
      (λ h. let r : [] ≡ s = some-injective [] s (rw h at e) in
      rw (← r) (L.root, cell_root l ∙ sym (eqb-true j 0 h)))
      (λ h. by_child (owner_in_some l.placed j s (rw h at e)))
    where
      by_child : (C : Sitting l.placed j) × (s ≡ snoc C.one.group.parent C.byte) → (S s ≡ true) × (cell_of l s ≡ j)
      by_child r =
          let C = r.0 in
          rw r.1 (placed_child C.one C.byte C.listed C.has, placed_cell C.one C.byte C.listed ∙ C.is)

  home_at : (s : List ℕ) (H : Home s) (c : ℕ) → cell_of l (snoc s c) ≡ bit_xor H.one.base c
  home_at s H c = cell_child l s c ∙ ap (λ (b : ℕ). bit_xor b c) H.based

  child_sits : (s : List ℕ) (c : ℕ) → S (snoc s c) ≡ true → Sitting l.placed (cell_of l (snoc s c))
  child_sits s c h =
      let H = child_home s c h in
      record { one = H.one; listed = H.listed; byte = c; has = home_has s H c h; is = sym (home_at s H c) }

  child_owner : (s : List ℕ) (c : ℕ) → S (snoc s c) ≡ true → owner_in l.placed (cell_of l (snoc s c)) ≡ some (snoc s c)
  child_owner s c h = go (owner_in l.placed (cell_of l (snoc s c))) refl
    where
      H : Home s
      H = child_home s c h

      -- who sits there is the child
      same : (C : Sitting l.placed (cell_of l (snoc s c))) → snoc C.one.group.parent C.byte ≡ snoc s c
      same C =
          let r = cell_alone a l F.good C.one H.one C.byte c C.listed H.listed C.has (home_has s H c h)
          (C.is ∙ home_at s H c) in
          ap₂ snoc (ap (λ (p : Placed). p.group.parent) r.0 ∙ H.mine) r.1

      go : (o : Option (List ℕ)) → owner_in l.placed (cell_of l (snoc s c)) ≡ o
          → owner_in l.placed (cell_of l (snoc s c)) ≡ some (snoc s c)
      go none e = absurd (owner_in_none l.placed (cell_of l (snoc s c)) e (child_sits s c h))
      go (some t) e = let r = owner_in_some l.placed (cell_of l (snoc s c)) t e in e ∙ ap some (r.1 ∙ same r.0)

  -- and a state owns its cell
  pub state_owner : (s : List ℕ) → S s ≡ true → owner_of l (cell_of l s) ≡ some s
  unfolding owner_of
  state_owner s h = go (ended s) h
    where
      go : {w : List ℕ} → Ended w → S w ≡ true → pick (eqb (cell_of l w) 0) (some []) (owner_in l.placed (cell_of l w)) ≡ some w
      go nothing k = rw (cell_root l)
      go (last u c) k =
          let off : cell_of l (snoc u c) ≢ 0 = λ e. omega (arith, child_off u c k) in
          rw (ne_eqb (cell_of l (snoc u c)) 0 off) (child_owner u c k)

  -- (q6) different states have different cells
  pub cell_once : (s t : List ℕ) → S s ≡ true → S t ≡ true → cell_of l s ≡ cell_of l t → s ≡ t
  cell_once s t h k e = some-injective s t (sym (state_owner s h) ∙ ap (owner_of l) e ∙ state_owner t k)

  -- (q6) only root is at 0
  pub zero_root : (s : List ℕ) → S s ≡ true → cell_of l s ≡ 0 → s ≡ []
  zero_root s h e = cell_once s [] h L.root (e ∙ sym (cell_root l))

  -- (q6) no state is at dead's cell
  pub dead_free : (s : List ℕ) → S s ≡ true → cell_of l s ≢ 1
  dead_free s h = go (ended s) h
    where
      go : {w : List ℕ} → Ended w → S w ≡ true → cell_of l w ≢ 1
      go nothing k e = omega (arith, cell_root l)
      go (last u c) k e = omega (arith, child_off u c k)

  -- (q6) a state's cell is within the blocks
  pub cell_within : (s : List ℕ) → S s ≡ true → cell_of l s < l.blocks * a
  cell_within s h = go (ended s) h
    where
      go : {w : List ℕ} → Ended w → S w ≡ true → cell_of l w < l.blocks * a
      go nothing k = omega (arith, cell_root l, A.two, mul-le-mul_right a F.good.some_block, one-mul a)
      go (last u c) k = rw (cell_child l u c) (probe_within u c (home_based u (child_home u c k)) (L.byte u c k))

  -- nobody owns a vacant cell, nor dead's
  pub no_owner : (j : ℕ) → ((s : List ℕ) → S s ≡ true → cell_of l s ≢ j) → owner_of l j ≡ none
  no_owner j h = go (owner_of l j) refl
    where
      go : (o : Option (List ℕ)) → owner_of l j ≡ o → owner_of l j ≡ none
      go none e = e
      go (some s) e = let r = owner_state j s e in absurd (h s r.0 r.1)

  pub dead_owner : owner_of l 1 ≡ none
  dead_owner = no_owner 1 dead_free

  pub vacant_owner : (j : ℕ) → vacant l j ≡ true → owner_of l j ≡ none
  vacant_owner j v = no_owner j (λ s h e. taken (ended s) h e)
    where
      taken : {w : List ℕ} → Ended w → S w ≡ true → cell_of l w ≡ j → ⊥
      taken nothing k e = omega (arith, vacant_off l j v, cell_root l)
      taken (last u c) k e = vacant_free l j v (subst (Sitting l.placed) e (child_sits u c k))

  -- a taken cell but dead's has an owner
  pub taken_owner : (j : ℕ) → taken_cell l j ≡ true → j ≢ 1 → (s : List ℕ) × (owner_of l j ≡ some s)
  taken_owner j t h = ⊎_elim low child (taken_cases l j t)
    where
      low : j ≤ 1 → (s : List ℕ) × (owner_of l j ≡ some s)
      low k = let z : j ≡ cell_of l [] = omega (arith, cell_root l) in ([], rw z (state_owner [] L.root))

      child : Sitting l.placed j → (s : List ℕ) × (owner_of l j ≡ some s)
      child C =
          let s = snoc C.one.group.parent C.byte in
          let e : cell_of l s ≡ j = placed_cell C.one C.byte C.listed ∙ C.is in
          (s, rw (← e) (state_owner s (placed_child C.one C.byte C.listed C.has)))
