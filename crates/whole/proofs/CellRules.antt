-- The rules of document 01 hold of the layout and the cells of a build: what is proved of any alphabet and any range, at 256 letters and the last 16 blocks.
use mathlib.Core.Path.{◌≡◌, refl, sym, ap, ◌∙◌, subst}
use mathlib.Core.Bool.{Bool, true, false, not}
use mathlib.Core.List.Memᴰ
use mathlib.Core.List.{List, [], ◌∷◌, Memᴰ}
use mathlib.Core.Logic.{◌≢◌, ◌↔◌}
use mathlib.Core.Option.{Option, none, some, none-ne-some}
use Prim.Native.Nat.{ℕ, suc, ◌*◌, ◌/◌, ◌≤◌, ◌<◌}
use native.Mathlib.Omega.{arith}
use native.Mathlib.Decide.{dec_lt}
use lib.Bits.{bit_xor, xor_zero_l}
use lib.ListN.{length, get_or, take, drop, take-append-drop}
use lib.Seq.{take-suc, take-length}
use Rattle.paper.specs.Lists.{snoc}
use Rattle.paper.specs.Patterns.{Entry, Kind, Proper}
use Rattle.paper.specs.Automaton.{Machine, machine, is_state, link}
use Rattle.paper.proofs.Tests.{test, clash}
use Rattle.paper.proofs.Links.{ruled}
use Rattle.paper.proofs.Machines.{lawful}
use Rattle.list.specs.Limits.{alphabet, block, most_bytes}
use Rattle.plan.specs.Breadth.{kid_bytes, Bounded, Within}
use Rattle.plan.specs.Groups.{Group}
use Rattle.plan.specs.Outputs.{Stored}
use Rattle.plan.specs.Placement.{Layout, one_block, taken_cell, vacant, used_base, place, place_tasks, base_of, cell_of, owner_of, Lettered, Good}
use Rattle.plan.specs.Cells.{unused_in, check_of, link_cell, Cell, cell_at, Smallest, Full}
use Rattle.plan.proofs.Breadth.{in_kid_bytes}
use Rattle.plan.proofs.Lists.{get_member}
use Rattle.plan.proofs.Groups.{flat_nil}
use Rattle.plan.proofs.Machines.{machine_bounded}
use Rattle.plan.proofs.Layouts.{begun_good, vacant_off, used_in, to_used, zero_unused}
use Rattle.plan.proofs.Placement.{all_append, all_good}
use Rattle.plan.proofs.Owners.{cell_root, groups_full, child_home, placed_base, placed_child, base_once, owner_state, state_owner, taken_owner, vacant_owner}
use Rattle.plan.proofs.Cells.{cells_length, cells_at}
use Rattle.plan.proofs.PlacementClaims.{placement}
use Rattle.spots.proofs.Charting.{bytes}
use Rattle.groups.specs.Ordered.{groups_of, no_group}
use Rattle.placement.specs.Laid.{first_block, laid_out}
use Rattle.outputs.specs.Placed.{all_stored}
use Rattle.whole.specs.Whole.{layout_of}
use Rattle.whole.proofs.Agreement.{reaches}
use Rattle.whole.specs.CellRules.{layout_after, PlacesNext, PlacingRules, nowhere, cell_held, check_alone, InBlock, CellRules}

-- a block has one smallest unused base
one_smallest : (l : Layout) (k u v : ℕ) → Smallest block l k u → Smallest block l k v → u ≡ v
one_smallest l k u v M N =
    elim (dec_lt u v) [
      | yes h ↦ clash (N.smallest u M.from h) M.unused
      | no h ↦ elim (dec_lt v u) [
        | yes g ↦ clash (M.smallest v N.from g) N.unused
        | no g ↦ omega arith
      ]
    ]

module _ (kind : Kind) (es : List Entry) (P : Proper es) (W : Within alphabet most_bytes es) where
  abbrev M : Machine
  M = machine kind es

  abbrev S : List ℕ → Bool
  S = is_state es

  abbrev l : Layout
  l = layout_of es

  abbrev gs : List Group
  gs = groups_of es

  abbrev stored : Stored
  stored = all_stored kind es

  L : Bounded alphabet most_bytes S
  L = machine_bounded alphabet most_bytes es W

  F : Full alphabet S l
  F = groups_full alphabet most_bytes bytes first_block reaches S L

  -- ---- placing

  letters : (g : Group) → Memᴰ g gs → Lettered alphabet g
  letters g m c k =
      (in_kid_bytes alphabet S g.parent
      (subst (λ (cs : List ℕ). Memᴰ c cs) (sym (((placement.grouping alphabet most_bytes S L).exact g).0 m)) k)).0

  in_take : (k : ℕ) {g : Group} → Memᴰ g (take k gs) → Memᴰ g gs
  in_take k {g} m = subst (λ (hs : List Group). Memᴰ g hs) (take-append-drop k gs) (Memᴰ.append_left (drop k gs) m)

  good_after : (k : ℕ) → Good alphabet (layout_after es k)
  good_after k = all_good alphabet bytes first_block reaches one_block (take k gs) (begun_good alphabet) (λ g m. letters g (in_take k m))

  next : (k : ℕ) → k < length gs → layout_after es (suc k) ≡ place block first_block (layout_after es k) (get_or gs k no_group)
  unfolding place_tasks
  next k h = ap laid_out (take-suc gs k no_group h) ∙ all_append block first_block one_block (take k gs) (get_or gs k no_group ∷ [])

  first_fit_lem : (k : ℕ) → k < length gs → PlacesNext (layout_after es k) (get_or gs k no_group) (layout_after es (suc k))
  first_fit_lem k h =
      subst (λ (r : Layout). PlacesNext (layout_after es k) (get_or gs k no_group) r) (sym (next k h))
      (placement.chosen alphabet bytes first_block reaches (layout_after es k) (get_or gs k no_group) (good_after k) (letters (get_or gs k no_group) (get_member gs k no_group h)))

  one_block_lem : layout_after es 0 ≡ one_block
  unfolding place_tasks
  one_block_lem = refl

  placing : PlacingRules es
  placing =
      record {
        groups = placement.grouping alphabet most_bytes S L;
        stack_begun = placement.stacked alphabet most_bytes S L;
        stack_popped = placement.popped alphabet most_bytes S L;
        stack_empty = flat_nil alphabet most_bytes S L;
        one_block_lem = one_block_lem;
        first_fit_lem = first_fit_lem;
        all_placed = ap laid_out (take-length gs);
      }

  -- ---- what stands in a cell

  held : (j : ℕ) → j < l.blocks * block → cell_held kind es j ≡ cell_at block l (link M) stored.place j
  held j h = cells_at block l (link M) stored.place j nowhere h

  inside : (s : List ℕ) → S s ≡ true → cell_of l s < l.blocks * block
  inside = placement.within alphabet most_bytes bytes S L l F

  check_held : (j : ℕ) → j < l.blocks * block → (cell_held kind es j).check ≡ check_of block l j
  check_held j h = ap (λ (x : Cell). x.check) (held j h) ∙ placement.cell_check block l (link M) stored.place j

  state_held : (s : List ℕ) → S s ≡ true
      → cell_held kind es (cell_of l s)
      ≡ record {
        base = base_of l s;
        link = link_cell l (link M s);
        output = stored.place s;
        check = check_of block l (cell_of l s);
        depth = length s;
      }
  state_held s h =
      held (cell_of l s) (inside s h)
      ∙ placement.state_cell_lem alphabet most_bytes bytes S L l F (link M) stored.place (ruled M (lawful kind es P)).root s h

  two : 2 ≤ l.blocks * block
  two = omega (arith, F.good.some_block)

  -- ---- bases and probes

  nonzero : (s : List ℕ) (c : ℕ) → S (snoc s c) ≡ true → base_of l s ≢ 0
  nonzero s c h = ((placement.probe alphabet most_bytes bytes S L l F s c).1 h).0

  childless : (s : List ℕ) → ((c : ℕ) → S (snoc s c) ≡ false) → base_of l s ≡ 0
  childless s none_of = (placement.childless alphabet most_bytes bytes S L l F s).1 (go (kid_bytes alphabet S s) refl)
    where
      go : (cs : List ℕ) → kid_bytes alphabet S s ≡ cs → kid_bytes alphabet S s ≡ []
      go [] e = e
      go (c ∷ cs) e = clash (in_kid_bytes alphabet S s {c = c} (rw e (Memᴰ.head refl))).1 (none_of c)

  probe : (s : List ℕ) (c : ℕ) → S s ≡ true → c < alphabet
      → ((base_of l s ≢ 0) × ((cell_held kind es (bit_xor (base_of l s) c)).check ≡ c)) ↔ (S (snoc s c) ≡ true)
  probe s c h b = (λ r. X.0 (r.0, sym (at r.0) ∙ r.1), λ t. ((X.1 t).0, at (X.1 t).0 ∙ (X.1 t).1))
    where
      X : ((base_of l s ≢ 0) × (check_of block l (bit_xor (base_of l s) c) ≡ c)) ↔ (S (snoc s c) ≡ true)
      X = placement.probe alphabet most_bytes bytes S L l F s c

      at : base_of l s ≢ 0 → (cell_held kind es (bit_xor (base_of l s) c)).check ≡ check_of block l (bit_xor (base_of l s) c)
      at z = check_held (bit_xor (base_of l s) c) (placement.probe_within alphabet most_bytes bytes S L l F s c z b)

  -- ---- used bases and vacant cells

  used : (u : ℕ) → (used_base l u ≡ true) ↔ ((s : List ℕ) × (c : ℕ) × (S (snoc s c) ≡ true) × (base_of l s ≡ u))
  used u = (
    λ h. let r = used_in l u h in (
      r.0.group.parent,
      r.0.group.low,
      placed_child alphabet most_bytes bytes S L l F r.0 r.0.group.low r.1 (Memᴰ.head refl),
      placed_base alphabet most_bytes bytes S L l F r.0 r.1 ∙ r.2,
    ),
    λ r. let H = child_home alphabet most_bytes bytes S L l F r.0 r.1 r.2 in
        subst (λ (b : ℕ). used_base l b ≡ true) (sym H.based ∙ r.3) (to_used l H.one H.listed),
  )

  vacancy : (j : ℕ) → (vacant l j ≡ true) ↔ ((j ≢ 1) × ((s : List ℕ) → S s ≡ true → cell_of l s ≢ j))
  vacancy j = (
    λ v. (
      λ e. omega (arith, vacant_off l j v),
      λ s h e. none-ne-some s
          (sym (vacant_owner alphabet most_bytes bytes S L l F j v) ∙ subst (λ (i : ℕ). owner_of l i ≡ some s) e (state_owner alphabet most_bytes bytes S L l F s h)),
    ),
    λ r. test (taken_cell l j)
        (λ t. let o = taken_owner alphabet most_bytes bytes S L l F j t r.0 in
        let q = owner_state alphabet most_bytes bytes S L l F j o.0 o.1 in
        absurd (r.1 o.0 q.0 q.1))
        (λ t. ap not t),
  )

  -- ---- checks

  vacant_check : (k u : ℕ) → k < l.blocks → Smallest block l k u → (j : ℕ) → InBlock k j → vacant l j ≡ true
      → bit_xor u (cell_held kind es j).check ≡ j
  vacant_check k u b N j B v =
      let at : j / block ≡ k = omega (arith, B.0, B.1) in
      let r = placement.vacant_check alphabet most_bytes bytes S L l F j v in
      rw (check_held j (omega (arith, b, B.1)), one_smallest l k u r.0 N (subst (λ (i : ℕ). Smallest block l i r.0) at r.1)) r.2

  low_check : (u : ℕ) → Smallest block l 0 u → (j : ℕ) → j ≤ 1 → bit_xor u (cell_held kind es j).check ≡ j
  low_check u N j h =
      let z : u ≡ 0 = one_smallest l 0 u 0 N (placement.smallest alphabet l 0 0 (placement.block_zero alphabet l bytes F.good)) in
      rw (check_held j (omega (arith, two)), placement.low_check alphabet most_bytes bytes S L l F j h, z) (xor_zero_l j)

  filled : (k : ℕ) → ((b : ℕ) → InBlock k b → used_base l b ≡ true) → (j : ℕ) → InBlock k j → vacant l j ≡ false
  filled k all j B = ap not (placement.filled alphabet l bytes F.good k (go (unused_in alphabet l k) refl) j B.0 B.1)
    where
      go : (o : Option ℕ) → unused_in alphabet l k ≡ o → unused_in alphabet l k ≡ none
      go none e = e
      go (some u) e = let N = placement.smallest alphabet l k u e in clash (all u (N.from, N.within)) N.unused

  -- ---- all of them

  pub cell_rules : CellRules kind es
  cell_rules =
      record {
        placing = placing;
        blocks = cells_length block l (link M) stored.place;
        some_block = F.good.some_block;
        root = cell_root l;
        root_alone = placement.root_alone alphabet most_bytes bytes S L l F;
        dead_alone = placement.dead_alone alphabet most_bytes bytes S L l F;
        inside = inside;
        apart = placement.different alphabet most_bytes bytes S L l F;
        base = λ s h. ap (λ (x : Cell). x.base) (state_held s h);
        nonzero = nonzero;
        unshared = λ s t c h. base_once alphabet most_bytes bytes S L l F s t (nonzero s c h);
        child = placement.child l;
        child_check = λ s c h. ap (λ (x : Cell). x.check) (state_held (snoc s c) h) ∙ placement.child_check alphabet most_bytes bytes S L l F s c h;
        childless = childless;
        probe = probe;
        used = used;
        zero_unused = zero_unused alphabet l F.good;
        vacancy = vacancy;
        vacant_check = vacant_check;
        low_check = low_check;
        filled = filled;
        vacant_cell = λ j h v.
            let e = held j h ∙ placement.vacant_cell alphabet most_bytes bytes S L l F (link M) stored.place j v in
            e ∙ ap check_alone (sym (ap (λ (x : Cell). x.check) e));
        dead_cell =
            let e = held 1 (omega (arith, two)) ∙ placement.dead_cell alphabet most_bytes bytes S L l F (link M) stored.place in
            e ∙ ap check_alone (sym (ap (λ (x : Cell). x.check) e));
        depth = λ s h. ap (λ (x : Cell). x.depth) (state_held s h);
      }
