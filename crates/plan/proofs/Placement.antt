-- Placement is right for any list of groups, in any order: each base is the first that serves, a block is added at most once for a
-- group and then always serves, and the layout stays good.
use mathlib.Core.Path.{◌≡◌, refl, sym, ap, ◌∙◌}
use mathlib.Core.Bool.{true, false}
use mathlib.Core.List.Memᴰ
use mathlib.Core.List.{List, [], ◌∷◌, ◌++◌, map, map-append, append_assoc, append-nil, Memᴰ}
use mathlib.Core.Logic.{◌⊎◌, inl, inr, ⊎_elim}
use mathlib.Core.Option.{Option, none, some}
use Prim.Native.Nat.{ℕ, zero, suc, ◌+◌, ◌*◌, ◌-◌, ◌≤◌, ◌<◌}
use native.Mathlib.Nat.{suc-mul, zero-mul, one-mul, add-mul, mul-le-mul_right}
use native.Mathlib.Decide.{dec_lt}
use native.Mathlib.Omega.{arith}
use lib.Bits.{bit_xor}
use lib.ListN.{length, take, drop, take-append-drop}
use Rattle.std.proofs.lemmas.Bool.{and_from, false_from_ne_true, and_parts}
use Rattle.paper.proofs.Tests.{clash}
use Rattle.plan.specs.Groups.{Group}
use Rattle.plan.specs.Placement.{Layout, taken_cell, vacant, used_base, fits, serves, look, window_start, grown, placed_by, put, on_look}
use Rattle.plan.specs.Placement.{place, Task, place_tasks, tasks, place_all, Alphabet, Reaches, Lettered, Fits, FirstIndex, NoIndex}
use Rattle.plan.specs.Placement.{InRange, Added, Fair, Good}
use Rattle.plan.proofs.Xor.{xor_above}
use Rattle.plan.proofs.Scans.{first_some, first_none, to_first_some, to_first_none}
use Rattle.plan.proofs.Layouts.{to_vacant, fits_is, fits_vacant, grown_good, put_good, sitting_within}

module _ (a : ℕ) where
  -- ---- looks

  -- the end of a range of blocks
  range_end : (b m i : ℕ) → m * a ≤ i → i < m * a + (b - m) * a → i < b * a
  range_end b m i h k =
      elim (dec_lt m b) [
        | yes l ↦ let e : m + (b - m) ≡ b = omega arith in omega (arith, add-mul m (b - m) a, ap (λ (n : ℕ). n * a) e)
        | no l ↦ let e : b - m ≡ 0 = omega arith in absurd (omega (arith, ap (λ (n : ℕ). n * a) e, zero-mul a))
      ]

  range_in : (b m i : ℕ) → i < b * a → i < m * a + (b - m) * a
  range_in b m i h =
      let e : b ≤ m + (b - m) = omega arith in
      omega (arith, add-mul m (b - m) a, mul-le-mul_right a e)

  module _ (start : ℕ → ℕ) (l : Layout) (g : Group) where
    serves_not : (j : ℕ) → serves l g j ≡ false → vacant l j ≡ true → fits l g (bit_xor j g.low) ≡ false
    serves_not j h v =
        false_from_ne_true (fits l g (bit_xor j g.low)) (λ k. clash (and_from (vacant l j) (fits l g (bit_xor j g.low)) v k) h)

    not_serves : (j : ℕ) → (vacant l j ≡ true → fits l g (bit_xor j g.low) ≡ false) → serves l g j ≡ false
    not_serves j h =
        false_from_ne_true (serves l g j)
        (λ k. clash (and_parts (vacant l j) (fits l g (bit_xor j g.low)) k).1 (h (and_parts (vacant l j) (fits l g (bit_xor j g.low)) k).0))

    pub look_some : (i : ℕ) → look a start l g ≡ some i → FirstIndex a start l g i
    unfolding look
    look_some i e =
        let F = first_some (serves l g) (start l.blocks * a) ((l.blocks - start l.blocks) * a) i e in
        record {
          from = F.from;
          within = range_end l.blocks (start l.blocks) i F.from F.within;
          free = (and_parts (vacant l i) (fits l g (bit_xor i g.low)) F.passed).0;
          room = (and_parts (vacant l i) (fits l g (bit_xor i g.low)) F.passed).1;
          first = λ j h k. serves_not j (F.first j h k);
        }

    pub look_none : look a start l g ≡ none → NoIndex a start l g
    unfolding look
    look_none e j h k =
        serves_not j
        (first_none (serves l g) (start l.blocks * a) ((l.blocks - start l.blocks) * a) e j h
        (range_in l.blocks (start l.blocks) j k))

    -- and back: a look finds the index that is the first
    pub to_look_some : (i : ℕ) → FirstIndex a start l g i → look a start l g ≡ some i
    unfolding look
    to_look_some i F =
        to_first_some (serves l g) (start l.blocks * a) ((l.blocks - start l.blocks) * a) i
        (record {
          from = F.from;
          within = range_in l.blocks (start l.blocks) i F.within;
          passed = and_from (vacant l i) (fits l g (bit_xor i g.low)) F.free F.room;
          first = λ j h k. not_serves j (F.first j h k);
        })

    pub to_look_none : NoIndex a start l g → look a start l g ≡ none
    unfolding look
    to_look_none h =
        to_first_none (serves l g) (start l.blocks * a) ((l.blocks - start l.blocks) * a)
        (λ j k u. not_serves j (h j k (range_end l.blocks (start l.blocks) j k u)))

  -- ---- one group, by what the looks found

  module _ (start : ℕ → ℕ) (l : Layout) (g : Group) where
    pub place_here : (i : ℕ) → look a start l g ≡ some i → place a start l g ≡ put l g i
    unfolding place
    place_here i e = rw e

    pub place_more : (i : ℕ) → look a start l g ≡ none → look a start (grown l) g ≡ some i → place a start l g ≡ put (grown l) g i
    unfolding place
    place_more i e f = rw (e, f)

    -- where nothing serves, there is a block more
    pub place_full : look a start l g ≡ none → (place a start l g).blocks ≡ suc l.blocks
    unfolding place
    place_full e = rw e (go (look a start (grown l) g))
      where
        go : (o : Option ℕ) → (on_look o (grown l) (put (grown l) g)).blocks ≡ suc l.blocks
        go none = refl
        go (some i) = refl

    -- (q2) a group adds at most one block
    pub place_blocks : (l.blocks ≤ (place a start l g).blocks) × ((place a start l g).blocks ≤ suc l.blocks)
    place_blocks = go (look a start l g) refl
      where
        go : (o : Option ℕ) → look a start l g ≡ o
            → (l.blocks ≤ (place a start l g).blocks) × ((place a start l g).blocks ≤ suc l.blocks)
        go none e = rw (place_full e) (omega arith)
        go (some i) e = rw (place_here i e) (omega arith)

  -- ---- groups in turn

  pub tasks_append : (l : Layout) (ts us : List Task) → place_tasks a l (ts ++ us) ≡ place_tasks a (place_tasks a l ts) us
  unfolding place_tasks
  tasks_append l [] us = refl
  tasks_append l (t ∷ ts) us = tasks_append (place a t.start l t.group) ts us

  -- (q2) blocks only grow, at most by one for each group
  pub tasks_blocks : (l : Layout) (ts : List Task)
      → (l.blocks ≤ (place_tasks a l ts).blocks) × ((place_tasks a l ts).blocks ≤ l.blocks + length ts)
  unfolding place_tasks
  tasks_blocks l [] = omega arith
  tasks_blocks l (t ∷ ts) =
      let r = place a t.start l t.group in
      omega (arith, place_blocks t.start l t.group, tasks_blocks r ts)

  -- so a part of the groups needs no more blocks than all
  pub tasks_prefix : (l : Layout) (k : ℕ) (ts : List Task) → (place_tasks a l (take k ts)).blocks ≤ (place_tasks a l ts).blocks
  tasks_prefix l k ts =
      let e : place_tasks a l ts ≡ place_tasks a (place_tasks a l (take k ts)) (drop k ts)
      = ap (place_tasks a l) (sym (take-append-drop k ts)) ∙ tasks_append l (take k ts) (drop k ts) in
      rw e (tasks_blocks (place_tasks a l (take k ts)) (drop k ts)).0

module _ (a : ℕ) (A : Alphabet a) where
  -- ---- a new block always serves

  pub new_block_fits : (l : Layout) (g : Group) → Good a l → Lettered a g → Fits l g (bit_xor (l.blocks * a) g.low)
  new_block_fits l g G T =
      record {
        nonzero = λ e. omega (arith, far, past_one);
        unused = λ p m e. omega (arith, far, G.within p m);
        room = λ c m. let out : l.blocks * a ≤ bit_xor base c = xor_above a A base c l.blocks (T c m) far in
            to_vacant l (bit_xor base c) (omega (arith, past_one)) (λ s. omega (arith, sitting_within a A l G (bit_xor base c) s));
      }
    where
      base : ℕ
      base = bit_xor (l.blocks * a) g.low

      far : l.blocks * a ≤ bit_xor (l.blocks * a) g.low
      far = xor_above a A (l.blocks * a) g.low l.blocks (T g.low (Memᴰ.head refl)) (omega arith)

      past_one : 1 < l.blocks * a
      past_one = omega (arith, A.two, mul-le-mul_right a G.some_block, one-mul a)

  -- ---- (q1) and (q2): what `place` does

  module _ (start : ℕ → ℕ) (R : Reaches start) (l : Layout) (g : Group) (G : Good a l) (T : Lettered a g) where
    -- the first cell of a new block serves
    new_block_room : fits l g (bit_xor (l.blocks * a) g.low) ≡ true
    new_block_room = (fits_is l g (bit_xor (l.blocks * a) g.low)).1 (new_block_fits l g G T)

    new_block_within : l.blocks * a < suc l.blocks * a
    new_block_within = omega (arith, suc-mul l.blocks a, A.two)

    new_block_free : vacant l (l.blocks * a) ≡ true
    new_block_free = fits_vacant l g (l.blocks * a) new_block_room

    -- the second look always finds an index
    pub look_grown : (i : ℕ) × (look a start (grown l) g ≡ some i)
    unfolding taken_cell fits used_base
    look_grown = go (look a start (grown l) g) refl
      where
        go : (o : Option ℕ) → look a start (grown l) g ≡ o → (i : ℕ) × (look a start (grown l) g ≡ some i)
        go none e =
            clash new_block_room
            (look_none a start (grown l) g e (l.blocks * a) (mul-le-mul_right a (R l.blocks)) new_block_within new_block_free)
        go (some i) e = (i, e)

    -- (q1) the base is that of the first index that serves; if none does, that of the first in the range with a block more
    pub place_cases : InRange a start l g (place a start l g) ⊎ Added a start l g (place a start l g)
    place_cases = go (look a start l g) refl
      where
        go : (o : Option ℕ) → look a start l g ≡ o → InRange a start l g (place a start l g) ⊎ Added a start l g (place a start l g)
        go (some i) e = inl (record { index = i; chosen = look_some a start l g i e; is = place_here a start l g i e })
        go none e =
            let r = look_grown in
            inr
            (record {
              full = look_none a start l g e;
              found = record {
                index = r.0;
                chosen = look_some a start (grown l) g r.0 r.1;
                is = place_more a start l g r.0 e r.1;
              };
            })

    -- (q2) if the range does not reach back, the index in a new block is the block's first cell
    pub grown_first : start l.blocks ≤ start (suc l.blocks) → NoIndex a start l g → FirstIndex a start (grown l) g (l.blocks * a)
    unfolding taken_cell fits used_base
    grown_first h none_before =
        record {
          from = mul-le-mul_right a (R l.blocks);
          within = new_block_within;
          free = new_block_free;
          room = new_block_room;
          first = λ j k u. none_before j (omega (arith, mul-le-mul_right a h)) u;
        }

    pub place_added : start l.blocks ≤ start (suc l.blocks) → NoIndex a start l g
        → place a start l g ≡ put (grown l) g (l.blocks * a)
    place_added h k =
        place_more a start l g (l.blocks * a) (to_look_none a start l g k)
        (to_look_some a start (grown l) g (l.blocks * a) (grown_first h k))

    pub place_good : Good a (place a start l g)
    place_good = ⊎_elim found added place_cases
      where
        found : InRange a start l g (place a start l g) → Good a (place a start l g)
        found F = rw F.is (put_good a A l g F.index G T F.chosen.within F.chosen.room)

        added : Added a start l g (place a start l g) → Good a (place a start l g)
        added x =
            let F = x.found in
            rw F.is (put_good a A (grown l) g F.index (grown_good a l G) T F.chosen.within F.chosen.room)

    -- what was placed stays, and the group is the last
    pub place_placed : (i : ℕ) × ((place a start l g).placed ≡ l.placed ++ (placed_by g i ∷ []))
    place_placed =
        ⊎_elim (λ F. (F.index, ap (λ (r : Layout). r.placed) F.is))
        (λ x. (x.found.index, ap (λ (r : Layout). r.placed) x.found.is)) place_cases

    pub place_groups : map (λ p. p.group) (place a start l g).placed ≡ map (λ p. p.group) l.placed ++ (g ∷ [])
    place_groups =
        ap (map (λ p. p.group)) place_placed.1 ∙ map-append (λ p. p.group) l.placed (placed_by g place_placed.0 ∷ [])

  -- ---- groups in turn

  pub tasks_good : (l : Layout) (ts : List Task) → Good a l → ((t : Task) → Memᴰ t ts → Fair a t) → Good a (place_tasks a l ts)
  unfolding place_tasks
  tasks_good l [] G f = G
  tasks_good l (t ∷ ts) G f =
      let h = f t (Memᴰ.head refl) in
      tasks_good (place a t.start l t.group) ts (place_good t.start h.reaches l t.group G h.lettered)
      (λ u m. f u (Memᴰ.tail m))

  -- each group is placed, once and in its turn
  pub tasks_groups : (l : Layout) (ts : List Task) → Good a l → ((t : Task) → Memᴰ t ts → Fair a t)
      → map (λ p. p.group) (place_tasks a l ts).placed ≡ map (λ p. p.group) l.placed ++ map (λ t. t.group) ts
  unfolding place_tasks
  tasks_groups l [] G f = sym (append-nil (map (λ p. p.group) l.placed))
  tasks_groups l (t ∷ ts) G f =
      let h = f t (Memᴰ.head refl) in
      let G' = place_good t.start h.reaches l t.group G h.lettered in
      tasks_groups (place a t.start l t.group) ts G' (λ u m. f u (Memᴰ.tail m))
      ∙ rw (place_groups t.start h.reaches l t.group G h.lettered)
      (append_assoc (map (λ p. p.group) l.placed) (t.group ∷ []) (map (λ u. u.group) ts))

-- ---- the same start for all

tasks_fair : (a : ℕ) (start : ℕ → ℕ) (gs : List Group) → Reaches start → ((g : Group) → Memᴰ g gs → Lettered a g)
    → (t : Task) → Memᴰ t (tasks start gs) → Fair a t
tasks_fair a start gs R T t m =
    let r = Memᴰ.of_map (λ g. record { start = start; group = g }) gs m in
    rw (← r.2) (record { reaches = R; lettered = T r.0 r.1 })

pub tasks_are : (start : ℕ → ℕ) (gs : List Group) → map (λ t. t.group) (tasks start gs) ≡ gs
tasks_are start [] = refl
tasks_are start (g ∷ gs) = ap (λ (l : List Group). g ∷ l) (tasks_are start gs)

module _ (a : ℕ) (start : ℕ → ℕ) where
  pub all_append : (l : Layout) (gs hs : List Group) → place_all a start l (gs ++ hs) ≡ place_all a start (place_all a start l gs) hs
  all_append l gs hs =
      ap (place_tasks a l) (map-append (λ g. record { start = start; group = g }) gs hs) ∙ tasks_append a l (tasks start gs) (tasks start hs)

  -- (q2) a part of the groups needs no more blocks than all
  pub all_prefix : (l : Layout) (k : ℕ) (gs : List Group) → (place_all a start l (take k gs)).blocks ≤ (place_all a start l gs).blocks
  all_prefix l k gs = rw (← take_tasks k gs) (tasks_prefix a l k (tasks start gs))
    where
      take_tasks : (n : ℕ) (hs : List Group) → take n (tasks start hs) ≡ tasks start (take n hs)
      take_tasks zero hs = refl
      take_tasks (suc n) [] = refl
      take_tasks (suc n) (h ∷ hs) = ap (λ (ts : List Task). record { start = start; group = h } ∷ ts) (take_tasks n hs)

module _ (a : ℕ) (A : Alphabet a) (start : ℕ → ℕ) (R : Reaches start) (l : Layout) (gs : List Group) (G : Good a l)
    (T : (g : Group) → Memᴰ g gs → Lettered a g) where
  -- (q3) the layout stays good
  pub all_good : Good a (place_all a start l gs)
  all_good = tasks_good a A l (tasks start gs) G (tasks_fair a start gs R T)

  -- each group is placed, once and in its turn
  pub all_groups : map (λ p. p.group) (place_all a start l gs).placed ≡ map (λ p. p.group) l.placed ++ gs
  all_groups =
      tasks_groups a A l (tasks start gs) G (tasks_fair a start gs R T)
      ∙ ap (λ (hs : List Group). map (λ p. p.group) l.placed ++ hs) (tasks_are start gs)

-- ---- the window

pub window_reaches : (w : ℕ) → 1 ≤ w → Reaches (window_start w)
window_reaches w h b = omega arith

pub window_rises : (w b : ℕ) → window_start w b ≤ window_start w (suc b)
window_rises w b = omega arith
