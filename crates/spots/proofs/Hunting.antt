-- The hunt for a base: index after index fails to serve, until one does; and the scan of a block for a base that no group has.
use mathlib.Core.Path.{◌≡◌, sym, ap, ◌∙◌}
use mathlib.Core.Bool.{true, false, not}
use mathlib.Core.List.{List, [], head-eq_of_cons-eq}
use mathlib.Core.Option.{none, some}
use Rattle.std.specs.Prelude.{Some, None}
use Prim.Native.Nat.{ℕ, ◌+◌, ◌-◌, ◌≤◌, ◌<◌}
use native.Mathlib.Decide.{ℕ_discrete, dec_lt}
use native.Mathlib.Omega.{arith}
use lib.Bits.{bit_xor}
use lib.Dec.{eqb}
use lib.ListN.{length, get_or}
use Rattle.zeros.specs.Rows.{field}
use Rattle.paper.specs.Patterns.{Entry}
use Rattle.paper.specs.Automaton.{is_state}
use Rattle.std.proofs.lemmas.Bool.{and_from, not-false}
use Rattle.list.specs.Limits.{alphabet, block}
use Rattle.plan.specs.Names.{names}
use Rattle.plan.specs.Breadth.{kid_bytes}
use Rattle.plan.specs.Groups.{Group}
use Rattle.plan.specs.Placement.{Layout, taken_cell, vacant, fits, first_where, serves}
use Rattle.plan.proofs.Scans.{to_first_some, to_first_none}
use Rattle.plan.proofs.Xor.{xor_below}
use Rattle.trie.proofs.Walks.{Walk, walk_begin, walk_kid, walk_first, rest}
use Rattle.spots.specs.Charted.{Charted, Next, Stretch, Seek, Try, GroupAt, FoundBase}
use Rattle.spots.proofs.Charting.{bytes}

-- ---- a state that has children

module _ {es : List Entry} {l : Layout} {trie rows : List (List ℕ)} {s from end : ℕ} (K : Seek es l trie rows s from end) where
  seek_walk : Walk es (get_or (names alphabet es) s []) (kid_bytes alphabet (is_state es) (get_or (names alphabet es) s [])) (field trie s 0)
  seek_walk = walk_begin K.stands s K.inside

  -- it has a group, and the first child's byte is the lowest of it
  pub seek_group : (g : Group) × GroupAt es s g
  seek_group = (
    record { parent = []; low = field trie (field trie s 0) 2; more = rest K.stands seek_walk K.parent },
    walk_first K.stands seek_walk K.parent,
  )

  module _ (g : Group) (G : GroupAt es s g) where
    group_low : field trie (field trie s 0) 2 ≡ g.low
    group_low = head-eq_of_cons-eq (sym (walk_first K.stands seek_walk K.parent) ∙ G)

    group_small : g.low < alphabet
    group_small = rw (← group_low) (walk_kid K.stands seek_walk K.parent).byte

  -- rows that are as many, and still the chart, serve as well
  seek_kept : {new : List (List ℕ)} → Charted new l → length new ≡ length rows → Seek es l trie new s from end
  seek_kept C same =
      record {
        stands = K.stands;
        inside = K.inside;
        parent = K.parent;
        stretch = record { charted = C; ordered = K.stretch.ordered; room = omega (arith, K.stretch.room); past = K.stretch.past };
        blocks = K.blocks;
        whole = K.whole;
      }

-- ---- the hunt

-- at the vacant index i, none before it serves
pub record Hunt (es : List Entry) (l : Layout) (g : Group) (trie rows : List (List ℕ)) (s from end low i : ℕ) : Type 0 where
  pub seek : Seek es l trie rows s from end
  pub group : GroupAt es s g
  pub lowest : low ≡ g.low
  pub reached : from ≤ i
  pub within : i ≤ end
  pub free : vacant l i ≡ true
  pub unfit : (j : ℕ) → from ≤ j → j < i → serves l g j ≡ false

-- a taken index doesn't serve
taken_unfit : (l : Layout) (g : Group) (j : ℕ) → taken_cell l j ≡ true → serves l g j ≡ false
taken_unfit l g j h = rw h

-- at the first vacant index
pub hunt_begin : {es : List Entry} {l : Layout} (g : Group) {trie rows new : List (List ℕ)} {s from end low t i : ℕ} → Seek es l trie rows s from end
    → GroupAt es s g → t ≡ field trie s 0 → low ≡ field trie t 2 → Next l from end i × Charted new l → length new ≡ length rows
    → Hunt es l g trie new s from end low i
hunt_begin {l} g {trie} K G e f P same =
    record {
      seek = seek_kept K P.1 same;
      group = G;
      lowest = f ∙ ap (λ (k : ℕ). field trie k 2) e ∙ group_low K g G;
      reached = P.0.reached;
      within = P.0.within;
      free = P.0.free;
      unfit = λ j lo hi. taken_unfit l g j (P.0.passed j lo hi);
    }

module _ {es : List Entry} {l : Layout} {g : Group} {trie rows : List (List ℕ)} {s from end low i : ℕ} (H : Hunt es l g trie rows s from end low i) where
  base_is : bit_xor i low ≡ bit_xor i g.low
  base_is = ap (bit_xor i) H.lowest

  pub hunt_none : end ≤ i → FoundBase l g from end None
  hunt_none h = to_first_none (serves l g) from (end - from) (λ j lo hi. H.unfit j lo (omega (arith, H.reached)))

  module _ (h : i < end) where
    -- the base of the index may be tried
    pub hunt_try : Try es l trie rows s (bit_xor i low)
    hunt_try =
        record {
          stands = H.seek.stands;
          inside = H.seek.inside;
          charted = H.seek.stretch.charted;
          blocks = H.seek.blocks;
          below = rw H.lowest
              (xor_below alphabet bytes i g.low H.seek.blocks (group_small H.seek g H.group) (omega (arith, H.seek.whole)));
          room = omega (arith, H.seek.whole, H.seek.stretch.room);
        }

    -- the stretch after it
    pub hunt_stretch : Stretch rows l (i + 1) end
    hunt_stretch =
        let S = H.seek.stretch in
        record { charted = S.charted; ordered = omega arith; room = S.room; past = S.past }

    pub hunt_found : true ≡ fits l g (bit_xor i low) → FoundBase l g from end (Some (bit_xor i low))
    hunt_found f = (
      i,
      to_first_some (serves l g) from (end - from) i
          (record {
            from = H.reached;
            within = omega (arith, H.reached);
            passed = and_from (vacant l i) (fits l g (bit_xor i g.low)) H.free (sym (f ∙ ap (fits l g) base_is));
            first = H.unfit;
          }),
      base_is,
    )

    -- the index doesn't serve, and the next vacant one is looked for
    pub hunt_more : {new : List (List ℕ)} {k : ℕ} → false ≡ fits l g (bit_xor i low) → Next l (i + 1) end k × Charted new l
        → length new ≡ length rows → Hunt es l g trie new s from end low k
    hunt_more {k = k} f P same =
        record {
          seek = seek_kept H.seek P.1 same;
          group = H.group;
          lowest = H.lowest;
          reached = omega (arith, H.reached, P.0.reached);
          within = P.0.within;
          free = P.0.free;
          unfit = unfit;
        }
      where
        unfit : (j : ℕ) → from ≤ j → j < k → serves l g j ≡ false
        unfit j lo hi =
            elim (ℕ_discrete j i) [
              | yes q ↦ rw (q, H.free, ← f ∙ ap (fits l g) base_is)
              | no q ↦ elim (dec_lt j i) [
                | yes b ↦ H.unfit j lo b
                | no b ↦ taken_unfit l g j (P.0.passed j (omega arith) hi)
              ]
            ]

-- ---- a base that no group has

-- the bases of the block before b are used
pub record Scanned (rows : List (List ℕ)) (from end b : ℕ) : Type 0 where
  pub whole : end ≡ from + block
  pub reached : from ≤ b
  pub within : b ≤ end
  pub used : (j : ℕ) → from ≤ j → j < b → eqb (field rows j 1) 0 ≡ false

module _ {rows : List (List ℕ)} {from end b : ℕ} (P : Scanned rows from end b) where
  module _ (h : b < end) where
    pub scan_found : not (eqb (field rows b 1) 0) ≡ false → first_where (λ (j : ℕ). eqb (field rows j 1) 0) from block ≡ some b
    scan_found u =
        to_first_some (λ (j : ℕ). eqb (field rows j 1) 0) from block b
        (record { from = P.reached; within = omega (arith, P.whole); passed = not-false (eqb (field rows b 1) 0) u; first = P.used })

  pub scan_end : end ≤ b → first_where (λ (j : ℕ). eqb (field rows j 1) 0) from block ≡ none
  scan_end h = to_first_none (λ (j : ℕ). eqb (field rows j 1) 0) from block (λ j lo hi. P.used j lo (omega (arith, P.whole)))
