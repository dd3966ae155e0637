-- All groups in turn: after i of them the tables are those of the layout of the first i.
use mathlib.Core.Path.{◌≡◌, refl, sym, ap, ◌∙◌, subst}
use mathlib.Core.List.Memᴰ
use mathlib.Core.List.{List, [], ◌∷◌, Memᴰ}
use mathlib.Core.List.{cons≢nil}
use mathlib.Core.Logic.{⊎_elim}
use Prim.Native.Nat.{ℕ, suc, ◌≤◌, ◌<◌}
use native.Mathlib.Omega.{arith}
use lib.Bits.{bit_xor}
use lib.ListN.{length, get_or, take, drop, take-append-drop, length-set}
use lib.Seq.{take-suc, take-length}
use Rattle.zeros.specs.Rows.{field}
use Rattle.paper.specs.Lists.{snoc}
use Rattle.paper.specs.Patterns.{Entry}
use Rattle.paper.specs.Automaton.{is_state}
use Rattle.paper.proofs.Strings.{snoc_parent}
use Rattle.list.specs.Limits.{alphabet, block, window_blocks}
use Rattle.plan.specs.Names.{names}
use Rattle.plan.specs.Groups.{Group, OtherParent}
use Rattle.plan.specs.Placement.{Placed, Layout, one_block, placed_by, put, place, place_tasks, Good, Lettered}
use Rattle.plan.proofs.Lists.{sorted_take}
use Rattle.plan.proofs.Breadth.{in_kid_bytes}
use Rattle.plan.proofs.Layouts.{begun_good}
use Rattle.plan.proofs.Placement.{all_append, all_prefix, all_good, all_groups, window_reaches}
use Rattle.trie.specs.Trie.{Kid}
use Rattle.trie.proofs.Walks.{walk_begin, walk_end}
use Rattle.groups.specs.Ordered.{no_group}
use Rattle.spots.specs.Charted.{with_taken, GroupAt}
use Rattle.spots.proofs.Charting.{bytes, charted_begun}
use Rattle.placement.specs.Laid.{with_cell, first_block, laid_out, Laid, Placeable, LaidOut}
use Rattle.placement.specs.Seats.{Turn, Turned}
use Rattle.placement.proofs.Seating.{cell_here, cell_kept, cell_other}

-- what stands before a place is a member
in_take : (i : ℕ) (gs : List Group) {g : Group} → Memᴰ g (take i gs) → Memᴰ g gs
in_take i gs {g} m = subst (λ (hs : List Group). Memᴰ g hs) (take-append-drop i gs) (Memᴰ.append_left (drop i gs) m)

-- the first i groups are placed
pub record Round (es : List Entry) (gs : List Group) (notes₀ notes spots : List (List ℕ)) (i most blocks : ℕ) : Type 0 where
  pub blocks_are : blocks ≡ (laid_out (take i gs)).blocks
  pub under : blocks ≤ most
  pub laid : Laid es notes spots (laid_out (take i gs))
  pub kept : (k f : ℕ) → f < 5 → field notes k f ≡ field notes₀ k f

module _ {es : List Entry} {gs : List Group} {trie notes₀ spots₀ : List (List ℕ)} {count most : ℕ} (P : Placeable es gs trie notes₀ spots₀ count most) where
  two_notes : 2 ≤ length notes₀
  two_notes = omega (arith, P.stands.trie.two, P.notes_room)

  -- ---- before the first

  pub round_begin : 1 ≤ most → Round es gs notes₀ (with_cell (with_cell notes₀ 0 0) 1 1) (with_taken (with_taken spots₀ 0 1) 1 1) 0 most 1
  unfolding place_tasks
  round_begin h =
      let mid : List (List ℕ) = with_cell notes₀ 0 0 in
      let first : 0 < length notes₀ = omega (arith, two_notes) in
      let second : 1 < length mid = rw length-set (omega (arith, two_notes)) in
      record {
        blocks_are = refl;
        under = h;
        laid =
            record {
              seated =
                  record {
                    root = cell_other mid 1 1 0 (λ e. omega arith) ∙ cell_here notes₀ 0 0 first;
                    dead = cell_here mid 1 1 second;
                    child = λ p m. absurd (Memᴰ.not-nil m);
                  };
              charted = charted_begun spots₀ (length spots₀) P.blank (omega (arith, P.room));
            };
        kept = λ k f b. cell_kept mid 1 1 second k f b ∙ cell_kept notes₀ 0 0 first k f b;
      }

  -- ---- one group

  -- its bytes are letters
  letters : (g : Group) → Memᴰ g gs → Lettered alphabet g
  letters g m c k =
      (in_kid_bytes alphabet (is_state es) g.parent (subst (λ (cs : List ℕ). Memᴰ c cs) (sym ((P.grouping.exact g).0 m)) k)).0

  good_to : (i : ℕ) → Good alphabet (laid_out (take i gs))
  good_to i =
      all_good alphabet bytes first_block (window_reaches window_blocks (omega arith)) one_block (take i gs) (begun_good alphabet) (λ g m. letters g (in_take i gs m))

  module _ {i : ℕ} (here : i < length gs) {notes spots : List (List ℕ)} {blocks : ℕ} (R : Round es gs notes₀ notes spots i most blocks) {s : ℕ}
      (e : s ≡ field notes i 3) where
    abbrev g : Group
    g = get_or gs i no_group

    number : s ≡ field notes₀ i 3
    number = e ∙ R.kept i 3 (omega arith)

    -- the number is that of its state
    is_named : get_or (names alphabet es) s [] ≡ g.parent
    is_named = rw number (P.ordered.named i here).is

    inside : s < length (names alphabet es)
    inside = rw number (P.ordered.named i here).inside

    pub group_here : GroupAt es s g
    group_here = rw is_named (P.ordered.bytes i here)

    has_child : field trie s 0 ≡ 0 → ⊥
    has_child z = cons≢nil (sym (sym (walk_end P.stands (walk_begin P.stands s inside) z) ∙ group_here))

    pub turn_here : length notes ≡ length notes₀ → length spots ≡ length spots₀ → Turn es (laid_out (take i gs)) trie notes spots s blocks most
    turn_here sn ss =
        record {
          looks =
              record {
                state = record { stands = P.stands; notes_room = omega (arith, P.notes_room); inside = inside };
                parent = has_child;
                charted = R.laid.charted;
                good = good_to i;
                blocks_are = R.blocks_are;
                room = omega (arith, P.room, R.under);
                few = omega (arith, P.few, R.under);
              };
          under = R.under;
          room = omega (arith, P.room);
          few = P.few;
        }

    -- the layout with it
    with_it : laid_out (take (suc i) gs) ≡ place block first_block (laid_out (take i gs)) g
    unfolding place_tasks
    with_it = ap laid_out (take-suc gs i no_group here) ∙ all_append block first_block one_block (take i gs) (g ∷ [])

    -- a group that was placed before is another state's
    other : (p : Placed) → Memᴰ p (laid_out (take i gs)).placed → p.group.parent ≡ g.parent → ⊥
    other p m =
        sorted_take OtherParent gs P.grouping.once i no_group p.group here
        (subst (λ (l : List Group). Memᴰ p.group l)
        (all_groups alphabet bytes first_block (window_reaches window_blocks (omega arith)) one_block (take i gs) (begun_good alphabet) (λ h k. letters h (in_take i gs k)))
        (Memᴰ.map (λ (q : Placed). q.group) m))

    module _ {after chart : List (List ℕ)} {more : ℕ} (T : Turned es (laid_out (take i gs)) g s notes after chart most more) where
      -- the cells of other groups' children stay
      stays : (p : Placed) → Memᴰ p (laid_out (take i gs)).placed → (c t : ℕ) → Kid alphabet (names alphabet es) p.group.parent c t
          → field after t 5 ≡ bit_xor p.base c
      stays p m c t K =
          T.at.children.others t (λ d L. other p m (snoc_parent p.group.parent g.parent c d (sym K.named ∙ L.named ∙ ap (λ (u : List ℕ). snoc u d) is_named)))
          ∙ R.laid.seated.child p m c t K

      fresh : (c t : ℕ) → Kid alphabet (names alphabet es) g.parent c t → field after t 5 ≡ bit_xor (bit_xor T.index g.low) c
      fresh c t K = T.at.children.seated c t (subst (λ (u : List ℕ). Kid alphabet (names alphabet es) u c t) (sym is_named) K)

      child : (p : Placed) → Memᴰ p (put T.before g T.index).placed → (c t : ℕ) → Kid alphabet (names alphabet es) p.group.parent c t
          → field after t 5 ≡ bit_xor p.base c
      child p m c t K =
          ⊎_elim (λ old. stays p (subst (λ (l : List Placed). Memᴰ p l) T.older old) c t K)
          (λ new. let same : p ≡ placed_by g T.index = Memᴰ.eq_of_singleton new in
          rw same (fresh c t (subst (λ (q : Placed). Kid alphabet (names alphabet es) q.group.parent c t) same K)))
          (Memᴰ.append_cases T.before.placed m)

      round_suc : Round es gs notes₀ after chart (suc i) most more
      round_suc =
          record {
            blocks_are = T.blocks_are ∙ ap (λ (l : Layout). l.blocks) (sym with_it);
            under = T.under;
            laid =
                rw (with_it, T.is)
                (record {
                  seated =
                      record {
                        root = T.at.children.others 0 (λ c K. omega (arith, K.above)) ∙ R.laid.seated.root;
                        dead = T.at.children.others 1 (λ c K. omega (arith, K.above)) ∙ R.laid.seated.dead;
                        child = child;
                      };
                  charted = T.at.charted;
                });
            kept = λ k f b. T.at.children.kept k f b ∙ R.kept k f b;
          }

      pub round_more : (j : ℕ) → j ≡ suc i → Round es gs notes₀ after chart j most more
      round_more j next = subst (λ (k : ℕ). Round es gs notes₀ after chart k most more) (sym next) round_suc

    -- one that takes too many blocks makes the whole too large
    pub round_full : most < (place block first_block (laid_out (take i gs)) g).blocks → most < (laid_out gs).blocks
    round_full h = let x = all_prefix block first_block one_block (suc i) gs in omega (arith, ap (λ (l : Layout). l.blocks) with_it)

  -- ---- after the last

  pub round_end : {i : ℕ} {notes spots : List (List ℕ)} {blocks : ℕ} → i ≡ length gs → Round es gs notes₀ notes spots i most blocks
      → LaidOut es gs notes₀ notes spots most blocks
  round_end {i} {notes} {spots} e R =
      let whole : take i gs ≡ gs = rw e (take-length gs) in
      record {
        blocks_are = R.blocks_are ∙ ap (λ (hs : List Group). (laid_out hs).blocks) whole;
        enough = R.under;
        laid = subst (λ (hs : List Group). Laid es notes spots (laid_out hs)) whole R.laid;
        kept = R.kept;
      }

  -- with no block at all there is no layout: one always exists
  pub round_none : most < 1 → most < (laid_out gs).blocks
  unfolding place_tasks
  round_none h = let x = all_prefix block first_block one_block 0 gs in let y = begun_one in omega (arith, x, y)
    where
      begun_one : (laid_out (take 0 gs)).blocks ≡ 1
      begun_one = refl
