-- What each phase hands to the next.
use mathlib.Core.Path.{◌≡◌, refl, ap, ◌∙◌}
use mathlib.Core.List.{List, ◌++◌}
use mathlib.Core.Logic.{inl, inr}
use Prim.Native.Nat.{ℕ, zero, suc, ◌*◌, ◌-◌, ◌≤◌, ◌<◌}
use native.Mathlib.Omega.{arith}
use lib.ListN.{length, replicate, drop}
use Rattle.zeros.specs.Rows.{zeros, field}
use Rattle.paper.specs.Patterns.{Entry, Kind}
use Rattle.paper.specs.Automaton.{machine, is_state, link}
use Rattle.paper.proofs.Links.{ruled}
use Rattle.paper.proofs.Machines.{lawful}
use Rattle.list.specs.Limits.{alphabet, block, most_bytes, most_cells, window_blocks}
use Rattle.list.specs.Kinds.{kind_of}
use Rattle.list.specs.Claims.{Bytes, Sound}
use Rattle.plan.proofs.Groups.{grouping}
use Rattle.plan.proofs.Machines.{machine_bounded}
use Rattle.plan.proofs.Owners.{groups_full}
use Rattle.plan.proofs.Placement.{window_reaches}
use Rattle.plan.specs.Placement.{Layout}
use Rattle.outputs.specs.Placed.{all_stored, Placed}
use Rattle.outputs.proofs.Noting.{still_linked}
use Rattle.nfa.specs.Grown.{accepted_of, Grown}
use Rattle.plan.specs.Names.{names, root_and_dead}
use Rattle.plan.proofs.Names.{from_long}
use Rattle.build.specs.Outcome.{counts_of}
use Rattle.nfa.proofs.Accepted.{within, valued, few, fit}
use Rattle.groups.specs.Ordered.{groups_of, Grouped}
use Rattle.spots.proofs.Charting.{bytes}
use Rattle.placement.specs.Laid.{first_block, Laid, Placeable, PlacedAll}
use Rattle.std.specs.Prelude.{Result, Ok, Err}
use Rattle.placement.specs.declared.FewCells.{FewCells}
use Rattle.cells.specs.Columns.{Writable, Written}
use Rattle.whole.specs.Whole.{state_count, layout_of, cell_count, cells_of, outputs_of}
use Rattle.whole.specs.Refusing.{Lent, Suffices}
use Rattle.build.specs.Lot.{Lot, lot_of}
use Rattle.wipe.specs.Wiped.{blank, blank_rows}
use Rattle.build.specs.Phases.{blocks_in, Layable, LaidDown, LaidBy, Fillable, Filled, Caused}
use Rattle.build.proofs.Counting.{blocks_room, blocks_full}

-- ---- the layout

pub placeable : {es : List Entry} {trie notes₀ notes spots : List (List ℕ)} {count most : ℕ} → Layable es trie (length notes₀) spots most
    → Grouped es notes₀ notes count → length notes ≡ length notes₀ → Placeable es (groups_of es) trie notes spots count most
placeable {es} L G e =
    record {
      stands = L.groupable.stands;
      notes_room = omega (arith, L.groupable.notes_room);
      ordered = G.ordered;
      grouping = grouping alphabet most_bytes (is_state es) (machine_bounded alphabet most_bytes es L.groupable.stands.within);
      blank = L.blank_spots;
      room = L.room;
      few = L.few;
    }

pub laid_by : (es : List Entry) (notes₀ notes₁ notes spots : List (List ℕ)) (count most : ℕ) (r : Result ℕ FewCells) → Grouped es notes₀ notes₁ count
    → PlacedAll es (groups_of es) notes₁ notes spots most r → LaidBy es notes₀ notes spots most r
laid_by es notes₀ notes₁ notes spots count most (Ok blocks) G P =
    record {
      blocks_are = P.blocks_are;
      enough = P.enough;
      laid = P.laid;
      kept = λ k f b. P.kept k f (omega arith) ∙ G.kept k f b;
    }
laid_by es notes₀ notes₁ notes spots count most (Err _) G P = P

-- ---- outputs and cells

-- the cells of the states stay where the output places are noted
laid_still : {es : List Entry} {notes₀ notes spots : List (List ℕ)} {l : Layout} → ((k : ℕ) → field notes k 5 ≡ field notes₀ k 5)
    → Laid es notes₀ spots l → Laid es notes spots l
laid_still same L =
    record {
      seated =
          record {
            root = same 0 ∙ L.seated.root;
            dead = same 1 ∙ L.seated.dead;
            child = λ p m c t K. same t ∙ L.seated.child p m c t K;
          };
      charted = L.charted;
    }

module _ {kind : Kind} {es : List Entry} {values : List ℕ} {lot : Lot} {states blocks : ℕ} (F : Fillable kind es values lot states blocks)
    {notes outs : List (List ℕ)} {count : ℕ} (P : Placed kind es values lot.notes notes lot.outs outs count) where
  pub writable : length notes ≡ length lot.notes
      → Writable es (layout_of es) (link (machine kind es)) (all_stored kind es).place lot.trie notes lot.spots states blocks
  writable e =
      let T = F.tabled in
      record {
        stands = record { trie = T.made.trie; within = T.within; room = omega (arith, T.made.states_are, T.trie_room) };
        states_are = T.made.states_are;
        notes_room = omega (arith, T.note_room);
        laid = laid_still (λ k. P.kept k 5 (omega arith) (λ z. omega arith)) F.laid;
        full = groups_full alphabet most_bytes bytes first_block (window_reaches window_blocks (omega arith)) (is_state es) (machine_bounded alphabet most_bytes es T.within);
        blocks_are = F.blocks_are;
        spots_room = F.spots_room;
        few = F.few;
        link = λ k h z. rw (P.kept k 1 (omega arith) (λ y. omega arith)) (T.linked.link k h z);
        link_root = (ruled (machine kind es) (lawful kind es T.proper)).root;
        place = P.place;
      }

  drop_blank : (k n : ℕ) → drop k (replicate n (zeros 3)) ≡ replicate (n - k) (zeros 3)
  drop_blank zero n = let e : n - 0 ≡ n = omega arith in rw e
  drop_blank (suc k) zero = let e : zero - suc k ≡ 0 = omega arith in rw e
  drop_blank (suc k) (suc n) = let e : suc n - suc k ≡ n - k = omega arith in rw e (drop_blank k n)

  pub filled : {trie owns notes' spots : List (List ℕ)} {base link' output check depth : List ℕ}
      → Written (cells_of kind es) base link' output check depth
      (length lot.base) (length lot.link) (length lot.output) (length lot.check) (length lot.depth)
      → Filled kind es values lot (lot_of trie owns notes' spots base link' output check depth outs) count
  filled W =
      record {
        count_is = P.count_is;
        columns = W;
        rows =
            P.rows
            ∙ ap (λ (l : List (List ℕ)). outputs_of kind es values ++ l)
            (ap (drop (length es)) F.blank_outs ∙ drop_blank (length es) (length lot.outs));
      }

-- ---- the whole

-- the counts of the whole
pub counts_here : {kind : ℕ} (es : List Entry) {accepted states blocks : ℕ} → accepted ≡ length es → states ≡ state_count es → blocks ≡ (layout_of es).blocks
    → record { kind = kind; accepted = accepted; states = states - 1; cells = blocks * block } ≡ counts_of kind es
counts_here es a s b = rw (a, s, b)

-- root and dead are always counted
pub two_states : (es : List Entry) → 2 ≤ state_count es
unfolding names root_and_dead
two_states es = from_long (root_and_dead alphabet) es

-- 6 with its cause
pub six : (es : List Entry) (slots : Lent) → slots.states < state_count es → Caused es slots 6
six es slots h =
    record { known = inl refl; six = λ e. h; seven = λ e. absurd (omega (arith, e)); eight = λ e. absurd (omega (arith, e)) }

module _ {kind : ℕ} {bytes ends values : List ℕ} (S : Sound kind bytes ends values) {room : ℕ} {trie owns notes : List (List ℕ)} {states count : ℕ}
    (G : Grown kind bytes ends room trie owns notes states count) where
  abbrev es : List Entry
  es = accepted_of kind bytes ends

  states_fit : state_count es ≤ room
  states_fit = omega (arith, G.made.states_are, G.fit)

  pub layable : (spots : List (List ℕ)) (cells most : ℕ) → spots ≡ blank_rows 2 spots → most ≡ blocks_in cells → cells ≤ length spots
      → Layable es trie (length notes) spots most
  layable spots cells most blank e h =
      let R = blocks_room cells in
      record {
        groupable =
            record {
              stands = record { trie = G.ready.trie; within = G.ready.within; room = G.ready.trie_room };
              notes_room = G.ready.notes_room;
            };
        blank_spots = blank;
        room = rw e (omega (arith, R.0));
        few = rw e R.1;
      }

  -- 7 with its cause
  pub seven : (slots : Lent) (most : ℕ) → slots.states ≡ room → most ≡ blocks_in slots.cells → most < (layout_of es).blocks → Caused es slots 7
  seven slots most e f h =
      record {
        known = inr (inl refl);
        six = λ z. absurd (omega (arith, z));
        seven = λ z. (omega (arith, states_fit), blocks_full slots.cells (layout_of es).blocks (rw (← f) h));
        eight = λ z. absurd (omega (arith, z));
      }

  module _ {notes' spots : List (List ℕ)} {most blocks : ℕ} (D : LaidDown es notes notes' spots most blocks) (slots : Lent) (e : slots.states ≡ room)
      (f : most ≡ blocks_in slots.cells) where
    -- the cells are within the slots and the limit
    pub cells_fit : (blocks * block ≤ slots.cells) × (blocks * block ≤ most_cells)
    cells_fit =
        let R = blocks_room slots.cells in
        let h : blocks ≤ blocks_in slots.cells = rw (← f) D.enough in
        (omega (arith, R.0), omega (arith, R.1))

    count_fits : (cell_count es ≤ slots.cells) × (cell_count es ≤ most_cells)
    count_fits = let q = cells_fit in (omega (arith, D.blocks_are, q.0), omega (arith, D.blocks_are, q.1))

    -- 8 with its cause
    pub eight : slots.outputs < count → Caused es slots 8
    eight h =
        record {
          known = inr (inr refl);
          six = λ z. absurd (omega (arith, z));
          seven = λ z. absurd (omega (arith, z));
          eight = λ z. (omega (arith, states_fit), count_fits.0, count_fits.1, omega (arith, G.made.count_is));
        }

    pub fits : count ≤ slots.outputs → Suffices es slots
    fits h = record { states = omega (arith, states_fit); cells = count_fits.0; most = count_fits.1; outputs = omega (arith, G.made.count_is) }

    pub fillable : {base link' output check depth : List ℕ} {outs : List (List ℕ)} → Bytes bytes → length notes' ≡ length notes → slots.cells ≤ length spots
        → slots.cells ≤ length base → slots.cells ≤ length link' → slots.cells ≤ length output → slots.cells ≤ length check → slots.cells ≤ length depth
        → base ≡ blank base → link' ≡ blank link' → output ≡ blank output → check ≡ blank check → depth ≡ blank depth → outs ≡ blank_rows 3 outs
        → count ≤ length owns → count ≤ length outs
        → Fillable (kind_of kind) es values (lot_of trie owns notes' spots base link' output check depth outs) states blocks
    fillable B ln ls lb ll lo lc ld zb zl zo zc zd zu ow ou =
        let q = cells_fit in
        record {
          tabled =
              record {
                accepted = count;
                made = G.made;
                linked = still_linked notes notes' (λ k i b. D.kept k i (omega arith)) G.linked;
                proper = fit S;
                within = within S B;
                valued = valued S;
                few = omega (arith, G.made.count_is, few S);
                own_room = ow;
                out_room = ou;
                trie_room = omega (arith, G.made.states_are, G.ready.trie_room);
                note_room = omega (arith, G.made.states_are, G.ready.notes_room);
              };
          laid = D.laid;
          blocks_are = D.blocks_are;
          spots_room = omega (arith, q.0);
          few = q.1;
          blanks =
              record {
                base_blank = record { zero = zb; room = omega (arith, q.0) };
                link_blank = record { zero = zl; room = omega (arith, q.0) };
                output_blank = record { zero = zo; room = omega (arith, q.0) };
                check_blank = record { zero = zc; room = omega (arith, q.0) };
                depth_blank = record { zero = zd; room = omega (arith, q.0) };
              };
          blank_outs = zu;
        }
