-- One group: the range that is looked over, the seat that is found, and the layout with the group.
use mathlib.Core.Path.{◌≡◌, refl, sym, ◌∙◌, subst}
use mathlib.Core.Bool.{Bool, true, false}
use mathlib.Core.List.{List, [], Memᴰ}
use mathlib.Core.Option.{none, some, none-ne-some}
use Prim.Native.Nat.{ℕ, ◌+◌, ◌-◌, ◌*◌, ◌≤◌, ◌<◌}
use native.Mathlib.Omega.{arith}
use lib.Bits.{bit_xor}
use lib.ListN.{length, get_or}
use Rattle.paper.specs.Patterns.{Entry}
use Rattle.paper.specs.Automaton.{is_state}
use Rattle.list.specs.Limits.{alphabet, block, window_blocks}
use Rattle.plan.specs.Names.{names}
use Rattle.plan.specs.Groups.{Group}
use Rattle.plan.specs.Placement.{Layout, first_fit, look, grown, place, Lettered, serves}
use Rattle.plan.proofs.Breadth.{in_kid_bytes}
use Rattle.plan.proofs.Xor.{xor_below}
use Rattle.plan.proofs.Scans.{first_some}
use Rattle.plan.proofs.Layouts.{grown_good}
use Rattle.plan.proofs.Placement.{place_here, place_more, place_full, look_grown, window_reaches}
use Rattle.trie.specs.Stands.{Stands}
use Rattle.spots.specs.Charted.{Charted, Seek, GroupAt, FoundBase}
use Rattle.std.specs.Prelude.{Option, Some, None}
use Rattle.spots.proofs.Charting.{bytes, charted_grown, charted_put, vacant_past}
use Rattle.placement.specs.Laid.{first_block}
use Rattle.placement.specs.Seats.{Seat, Children, SeatedAt, Look, PlacedAt, Looked, Turn, Turned}

-- a look is the first fit over the range
pub look_range : (l : Layout) (g : Group) (blocks : ℕ) → blocks ≡ l.blocks
    → look block first_block l g ≡ first_fit l g (first_block blocks * block) (blocks * block - first_block blocks * block)
unfolding look
look_range l g blocks e =
    let same : (blocks - first_block blocks) * block ≡ blocks * block - first_block blocks * block = omega arith in
    rw (← e, same)

-- the child bytes of a state are letters
pub kid_letters : {es : List Entry} {rows : List (List ℕ)} → Stands es rows → (s : ℕ) (g : Group) → GroupAt es s g → Lettered alphabet g
kid_letters {es} T s g G c m = (in_kid_bytes alphabet (is_state es) (get_or (names alphabet es) s []) (subst (λ (cs : List ℕ). Memᴰ c cs) (sym G) m)).0

module _ {es : List Entry} {l : Layout} {trie notes spots : List (List ℕ)} {s blocks : ℕ} (L : Look es l trie notes spots s blocks) where
  some_block : 1 ≤ blocks
  some_block = omega (arith, L.good.some_block, L.blocks_are)

  -- what is asked of the look for a base
  pub sought : Seek es l trie spots s (first_block blocks * block) (blocks * block)
  sought =
      record {
        stands = L.state.stands;
        inside = L.state.inside;
        parent = L.parent;
        stretch =
            record {
              charted = L.charted;
              ordered = omega arith;
              room = L.room;
              past = vacant_past L.good (blocks * block) (omega (arith, L.blocks_are)) (omega (arith, some_block));
            };
        blocks = blocks;
        whole = refl;
      }

  module _ (g : Group) (G : GroupAt es s g) where
    -- the base found lies in the blocks, and so does each cell at it
    found_below : (i : ℕ) → first_fit l g (first_block blocks * block) (blocks * block - first_block blocks * block) ≡ some i → bit_xor i g.low < blocks * block
    found_below i e =
        let F = first_some (serves l g) (first_block blocks * block) (blocks * block - first_block blocks * block) i e in
        xor_below alphabet bytes i g.low blocks (kid_letters L.state.stands s g G g.low (Memᴰ.head refl)) (omega (arith, F.from, F.within))

    pub seat_here : (chart : List (List ℕ)) → length chart ≡ length spots → (b : ℕ) → FoundBase l g (first_block blocks * block) (blocks * block) (Some b)
        → Seat es trie notes chart s b
    seat_here chart same b F =
        let h : b < blocks * block = rw F.2 (found_below F.0 F.1) in
        record {
          state = L.state;
          base_room = omega (arith, L.room);
          cell_room = λ c small. let x = xor_below alphabet bytes b c blocks small h in omega (arith, L.room);
        }

    pub looked_some : {after chart final : List (List ℕ)} → length chart ≡ length spots → (b : ℕ) → FoundBase l g (first_block blocks * block) (blocks * block) (Some b)
        → Charted chart l → SeatedAt es s b notes after chart final → Looked es l g s notes after final true
    looked_some {after} {chart} {final} same b F C S =
        let R = seat_here chart same b F in (
          F.0,
          look_range l g blocks L.blocks_are ∙ F.1,
          record {
            charted =
                rw (S.chart, G)
                (charted_put C g F.0 b F.2 R.base_room
                (λ c m. R.cell_room c (kid_letters L.state.stands s g G c m)));
            children = subst (λ (x : ℕ). Children es s x notes after) F.2 S.children;
          },
        )

    pub looked_none : {chart : List (List ℕ)} → FoundBase l g (first_block blocks * block) (blocks * block) None → Charted chart l
        → Looked es l g s notes notes chart false
    looked_none F C = (look_range l g blocks L.blocks_are ∙ F, C, refl)

-- the range as the code has its start
module _ {es : List Entry} {l : Layout} {trie notes spots : List (List ℕ)} {s blocks : ℕ} (L : Look es l trie notes spots s blocks) (from : ℕ)
    (e : from ≡ first_block blocks * block) where
  pub sought_from : Seek es l trie spots s from (blocks * block)
  sought_from = subst (λ (x : ℕ). Seek es l trie spots s x (blocks * block)) (sym e) (sought L)

  pub found_from : (g : Group) (r : Option ℕ) → FoundBase l g from (blocks * block) r → FoundBase l g (first_block blocks * block) (blocks * block) r
  found_from g r F = subst (λ (x : ℕ). FoundBase l g x (blocks * block) r) e F

-- an answer told apart
pub as_some : (l : Layout) (g : Group) (from end : ℕ) (r : Option ℕ) (b : ℕ) → FoundBase l g from end r → r ≡ Some b → FoundBase l g from end (Some b)
as_some l g from end r b F e = subst (λ (x : Option ℕ). FoundBase l g from end x) e F

pub as_none : (l : Layout) (g : Group) (from end : ℕ) (r : Option ℕ) → FoundBase l g from end r → r ≡ None → FoundBase l g from end None
as_none l g from end r F e = subst (λ (x : Option ℕ). FoundBase l g from end x) e F

module _ (es : List Entry) (l : Layout) (g : Group) (s : ℕ) (notes₀ notes spots : List (List ℕ)) (r : Bool) (F : Looked es l g s notes₀ notes spots r) where
  pub as_found : r ≡ true → Looked es l g s notes₀ notes spots true
  as_found e = subst (λ (x : Bool). Looked es l g s notes₀ notes spots x) e F

  pub as_missed : r ≡ false → Looked es l g s notes₀ notes spots false
  as_missed e = subst (λ (x : Bool). Looked es l g s notes₀ notes spots x) e F

module _ {es : List Entry} {l : Layout} {trie notes spots : List (List ℕ)} {s blocks most : ℕ} (T : Turn es l trie notes spots s blocks most)
    (g : Group) (G : GroupAt es s g) where
  -- the group is placed in the blocks that there are
  pub turned_here : {after chart : List (List ℕ)} → Looked es l g s notes after chart true → Turned es l g s notes after chart most blocks
  turned_here F =
      record {
        index = F.0;
        before = l;
        is = place_here block first_block l g F.0 F.1;
        older = refl;
        blocks_are = rw (place_here block first_block l g F.0 F.1) T.looks.blocks_are;
        under = T.under;
        at = F.2;
      }

  -- there is no room, and no block more may be used
  pub turned_full : {after chart : List (List ℕ)} → Looked es l g s notes after chart false → most ≤ blocks → most < (place block first_block l g).blocks
  turned_full F h = rw (place_full block first_block l g F.0) (omega (arith, T.looks.blocks_are))

  -- what is asked of the look with one block more
  pub look_more : {after chart : List (List ℕ)} → length after ≡ length notes → length chart ≡ length spots → Looked es l g s notes after chart false → blocks < most
      → Look es (grown l) trie after chart s (blocks + 1)
  look_more sn sc F h =
      record {
        state = record { stands = T.looks.state.stands; notes_room = omega (arith, T.looks.state.notes_room); inside = T.looks.state.inside };
        parent = T.looks.parent;
        charted = charted_grown F.1;
        good = grown_good alphabet l T.looks.good;
        blocks_are = omega (arith, T.looks.blocks_are);
        room = omega (arith, T.room);
        few = omega (arith, T.few);
      }

  lettered : Lettered alphabet g
  lettered = kid_letters T.looks.state.stands s g G

  -- the second look always finds an index
  pub second_finds : look block first_block (grown l) g ≡ none → ⊥
  second_finds e =
      let x = look_grown alphabet bytes first_block (window_reaches window_blocks (omega arith)) l g T.looks.good lettered in
      none-ne-some x.0 (sym e ∙ x.1)

  pub turned_more : {after chart after' chart' : List (List ℕ)} → Looked es l g s notes after chart false
      → Looked es (grown l) g s after after' chart' true → blocks < most → Turned es l g s notes after' chart' most (blocks + 1)
  turned_more {after} {chart} {after'} {chart'} F S h =
      let is = place_more block first_block l g S.0 F.0 S.1 in
      record {
        index = S.0;
        before = grown l;
        is = is;
        older = refl;
        blocks_are = rw is (omega (arith, T.looks.blocks_are));
        under = omega arith;
        at = subst (λ (x : List (List ℕ)). PlacedAt es (grown l) g s S.0 x after' chart') F.2 S.2;
      }
