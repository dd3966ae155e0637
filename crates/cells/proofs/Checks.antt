-- The check column, and with it the whole: the five columns are those of the layout's cells.
use mathlib.Core.Path.{◌≡◌, refl, sym, ap, ◌∙◌, subst}
use mathlib.Core.Bool.{Bool, true, false}
use mathlib.Core.List.{List}
use mathlib.Core.Option.{none, some}
use Prim.Native.Nat.{ℕ, zero, suc, ◌+◌, ◌*◌, ◌/◌, ◌≤◌, ◌<◌}
use native.Mathlib.Decide.{dec_lt}
use native.Mathlib.Omega.{arith}
use lib.Bits.{bit_xor, xor_zero_l}
use lib.ListN.{length, get_or}
use Rattle.paper.specs.Lists.{snoc}
use Rattle.paper.specs.Patterns.{Entry}
use Rattle.paper.specs.Automaton.{is_state, Link}
use Rattle.std.proofs.lemmas.Bool.{not-false}
use Rattle.paper.proofs.Tests.{test, clash}
use Rattle.paper.proofs.Links.{Ended, none as nothing, last, ended}
use Rattle.list.specs.Limits.{alphabet, block, most_bytes}
use Rattle.plan.specs.Names.{names}
use Rattle.plan.specs.Placement.{Layout, taken_cell, vacant, first_where, base_of, cell_of, owner_of}
use Rattle.plan.specs.Cells.{unused_in, spare_check, check_of, Cell, link_cell, cell_at, cells}
use Rattle.plan.proofs.Blocks.{vacant_unused, block_zero}
use Rattle.plan.proofs.Owners.{cell_root, vacant_owner, taken_owner}
use Rattle.plan.proofs.Cells.{low_check, child_check, state_cell_lem, cell_check}
use Rattle.links.specs.Linked.{Named}
use Rattle.cells.specs.Columns.{column, Writable, Blank, Blanks, Written}
use Rattle.cells.specs.Writing.{seat_of, own_byte, seated, StatesWritten, is_spare, unused_from, BlocksSpared}
use Rattle.cells.proofs.Values.{low_spare, high_spare}
use Rattle.cells.proofs.States.{bytes, bounded, named_state, seat_is, base_is, target_is, output_is, byte_is, depth_is}
use Rattle.cells.proofs.Seats.{at, owned, as_column, slot_of, past_slot, column_is}

-- two tests that agree on a range find the same number
first_same : (p q : ℕ → Bool) (i n : ℕ) → ((j : ℕ) → i ≤ j → j < i + n → p j ≡ q j) → first_where p i n ≡ first_where q i n
unfolding first_where
first_same p q i zero h = refl
first_same p q i (suc n) h =
    rw (h i (omega arith) (omega arith), first_same p q (suc i) n (λ j a b. h j (omega arith) (omega arith)))

module _ {es : List Entry} {l : Layout} {link_of : List ℕ → Link} {place_of : List ℕ → ℕ} {trie notes spots : List (List ℕ)} {states blocks : ℕ}
    (W : Writable es l link_of place_of trie notes spots states blocks) where
  abbrev ns : List (List ℕ)
  ns = names alphabet es

  abbrev sitting : List ℕ → List ℕ
  sitting check₀ = seated states (seat_of notes) (own_byte trie) check₀

  -- ---- cells without a byte

  -- the chart's unused base of a block is the layout's
  unused_is : (k : ℕ) → k < blocks → unused_from spots (k * block) ≡ unused_in block l k
  unfolding unused_from unused_in
  unused_is k h = first_same _ _ (k * block) block (λ j a b. W.laid.charted.bases j (omega (arith, W.spots_room)))

  room : (j : ℕ) → j < blocks * block → j < length spots
  room j h = omega (arith, W.spots_room)

  vacant_spare : (j : ℕ) → vacant l j ≡ true → (u : ℕ) × (unused_in block l (j / block) ≡ some u) × (check_of block l j ≡ bit_xor u j)
  unfolding check_of spare_check
  vacant_spare j v =
      let r = vacant_unused block l bytes W.full.good j v in
      (r.0, r.1, rw (vacant_owner alphabet most_bytes bytes (is_state es) (bounded W) l W.full j v, r.1))

  -- its check leads to it from the unused base of its block
  spare_at : (j : ℕ) → j < blocks * block → is_spare spots j ≡ true
      → (u : ℕ) × (unused_in block l (j / block) ≡ some u) × (check_of block l j ≡ bit_xor u j)
  spare_at j h t =
      elim (dec_lt j 2) [
        | yes low ↦
            let q : j / block ≡ 0 = omega arith in (
              0,
              rw q (block_zero block l bytes W.full.good),
              low_check alphabet most_bytes bytes (is_state es) (bounded W) l W.full j (omega arith) ∙ sym (xor_zero_l j),
            )
        | no high ↦ vacant_spare j (sym (W.laid.charted.vacancy j (room j h)) ∙ sym (high_spare spots j (omega arith)) ∙ t)
      ]

  -- ---- cells with a byte

  module _ {check₀ : List ℕ} (B : Blank check₀ (blocks * block)) where
    child_at_lem : (j : ℕ) → (j ≡ 0 → ⊥) → (s : List ℕ) → owner_of l j ≡ some s → get_or (sitting check₀) j 0 ≡ check_of block l j
    child_at_lem j n s e = let r = owned W j s e in go (ended s) r.0 r.1 r.2
      where
        go : {w : List ℕ} → Ended w → (k : ℕ) → Named ns k w → seat_of notes k ≡ j → get_or (sitting check₀) j 0 ≡ check_of block l j
        go nothing k N q = absurd (n (sym q ∙ seat_is W N ∙ cell_root l))
        go (last u c) k N q =
            slot_of W (own_byte trie) B k j (snoc u c) N q
            ∙ byte_is W u c N
            ∙ sym (child_check alphabet most_bytes bytes (is_state es) (bounded W) l W.full u c (named_state W N))
            ∙ ap (check_of block l) (sym (seat_is W N) ∙ q)

    taken_at : (j : ℕ) → j < blocks * block → is_spare spots j ≡ false → get_or (sitting check₀) j 0 ≡ check_of block l j
    taken_at j h f =
        elim (dec_lt j 2) [
          | yes low ↦ clash (low_spare spots j low) f
          | no high ↦
              let t : taken_cell l j ≡ true
              = not-false (taken_cell l j) (sym (W.laid.charted.vacancy j (room j h)) ∙ sym (high_spare spots j (omega arith)) ∙ f) in
              let r = taken_owner alphabet most_bytes bytes (is_state es) (bounded W) l W.full j t (λ e. omega arith) in
              child_at_lem j (λ e. omega arith) r.0 r.1
        ]

    -- ---- the column

    module _ {check : List ℕ} (C : BlocksSpared spots blocks (sitting check₀) check) (long : length check ≡ length check₀) where
      check_at : (j : ℕ) → j < blocks * block → get_or check j 0 ≡ check_of block l j
      check_at j h =
          test (is_spare spots j)
          (λ t. let r = spare_at j h t in
          C.spare (j / block) j r.0 (omega arith) (omega arith) (omega arith) t (unused_is (j / block) (omega arith) ∙ r.1)
          ∙ sym r.2)
          (λ f. C.kept j (λ a t. clash t f) ∙ taken_at j h f)

      check_past : (j : ℕ) → blocks * block ≤ j → get_or check j 0 ≡ 0
      check_past j h = C.kept j (λ a. absurd (omega arith)) ∙ past_slot W (own_byte trie) B j h

      checks_are : check ≡ column (λ x. x.check) (cells block l link_of place_of) (length check₀)
      checks_are =
          as_column W (λ x. x.check) check (length check₀) long B.room
          (λ j h. check_at j h ∙ sym (cell_check block l link_of place_of j)) check_past

  -- ---- the whole

  -- a cell without owner has nothing but a check
  no_cell : (j : ℕ) → owner_of l j ≡ none
      → at W j ≡ record { base = 0; link = 0; output = 0; check = check_of block l j; depth = 0 }
  unfolding cell_at
  no_cell j e = rw e

  -- a state's has its five numbers
  cell : (k : ℕ) (s : List ℕ) → Named ns k s
      → at W (cell_of l s)
      ≡ record {
        base = base_of l s;
        link = link_cell l (link_of s);
        output = place_of s;
        check = check_of block l (cell_of l s);
        depth = length s;
      }
  cell k s N = state_cell_lem alphabet most_bytes bytes (is_state es) (bounded W) l W.full link_of place_of W.link_root s (named_state W N)

  module _ {base₀ link₀ output₀ check₀ depth₀ base link output between check depth : List ℕ}
      (B : Blanks base₀ link₀ output₀ check₀ depth₀ (blocks * block))
      (T : StatesWritten trie notes states base₀ link₀ output₀ check₀ depth₀ base link output between depth)
      (C : BlocksSpared spots blocks between check) (long : length check ≡ length check₀) where
    pub written : Written (cells block l link_of place_of) base link output check depth
        (length base₀) (length link₀) (length output₀) (length check₀) (length depth₀)
    written =
        record {
          bases = T.bases
              ∙ column_is W _ B.base_blank (λ x. x.base) (λ k s N. base_is W N ∙ sym (ap (λ (x : Cell). x.base) (cell k s N)))
              (λ j e. ap (λ (x : Cell). x.base) (no_cell j e));
          links = T.links
              ∙ column_is W _ B.link_blank (λ x. x.link) (λ k s N. target_is W N ∙ sym (ap (λ (x : Cell). x.link) (cell k s N)))
              (λ j e. ap (λ (x : Cell). x.link) (no_cell j e));
          outputs = T.outputs
              ∙ column_is W _ B.output_blank (λ x. x.output) (λ k s N. output_is W N ∙ sym (ap (λ (x : Cell). x.output) (cell k s N)))
              (λ j e. ap (λ (x : Cell). x.output) (no_cell j e));
          checks = checks_are B.check_blank (subst (λ (c : List ℕ). BlocksSpared spots blocks c check) T.checks C) long;
          depths = T.depths
              ∙ column_is W _ B.depth_blank (λ x. x.depth) (λ k s N. depth_is W N ∙ sym (ap (λ (x : Cell). x.depth) (cell k s N)))
              (λ j e. ap (λ (x : Cell). x.depth) (no_cell j e));
        }
