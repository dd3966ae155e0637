-- A column after the states' cells were written is one part of the layout's cells: by who sits where.
use mathlib.Core.Path.{◌≡◌, refl, sym, ap, ◌∙◌, subst}
use mathlib.Core.List.{List, []}
use mathlib.Core.Option.{Option, none, some, none-ne-some}
use Prim.Native.Nat.{ℕ, ◌*◌, ◌≤◌, ◌<◌}
use native.Mathlib.Omega.{arith}
use lib.ListN.{length, get_or}
use Rattle.paper.specs.Patterns.{Entry}
use Rattle.paper.specs.Automaton.{is_state, Link}
use Rattle.list.specs.Limits.{alphabet, block, most_bytes}
use Rattle.plan.specs.Names.{names}
use Rattle.plan.specs.Placement.{Layout, cell_of, owner_of}
use Rattle.plan.specs.Cells.{Cell, cell_at, cells}
use Rattle.plan.proofs.Owners.{owner_state, state_owner}
use Rattle.plan.proofs.Cells.{cells_length, cells_at}
use Rattle.trie.specs.Trie.{slots_of}
use Rattle.links.specs.Linked.{Named}
use Rattle.links.proofs.States.{number}
use Rattle.cells.specs.Columns.{column, Writable, Blank, Blanks}
use Rattle.cells.specs.Writing.{seat_of, Inside, seated}
use Rattle.cells.proofs.Seating.{seated_length, seated_else, seated_at}
use Rattle.cells.proofs.States.{bytes, bounded, named, named_state, below_states, seat_is, seat_inside, seat_once}
use Rattle.cells.proofs.Slots.{column_by_slots, blank_slot}

-- the cell that stands for none
nowhere : Cell
nowhere = record { base = 0; link = 0; output = 0; check = 0; depth = 0 }

module _ {es : List Entry} {l : Layout} {link_of : List ℕ → Link} {place_of : List ℕ → ℕ} {trie notes spots : List (List ℕ)} {states blocks : ℕ}
    (W : Writable es l link_of place_of trie notes spots states blocks) where
  abbrev ns : List (List ℕ)
  ns = names alphabet es

  abbrev pub at : ℕ → Cell
  at j = cell_at block l link_of place_of j

  -- ---- who sits where

  -- a cell with an owner is the cell of its number
  pub owned : (j : ℕ) (s : List ℕ) → owner_of l j ≡ some s → (k : ℕ) × Named ns k s × (seat_of notes k ≡ j)
  owned j s e =
      let r = owner_state alphabet most_bytes bytes (is_state es) (bounded W) l W.full j s e in
      let n = number es (slots_of trie) W.stands.trie (bounded W) s r.0 in
      (n.0, n.1, seat_is W n.1 ∙ r.1)

  -- one without is no state's
  unowned : (j : ℕ) → owner_of l j ≡ none → (k : ℕ) → k < states → (k ≡ 1 → ⊥) → seat_of notes k ≡ j → ⊥
  unowned j e k h z q =
      let N = named W k h z in
      none-ne-some (get_or ns k [])
      (sym e ∙ ap (owner_of l) (sym q ∙ seat_is W N)
      ∙ state_owner alphabet most_bytes bytes (is_state es) (bounded W) l W.full (get_or ns k []) (named_state W N))

  -- every state's cell is inside blank columns
  pub inside : {base link output check depth : List ℕ} → Blanks base link output check depth (blocks * block) → (k : ℕ) → k < states
      → (k ≡ 1 → ⊥) → Inside (length base) (length link) (length output) (length check) (length depth) (seat_of notes k)
  inside B k h z =
      let i = seat_inside W (named W k h z) in
      record {
        base_slot = omega (arith, i, B.base_blank.room);
        link_slot = omega (arith, i, B.link_blank.room);
        output_slot = omega (arith, i, B.output_blank.room);
        check_slot = omega (arith, i, B.check_blank.room);
        depth_slot = omega (arith, i, B.depth_blank.room);
      }

  -- a column is the part of the cells that its slots hold, with 0 past them
  pub as_column : (part : Cell → ℕ) (xs : List ℕ) (slots : ℕ) → length xs ≡ slots → blocks * block ≤ slots
      → ((j : ℕ) → j < blocks * block → get_or xs j 0 ≡ part (at j)) → ((j : ℕ) → blocks * block ≤ j → get_or xs j 0 ≡ 0)
      → xs ≡ column part (cells block l link_of place_of) slots
  as_column part xs slots long room here past =
      column_by_slots part (cells block l link_of place_of) nowhere xs slots long (omega (arith, count))
      (λ j h. let b : j < l.blocks * block = omega (arith, cells_length block l link_of place_of) in
      here j (omega (arith, count)) ∙ sym (ap part (cells_at block l link_of place_of j nowhere b)))
      (λ j h. past j (omega (arith, count)))
    where
      count : length (cells block l link_of place_of) ≡ blocks * block
      count = cells_length block l link_of place_of ∙ ap (λ (n : ℕ). n * block) (sym W.blocks_are)

  -- ---- a column after the states

  module _ (value : ℕ → ℕ) {column₀ : List ℕ} (B : Blank column₀ (blocks * block)) where
    abbrev seats : List ℕ
    seats = seated states (seat_of notes) value column₀

    -- where a state sits stands its value
    pub slot_of : (k j : ℕ) (s : List ℕ) → Named ns k s → seat_of notes k ≡ j → get_or seats j 0 ≡ value k
    slot_of k j s N e =
        subst (λ (i : ℕ). get_or seats i 0 ≡ value k) e
        (seated_at (seat_of notes) value column₀ states k (below_states W N) N.apart (omega (arith, seat_inside W N, B.room))
        (λ i h z q. seat_once W (named W i h z) N q))

    -- and else nothing
    no_slot : (j : ℕ) → ((k : ℕ) → k < states → (k ≡ 1 → ⊥) → seat_of notes k ≡ j → ⊥) → get_or seats j 0 ≡ 0
    no_slot j h = seated_else (seat_of notes) value column₀ states j h ∙ blank_slot B j

    pub past_slot : (j : ℕ) → blocks * block ≤ j → get_or seats j 0 ≡ 0
    past_slot j p = no_slot j (λ k h z e. omega (arith, seat_inside W (named W k h z)))

    -- so it is the part of the cells that the values are, if that is 0 of a cell without owner
    pub column_is : (part : Cell → ℕ) → ((k : ℕ) (s : List ℕ) → Named ns k s → value k ≡ part (at (cell_of l s)))
        → ((j : ℕ) → owner_of l j ≡ none → part (at j) ≡ 0) → seats ≡ column part (cells block l link_of place_of) (length column₀)
    column_is part fits none_is =
        as_column part seats (length column₀) (seated_length (seat_of notes) value column₀ states) B.room
        (λ j h. go j (owner_of l j) refl) past_slot
      where
        go : (j : ℕ) (o : Option (List ℕ)) → owner_of l j ≡ o → get_or seats j 0 ≡ part (at j)
        go j none e = no_slot j (unowned j e) ∙ sym (none_is j e)
        go j (some s) e =
            let r = owned j s e in
            slot_of r.0 j s r.1 r.2 ∙ fits r.0 s r.1 ∙ ap (λ (i : ℕ). part (at i)) (sym (seat_is W r.1) ∙ r.2)
