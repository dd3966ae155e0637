-- The tables of a build agree with the accepted patterns: each reader finds in the cells what the layout has there.
use Rattle.std.specs.Prelude.{Option, Some, None, Result, Ok, Err}
use mathlib.Core.Path.{◌≡◌, refl, sym, ap, ◌∙◌, subst}
use mathlib.Core.Bool.{Bool, true, false}
use mathlib.Core.List.{List, ◌∷◌}
use mathlib.Core.Logic.{⊎_elim}
use Prim.Native.Nat.{ℕ, ◌*◌, ◌-◌, ◌≤◌, ◌<◌}
use native.Mathlib.Omega.{arith}
use lib.Bits.{bit_xor}
use lib.ListN.{length, get_or, replicate, length-append, length-map}
use Rattle.zeros.specs.Rows.{zeros}
use Rattle.paper.specs.Lists.{snoc}
use Rattle.paper.specs.Patterns.{Entry, Kind, Proper}
use Rattle.paper.specs.Automaton.{Machine, machine, is_state, link, failure, output}
use Rattle.paper.proofs.Tests.{clash}
use Rattle.paper.proofs.Strings.{by_snoc}
use Rattle.paper.proofs.Links.{Lawful, ruled, link_cases, failure_shorter, failure_is_state}
use Rattle.paper.proofs.Machines.{lawful}
use Rattle.list.specs.Limits.{alphabet, block, most_bytes}
use Rattle.plan.specs.Breadth.{Bounded, Within}
use Rattle.plan.specs.Outputs.{Stored}
use Rattle.plan.specs.Placement.{Layout, base_of, Reaches}
use Rattle.plan.specs.Placement as placing
use Rattle.plan.specs.Cells.{Cell, link_cell, check_of, cell_at, cells, Full}
use Rattle.plan.proofs.Machines.{machine_bounded}
use Rattle.plan.proofs.Owners.{groups_full, probe_within, cell_once, dead_free, cell_within}
use Rattle.plan.proofs.Owners as owners
use Rattle.plan.proofs.Cells.{probe_exact, cell_check, child_check, state_cell_lem, dead_cell, cells_length, cells_at}
use Rattle.spots.proofs.Charting.{bytes}
use Rattle.placement.specs.Laid.{first_block}
use Rattle.cells.specs.Columns.{column}
use Rattle.outputs.specs.Rows.{out_row, out_rows}
use Rattle.outputs.specs.Placed.{all_stored}
use Rattle.outputs.specs.Claims.{RowsChained, StoredClaims}
use Rattle.outputs.proofs.Claims.{tells_chained}
use Rattle.outputs.proofs.Claims as outputting
use Rattle.table.specs.Readers.{there}
use Rattle.table.specs.Claims.{ChildAt}
use Rattle.table.specs.Agrees.{Tables, probe_in, link_in, place_in, state_cell, target_of, ChainOf, Rooms, Agrees}
use Rattle.table.specs.declared.CellId.{CellId}
use Rattle.table.specs.declared.Damage.{Damage}
use Rattle.table.proofs.Claims.{claims}
use Rattle.table.proofs.Agrees.{cell_root, cell_child}
use Rattle.whole.specs.CellRules.{nowhere}
use Rattle.whole.specs.Whole.{cell_count, layout_of, Slots, Enough, tables_with, tables_of}
use Rattle.whole.proofs.Slots.{column_length, column_at_lem, column_there}
use Rattle.whole.proofs.Chains.{chain_filled, told_state}

module _ (kind : Kind) (es : List Entry) (values : List ℕ) (n : Slots) (P : Proper es) (W : Within alphabet most_bytes es)
    (l : Layout) (F : Full alphabet (is_state es) l) (E : Enough (l.blocks * block) (length es) n) where
  abbrev M : Machine
  M = machine kind es

  abbrev S : List ℕ → Bool
  S = is_state es

  abbrev stored : Stored
  stored = all_stored kind es

  abbrev cs : List Cell
  cs = cells block l (link M) stored.place

  abbrev T : Tables
  T = tables_with cs (l.blocks * block) (out_rows values stored.outs) (length es) n

  bounded : Bounded alphabet most_bytes S
  bounded = machine_bounded alphabet most_bytes es W

  laws : Lawful M
  laws = lawful kind es P

  -- ---- what stands in a slot

  count : length cs ≡ l.blocks * block
  count = cells_length block l (link M) stored.place

  slot : (part : Cell → ℕ) (slots j : ℕ) → j < l.blocks * block
      → get_or (column part cs slots) j 0 ≡ part (cell_at block l (link M) stored.place j)
  slot part slots j h =
      column_at_lem part cs slots nowhere j (rw count h) ∙ ap part (cells_at block l (link M) stored.place j nowhere h)

  inside : (s : List ℕ) → S s ≡ true → placing.cell_of l s < l.blocks * block
  inside s h = cell_within alphabet most_bytes bytes S bounded l F s h

  -- what the cell of a state holds
  abbrev state_fields : List ℕ → Cell
  state_fields s =
      record {
        base = base_of l s;
        link = link_cell l (link M s);
        output = stored.place s;
        check = check_of block l (placing.cell_of l s);
        depth = length s;
      }

  at_state : (part : Cell → ℕ) (slots : ℕ) (s : List ℕ) → S s ≡ true → get_or (column part cs slots) (placing.cell_of l s) 0 ≡ part (state_fields s)
  at_state part slots s h =
      slot part slots (placing.cell_of l s) (inside s h)
      ∙ ap part (state_cell_lem alphabet most_bytes bytes S bounded l F (link M) stored.place (ruled M laws).root s h)

  there_at : (part : Cell → ℕ) (slots j : ℕ) → l.blocks * block ≤ slots → j < l.blocks * block
      → there (l.blocks * block) (length (column part cs slots)) j ≡ true
  there_at part slots j h k = column_there part cs slots (l.blocks * block) j count h k

  long : (part : Cell → ℕ) (slots : ℕ) → l.blocks * block ≤ slots → l.blocks * block ≤ length (column part cs slots)
  long part slots h = rw (column_length part cs slots (rw count h)) h

  -- ---- a state's cell is the one that the bases lead to

  same_cell : (s : List ℕ) → S s ≡ true → state_cell T s ≡ placing.cell_of l s
  same_cell =
      by_snoc (λ (w : List ℕ). S w ≡ true → state_cell T w ≡ placing.cell_of l w) (λ _. cell_root T ∙ sym (owners.cell_root l))
      (λ w c ih h.
      let k = bounded.closed w c h in
      cell_child T w c
      ∙ ap (λ (b : ℕ). bit_xor b c) (ap (λ (j : ℕ). get_or T.base j 0) (ih k) ∙ at_state (λ x. x.base) n.base w k)
      ∙ sym (owners.cell_child l w c))

  read : (part : Cell → ℕ) (slots : ℕ) (s : List ℕ) → S s ≡ true → get_or (column part cs slots) (state_cell T s) 0 ≡ part (state_fields s)
  read part slots s h = ap (λ (j : ℕ). get_or (column part cs slots) j 0) (same_cell s h) ∙ at_state part slots s h

  within : (s : List ℕ) → S s ≡ true → state_cell T s < l.blocks * block
  within s h = rw (same_cell s h) (inside s h)

  base_is : (s : List ℕ) → S s ≡ true → get_or T.base (state_cell T s) 0 ≡ base_of l s
  base_is s h = read (λ x. x.base) n.base s h

  -- ---- probes

  check_is : (j : ℕ) → j < l.blocks * block → get_or T.check j 0 ≡ check_of block l j
  check_is j h = slot (λ x. x.check) n.check j h ∙ cell_check block l (link M) stored.place j

  finds : (s : List ℕ) (c : ℕ) → S (snoc s c) ≡ true → probe_in T (state_cell T s) c ≡ Ok (Some (record { 0 = state_cell T (snoc s c) }))
  finds s c h =
      let k = bounded.closed s c h in
      (claims.finds T.base T.check T.cells (state_cell T s) c (state_cell T (snoc s c))).1
      (record {
        state = there_at (λ x. x.base) n.base (state_cell T s) E.base_room (within s k);
        parent = λ z. ((probe_exact alphabet most_bytes bytes S bounded l F s c).1 h).0 (sym (base_is s k) ∙ z);
        target = cell_child T s c;
        cell = there_at (λ x. x.check) n.check (state_cell T (snoc s c)) E.check_room (within (snoc s c) h);
        byte = read (λ x. x.check) n.check (snoc s c) h ∙ child_check alphabet most_bytes bytes S bounded l F s c h;
      })

  -- the base xor a byte is a cell
  target_within : (s : List ℕ) (c : ℕ) → S s ≡ true → c < alphabet → (get_or T.base (state_cell T s) 0 ≡ 0 → ⊥)
      → bit_xor (get_or T.base (state_cell T s) 0) c < l.blocks * block
  target_within s c h b z =
      rw (base_is s h) (probe_within alphabet most_bytes bytes S bounded l F s c (λ e. z (base_is s h ∙ e)) b)

  -- what a probe finds is a child
  found_child : (s : List ℕ) (c t : ℕ) → S s ≡ true → c < alphabet → ChildAt T.base T.check T.cells (state_cell T s) c t
      → S (snoc s c) ≡ true
  found_child s c t h b C =
      let at : t ≡ bit_xor (base_of l s) c = C.target ∙ ap (λ (i : ℕ). bit_xor i c) (base_is s h) in
      let low : t < l.blocks * block = rw C.target (target_within s c h b C.parent) in
      let byte : check_of block l t ≡ c = sym (check_is t low) ∙ C.byte in
      (probe_exact alphabet most_bytes bytes S bounded l F s c).0 (λ z. C.parent (base_is s h ∙ z), rw (← at) byte)

  finds_none : (s : List ℕ) (c : ℕ) → S s ≡ true → c < alphabet → S (snoc s c) ≡ false → probe_in T (state_cell T s) c ≡ Ok None
  finds_none s c h b k = go (probe_in T (state_cell T s) c) refl
    where
      go : (r : Result (Option CellId) Damage) → probe_in T (state_cell T s) c ≡ r → probe_in T (state_cell T s) c ≡ Ok None
      go (Ok (Some t)) e =
          clash (found_child s c t.0 h b ((claims.finds T.base T.check T.cells (state_cell T s) c t.0).0 e)) k
      go (Ok None) e = e
      go (Err d) e =
          ⊎_elim (λ z. clash (there_at (λ x. x.base) n.base (state_cell T s) E.base_room (within s h)) z)
          (λ z. clash
          (there_at (λ x. x.check) n.check (bit_xor (get_or T.base (state_cell T s) 0) c) E.check_room (target_within s c h b z.0))
          z.1)
          ((claims.damaged T.base T.check T.cells (state_cell T s) c).0 e)

  -- ---- links

  two : 2 ≤ l.blocks * block
  two = omega (arith, F.good.some_block)

  dead_depth : get_or T.depth 1 0 ≡ 0
  dead_depth =
      slot (λ x. x.depth) n.depth 1 (omega (arith, two))
      ∙ ap (λ (x : Cell). x.depth) (dead_cell alphabet most_bytes bytes S bounded l F (link M) stored.place)

  -- a state that is not root leads to a cell of smaller depth, if that is where its link goes
  leads : (s : List ℕ) (t : ℕ) → S s ≡ true → t ≡ link_cell l (link M s) → t < l.blocks * block → get_or T.depth t 0 < length s
      → link_in T (state_cell T s) ≡ Ok (record { 0 = t })
  leads s t h e k d =
      (claims.leads T.link T.depth T.cells (state_cell T s) t).1
      (record {
        linking = there_at (λ x. x.link) n.link (state_cell T s) E.link_room (within s h);
        state = there_at (λ x. x.depth) n.depth (state_cell T s) E.depth_room (within s h);
        target = e ∙ sym (read (λ x. x.link) n.link s h);
        cell = there_at (λ x. x.depth) n.depth t E.depth_room k;
        falls = rw (read (λ x. x.depth) n.depth s h) d;
      })

  follows : (x : ℕ) (xs : List ℕ) → S (x ∷ xs) ≡ true
      → link_in T (state_cell T (x ∷ xs)) ≡ Ok (record { 0 = target_of T (link M (x ∷ xs)) })
  follows x xs h =
      link_cases M laws (x ∷ xs)
      (λ _ e. rw e (leads (x ∷ xs) 1 h (rw e refl) (omega (arith, two)) (omega (arith, dead_depth))))
      (λ _ e.
      let r : List ℕ = failure S (x ∷ xs) in
      let k = failure_is_state M laws (x ∷ xs) in
      rw e
      (leads (x ∷ xs) (state_cell T r) h (rw e (same_cell r k)) (within r k)
      (omega (arith, read (λ y. y.depth) n.depth r k, failure_shorter M laws x xs))))

  -- ---- outputs

  kept : StoredClaims kind es
  kept = (outputting.claims).stored kind es P W

  outs_long : length es ≤ length T.outs
  outs_long =
      omega (
        arith,
        length-append (out_rows values stored.outs) (replicate (n.outs - length es) (zeros 3)),
        length-map stored.outs (out_row values),
        kept.counted,
      )

  chains : (s : List ℕ) → S s ≡ true → ChainOf T values (place_in T (state_cell T s)) (output M s)
  chains s h =
      told_state T values outs_long (state_cell T s) (output M s)
      (there_at (λ x. x.output) n.output (state_cell T s) E.output_room (within s h))
      (chain_filled kind es (length s) s)
      (rw (read (λ x. x.output) n.output s h)
      (subst (λ (k : ℕ). RowsChained values T.outs k (stored.place s) (output M s)) kept.counted
      (tells_chained values stored.outs (replicate (n.outs - length es) (zeros 3)) (stored.place s) (output M s) (kept.chained s h))))

  -- ---- all of it

  rooms : Rooms T
  rooms =
      record {
        base_room = long (λ x. x.base) n.base E.base_room;
        link_room = long (λ x. x.link) n.link E.link_room;
        output_room = long (λ x. x.output) n.output E.output_room;
        check_room = long (λ x. x.check) n.check E.check_room;
        depth_room = long (λ x. x.depth) n.depth E.depth_room;
        outs_room = outs_long;
      }

  laid_agrees : Agrees T kind es values
  laid_agrees =
      record {
        two = two;
        counted = refl;
        rooms = rooms;
        inside = within;
        apart = λ s t h k e. cell_once alphabet most_bytes bytes S bounded l F s t h k (sym (same_cell s h) ∙ e ∙ same_cell t k);
        living = λ s h e. dead_free alphabet most_bytes bytes S bounded l F s h (sym (same_cell s h) ∙ e);
        child = finds;
        childless = finds_none;
        links = follows;
        depths = λ s h. read (λ x. x.depth) n.depth s h;
        outputs = chains;
      }

-- the range of a look has the last block
pub reaches : Reaches first_block
reaches b = omega arith

pub agrees : (kind : Kind) (es : List Entry) (values : List ℕ) (n : Slots) → Proper es → Within alphabet most_bytes es
    → Enough (cell_count es) (length es) n → Agrees (tables_of kind es values n) kind es values
agrees kind es values n P W E =
    laid_agrees kind es values n P W (layout_of es)
    (groups_full alphabet most_bytes bytes first_block reaches (is_state es) (machine_bounded alphabet most_bytes es W)) E
