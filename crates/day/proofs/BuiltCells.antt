-- The columns that a good build left hold the fields of the build's cells, so the rules of the cells are rules of the columns.
use Rattle.std.specs.Prelude.{Option, Some, None, Result, Ok}
use mathlib.Core.Path.{◌≡◌, sym, ap, ◌∙◌}
use mathlib.Core.Bool.{true, true≢false}
use mathlib.Core.List.{List, [], ◌∷◌}
use mathlib.Core.Logic.{◌↔◌}
use Prim.Native.Nat.{ℕ, ◌*◌, ◌≤◌, ◌<◌}
use native.Mathlib.Omega.{arith}
use lib.Bits.{bit_xor}
use lib.ListN.{length, get_or}
use lib.Seq.{ext_get_or}
use native.Mathlib.Nat.{zero-add}
use Rattle.paper.specs.Lists.{snoc, each}
use Rattle.paper.specs.Patterns.{Entry}
use Rattle.paper.specs.Automaton.{is_state}
use Rattle.std.proofs.lemmas.Bool.{false_from_ne_true}
use Rattle.paper.proofs.Tests.{test}
use Rattle.paper.proofs.Strings.{by_snoc}
use Rattle.list.specs.Limits.{alphabet, block, most_bytes}
use Rattle.list.specs.Kinds.{kind_of}
use Rattle.list.specs.Claims.{Bytes, Sound}
use Rattle.plan.specs.Placement.{Layout, vacant, used_base, base_of, cell_of}
use Rattle.plan.specs.Cells.{Cell, Smallest}
use Rattle.plan.specs.PlacementCases.{cell}
use Rattle.plan.proofs.Scans.{each_length, each_get}
use Rattle.plan.proofs.Machines.{machine_bounded}
use Rattle.nfa.specs.Grown.{accepted_of}
use Rattle.nfa.proofs.Accepted.{within, fit}
use Rattle.cells.specs.Columns.{column}
use Rattle.table.specs.Agrees.{Agrees, probe_in}
use Rattle.table.specs.declared.Counts.{Counts}
use Rattle.table.specs.declared.CellId.{CellId}
use Rattle.table.specs.declared.Damage.{Damage}
use Rattle.table.proofs.Agrees.{cell_root, cell_child}
use Rattle.table.proofs.Claims as readers
use Rattle.table.proofs.Inside.{there_yes}
use Rattle.whole.specs.Whole.{layout_of, cells_of}
use Rattle.whole.specs.CellRules.{nowhere, cell_held, check_alone, CellRules}
use Rattle.whole.specs.Refusing.{Lent}
use Rattle.whole.proofs.Slots.{column_at_lem}
use Rattle.whole.proofs.Claims as whole
use Rattle.wipe.specs.Wiped.{blank, blank_rows}
use Rattle.build.specs.Outcome.{Outcome, made, counts_of, outcome_of}
use Rattle.build.specs.Promise.{left, output_rows}
use Rattle.build.proofs.Claims.{good_told, answer_claims}
use Rattle.day.specs.EndToEnd.{GoodBuild, tables_left}
use Rattle.day.specs.BuiltCells.{IsState, cell_left, base_left, UsedLeft, SmallestLeft, VacantLeft, BlankLeft, BuiltCells, BuiltCellsClaims}
use Rattle.day.proofs.EndToEnd.{agrees}

-- what a good build leaves
good_left : {A : Type 0} {o : Outcome} {counts : Counts} (was zero good : A) {x : A} → made counts ≡ o → x ≡ left o was zero good → x ≡ good
good_left was zero good e f = f ∙ ap (λ o. left o was zero good) (sym e)

module _ {kind : ℕ} {bytes ends values : List ℕ} (b : GoodBuild kind bytes ends values) (B : Bytes bytes) where
  abbrev es : List Entry
  es = accepted_of kind bytes ends

  abbrev l : Layout
  l = layout_of es

  abbrev cs : List Cell
  cs = cells_of (kind_of kind) es

  -- ---- what was answered

  cause : (lent : Lent) → outcome_of kind bytes ends values lent ≡ made b.counts → Sound kind bytes ends values × (b.counts ≡ counts_of kind es)
  cause lent e = let C = good_told kind bytes ends values lent b.counts e in (C.0, same (sym e ∙ (answer_claims kind bytes ends values lent).good.1 C))
    where
      same : {c d : Counts} → made c ≡ made d → c ≡ d
      same e = cc

  answered : Sound kind bytes ends values × (b.counts ≡ counts_of kind es)
  answered = cause _ (sym b.promised.outcome_is ∙ sym b.promised.answered)

  cells_are : b.counts.cells ≡ l.blocks * block
  cells_are = ap (λ (c : Counts). c.cells) answered.1

  R : CellRules (kind_of kind) es
  R = (whole.claims).cell_rules (kind_of kind) es (fit answered.0) (within answered.0 B)

  A : Agrees (tables_left b) (kind_of kind) es values
  A = agrees b B

  closed : (s : List ℕ) (c : ℕ) → IsState b (snoc s c) → IsState b s
  closed = (machine_bounded alphabet most_bytes es (within answered.0 B)).closed

  -- ---- what stands in a slot

  slot : (part : Cell → ℕ) (col : List ℕ) (slots : ℕ) → col ≡ column part cs slots → (j : ℕ) → j < l.blocks * block
      → get_or col j 0 ≡ part (cell_held (kind_of kind) es j)
  slot part col slots e j h = ap (λ (c : List ℕ). get_or c j 0) e ∙ column_at_lem part cs slots nowhere j (rw R.blocks h)

  base_slot : (j : ℕ) → j < l.blocks * block → get_or b.exit.base j 0 ≡ (cell_held (kind_of kind) es j).base
  base_slot = slot (λ x. x.base) b.exit.base (length b.entry.base)
      (good_left b.entry.base (blank b.entry.base) (column (λ x. x.base) cs (length b.entry.base)) b.promised.answered b.promised.base_left_lem)

  link_slot : (j : ℕ) → j < l.blocks * block → get_or b.exit.link j 0 ≡ (cell_held (kind_of kind) es j).link
  link_slot = slot (λ x. x.link) b.exit.link (length b.entry.link)
      (good_left b.entry.link (blank b.entry.link) (column (λ x. x.link) cs (length b.entry.link)) b.promised.answered b.promised.link_left)

  output_slot : (j : ℕ) → j < l.blocks * block → get_or b.exit.output j 0 ≡ (cell_held (kind_of kind) es j).output
  output_slot = slot (λ x. x.output) b.exit.output (length b.entry.output)
      (good_left b.entry.output (blank b.entry.output) (column (λ x. x.output) cs (length b.entry.output)) b.promised.answered b.promised.output_left)

  check_slot : (j : ℕ) → j < l.blocks * block → get_or b.exit.check j 0 ≡ (cell_held (kind_of kind) es j).check
  check_slot = slot (λ x. x.check) b.exit.check (length b.entry.check)
      (good_left b.entry.check (blank b.entry.check) (column (λ x. x.check) cs (length b.entry.check)) b.promised.answered b.promised.check_left)

  depth_slot : (j : ℕ) → j < l.blocks * block → get_or b.exit.depth j 0 ≡ (cell_held (kind_of kind) es j).depth
  depth_slot = slot (λ x. x.depth) b.exit.depth (length b.entry.depth)
      (good_left b.entry.depth (blank b.entry.depth) (column (λ x. x.depth) cs (length b.entry.depth)) b.promised.answered b.promised.depth_left)

  -- the slots of a cell
  pub cell_left_lem : (j : ℕ) → j < l.blocks * block
      → cell (get_or b.exit.base j 0) (get_or b.exit.link j 0) (get_or b.exit.output j 0) (get_or b.exit.check j 0) (get_or b.exit.depth j 0)
      ≡ cell_held (kind_of kind) es j
  cell_left_lem j h =
      λ i. record { base = base_slot j h i; link = link_slot j h i; output = output_slot j h i; check = check_slot j h i; depth = depth_slot j h i }

  -- all cells, in their order
  pub cells_left : (n : ℕ) → l.blocks * block ≡ n
      → each 0 n
      (λ j. cell (get_or b.exit.base j 0) (get_or b.exit.link j 0) (get_or b.exit.output j 0) (get_or b.exit.check j 0) (get_or b.exit.depth j 0) ∷ [])
      ≡ cs
  cells_left n e =
      ext_get_or nowhere (each 0 n (λ j. f j ∷ [])) cs (each_length f 0 n ∙ sym e ∙ sym R.blocks)
      (λ j h.
      let k : j < n = omega (arith, each_length f 0 n) in
      each_get f 0 n j nowhere k ∙ ap f (zero-add j) ∙ cell_left_lem j (omega arith))
    where
      f : ℕ → Cell
      f j = cell (get_or b.exit.base j 0) (get_or b.exit.link j 0) (get_or b.exit.output j 0) (get_or b.exit.check j 0) (get_or b.exit.depth j 0)

  -- the rows of the outputs
  pub outs_left : b.exit.outs ≡ output_rows (kind_of kind) es values (length b.entry.outs)
  outs_left = good_left b.entry.outs (blank_rows 3 b.entry.outs) (output_rows (kind_of kind) es values (length b.entry.outs)) b.promised.answered b.promised.outs_left

  -- a cell with a check alone is blank
  blank_slot : (j : ℕ) → j < l.blocks * block → cell_held (kind_of kind) es j ≡ check_alone (cell_held (kind_of kind) es j).check → BlankLeft b j
  blank_slot j h e =
      record {
        base = base_slot j h ∙ ap (λ (x : Cell). x.base) e;
        link = link_slot j h ∙ ap (λ (x : Cell). x.link) e;
        output = output_slot j h ∙ ap (λ (x : Cell). x.output) e;
        depth = depth_slot j h ∙ ap (λ (x : Cell). x.depth) e;
      }

  -- ---- states, bases and cells are those of the layout

  base_by : (s : List ℕ) → IsState b s → cell_left b s ≡ cell_of l s → base_left b s ≡ base_of l s
  base_by s h e = ap (λ (j : ℕ). get_or b.exit.base j 0) e ∙ base_slot (cell_of l s) (R.inside s h) ∙ R.base s h

  same_cell : (s : List ℕ) → IsState b s → cell_left b s ≡ cell_of l s
  same_cell =
      by_snoc (λ (w : List ℕ). IsState b w → cell_left b w ≡ cell_of l w) (λ _. cell_root (tables_left b) ∙ sym R.root)
      (λ w c ih h.
      let k = closed w c h in
      cell_child (tables_left b) w c ∙ ap (λ (x : ℕ). bit_xor x c) (base_by w k (ih k)) ∙ sym (R.child w c))

  same_base : (s : List ℕ) → IsState b s → base_left b s ≡ base_of l s
  same_base s h = base_by s h (same_cell s h)

  used : (u : ℕ) → UsedLeft b u → used_base l u ≡ true
  used u U = (R.used u).1 (U.parent, U.byte, U.child, sym (same_base U.parent (closed U.parent U.byte U.child)) ∙ U.has)

  to_used : (u : ℕ) → used_base l u ≡ true → UsedLeft b u
  to_used u e =
      let r = (R.used u).0 e in
      record { parent = r.0; byte = r.1; child = r.2; has = same_base r.0 (closed r.0 r.1 r.2) ∙ r.3 }

  smallest : (k u : ℕ) → SmallestLeft b k u → Smallest block l k u
  smallest k u N =
      record {
        from = N.there.0;
        within = N.there.1;
        unused = false_from_ne_true (used_base l u) (λ e. N.unused (to_used u e));
        smallest = λ v h m. used v (N.smallest v (h, omega (arith, N.there.1)) m);
      }

  is_vacant : (j : ℕ) → VacantLeft b j → vacant l j ≡ true
  is_vacant j v = (R.vacancy j).1 (v.not_dead, λ s h e. v.not_state s h (same_cell s h ∙ e))

  there : (j : ℕ) → VacantLeft b j → j < l.blocks * block
  there j v = omega (arith, v.inside, cells_are)

  low : (j : ℕ) → j ≤ 1 → j < l.blocks * block
  low j h = omega (arith, R.some_block)

  -- ---- probes

  probe : (s : List ℕ) (c : ℕ) → IsState b s → c < alphabet
      → (probe_in (tables_left b) (cell_left b s) c ≡ Ok (Some (record { 0 = cell_left b (snoc s c) }))) ↔ IsState b (snoc s c)
  probe s c h k = (λ e. test (is_state es (snoc s c)) (λ t. t) (λ t. apart e (A.childless s c h k t)), A.child s c)
    where
      apart : {f : Result (Option CellId) Damage} → f ≡ Ok (Some (record { 0 = cell_left b (snoc s c) })) → f ≡ Ok None → IsState b (snoc s c)
      apart p q = cc

  -- ---- all of them

  rules : BuiltCells b
  rules =
      record {
        blocks = (l.blocks, R.some_block, cells_are);
        root = cell_root (tables_left b);
        root_alone = λ s h e. R.root_alone s h (sym (same_cell s h) ∙ e);
        dead_alone = A.living;
        inside = A.inside;
        apart = A.apart;
        nonzero = λ s c h z. R.nonzero s c h (sym (same_base s (closed s c h)) ∙ z);
        unshared = λ s t c h k e. R.unshared s t c h (sym (same_base s (closed s c h)) ∙ e ∙ same_base t k);
        child = cell_child (tables_left b);
        child_check = λ s c h.
            let at : bit_xor (base_left b s) c ≡ cell_of l (snoc s c) = sym (cell_child (tables_left b) s c) ∙ same_cell (snoc s c) h in
            ap (λ (j : ℕ). get_or b.exit.check j 0) at ∙ check_slot (cell_of l (snoc s c)) (R.inside (snoc s c) h) ∙ R.child_check s c h;
        childless = λ s h f. same_base s h ∙ R.childless s f;
        probe_fails = λ s c h z.
            (readers.claims).childless b.exit.base b.exit.check b.counts.cells (cell_left b s) c
            (sym (there_yes b.counts.cells (length b.exit.base) (cell_left b s) (A.inside s h) (omega (arith, A.inside s h, A.rooms.base_room)))) z;
        probe = probe;
        zero_unused = λ U. true≢false (sym (used 0 U) ∙ R.zero_unused);
        vacant_check = λ k u j N I v.
            rw (check_slot j (there j v)) (R.vacant_check k u (omega (arith, I.0, there j v)) (smallest k u N) j I (is_vacant j v));
        low_check = λ u j N h. rw (check_slot j (low j h)) (R.low_check u (smallest 0 u N) j h);
        filled = λ k j all I v. true≢false (sym (is_vacant j v) ∙ R.filled k (λ u h. used u (all u h)) j I);
        vacant_blank = λ j v. blank_slot j (there j v) (R.vacant_cell j (there j v) (is_vacant j v));
        dead_blank = blank_slot 1 (low 1 (omega arith)) R.dead_cell;
        depth = A.depths;
        placing = R.placing;
        placed = same_base;
        placed_blocks = cells_are;
      }

pub built_cells : BuiltCellsClaims
built_cells = record { built_cells = λ kind bytes ends values b B. rules b B }
