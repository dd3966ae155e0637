-- `phases` calls the phases in their order, each on what the ones before have left; a refusal has its cause, and none before it has.
use mathlib.Core.Path.{◌≡◌, refl, ap, ◌∙◌}
use Prim.Native.Nat.{ℕ}
use native.Mathlib.Omega.{arith}
use lib.ListN.{length}
use Rattle.std.proofs.lemmas.Result.{err_from_is_err_and}
use Rattle.list.specs.Kinds.{kind_of}
use Rattle.nfa.specs.Grown.{accepted_of, Grown}
use Rattle.list.specs.Limits.{smaller}
use Rattle.list.proofs.Slots.{smaller_left, smaller_right, min_smaller}
use Rattle.build.specs.Lot.{lot_of, slots_of, cell_slots}
use Rattle.build.specs.Phases.{blocks_in, Layable, LaidDown}
use Rattle.build.proofs.Counting.{Lying, lying}
use Rattle.build.proofs.Phasing.{counts_here, six, seven, eight, layable, fits, fillable}
use Rattle.build.proofs.phases.phases.Goals as goal
use Rattle.build.proofs.phases.phases.Goals.{After-cell_slots, After-min, After-most_blocks-most}

-- ---- what stands where
-- the cell slots are no more than any slice of cells
cells_under : (c : goal.After-cell_slots) → Lying (cell_slots (length c.args.spots.now) (length c.args.base.now) (length c.args.link.now) (length c.args.output.now) (length c.args.check.now) (length c.args.depth.now)) (length c.args.spots.now) (length c.args.base.now) (length c.args.link.now) (length c.args.output.now) (length c.args.check.now) (length c.args.depth.now)
cells_under c = lying (cell_slots (length c.args.spots.now) (length c.args.base.now) (length c.args.link.now) (length c.args.output.now) (length c.args.check.now) (length c.args.depth.now)) (length c.args.spots.now) (length c.args.base.now) (length c.args.link.now) (length c.args.output.now) (length c.args.check.now) (length c.args.depth.now) (omega arith)

-- the trie with its links
grown_here : (c : goal.After-cell_slots)
    → Grown c.args.sound.list.kind c.args.sound.list.bytes.now c.args.sound.list.ends.now (smaller (length c.args.trie.now) (length c.args.notes.now))
    c.grow.new.trie c.grow.new.owns c.grow.new.notes c.in_ok-grown.grown.states c.in_ok-grown.grown.accepted
grown_here c = c.in_ok-grown.ensures.grown

-- the blocks that may be used
most_is : (c : goal.After-most_blocks-most) → c.most_blocks-most.result ≡ blocks_in (cell_slots (length c.args.spots.now) (length c.args.base.now) (length c.args.link.now) (length c.args.output.now) (length c.args.check.now) (length c.args.depth.now))
most_is c = c.most_blocks-most.ensures ∙ ap blocks_in c.cell_slots.ensures

layable_here : (c : goal.After-most_blocks-most)
    → Grown c.args.sound.list.kind c.args.sound.list.bytes.now c.args.sound.list.ends.now (smaller (length c.args.trie.now) (length c.args.notes.now)) c.grow.new.trie c.grow.new.owns c.grow.new.notes c.in_ok-grown.grown.states c.in_ok-grown.grown.accepted
    → Lying (cell_slots (length c.args.spots.now) (length c.args.base.now) (length c.args.link.now) (length c.args.output.now) (length c.args.check.now) (length c.args.depth.now)) (length c.args.spots.now) (length c.args.base.now) (length c.args.link.now) (length c.args.output.now) (length c.args.check.now) (length c.args.depth.now)
    → Layable (accepted_of c.args.sound.list.kind c.args.sound.list.bytes.now c.args.sound.list.ends.now) c.grow.new.trie (length c.grow.new.notes) c.args.spots.now c.most_blocks-most.result
layable_here c g U = layable c.args.sound.sound g _ (cell_slots (length c.args.spots.now) (length c.args.base.now) (length c.args.link.now) (length c.args.output.now) (length c.args.check.now) (length c.args.depth.now)) _ c.requires.spots_blank (most_is c) U.in_spots

laid_here : (c : goal.After-min)
    → Layable (accepted_of c.args.sound.list.kind c.args.sound.list.bytes.now c.args.sound.list.ends.now) c.grow.new.trie (length c.grow.new.notes) c.args.spots.now c.most_blocks-most.result
    → LaidDown (accepted_of c.args.sound.list.kind c.args.sound.list.bytes.now c.args.sound.list.ends.now) c.grow.new.notes c.lay_out.new.notes c.lay_out.new.spots c.most_blocks-most.result c.in_ok-blocks.blocks
laid_here c L = c.in_ok-blocks.ensures (accepted_of c.args.sound.list.kind c.args.sound.list.bytes.now c.args.sound.list.ends.now) L

-- the output slots
outputs_are : (c : goal.After-min) → c.min.result ≡ smaller (length c.args.owns.now) (length c.args.outs.now)
outputs_are c = c.min.ensures ∙ min_smaller _ _ ∙ ap (λ (n : ℕ). smaller n (length c.args.outs.now)) c.grow.auto.owns

pub returns-in_err-grown : goal.returns-in_err-grown
returns-in_err-grown c =
    let p = err_from_is_err_and c.from_residual.result c.from_residual.ensures.1 in
    rw (p.1, p.2) (6, refl, six _ _ c.in_err-grown.ensures.grown)

pub returns-in_err-blocks : goal.returns-in_err-blocks
returns-in_err-blocks c =
    let g = grown_here (goal.at.returns-in_err-blocks c).After-cell_slots in
    let U = cells_under (goal.at.returns-in_err-blocks c).After-cell_slots in
    let L = layable_here (goal.at.returns-in_err-blocks c).After-most_blocks-most g U in
    let p = err_from_is_err_and c.from_residual-in_err-blocks.result c.from_residual-in_err-blocks.ensures.1 in
    rw (p.1, p.2) (
      7,
      refl,
      seven c.args.sound.sound g _ _ refl (most_is (goal.at.returns-in_err-blocks c).After-most_blocks-most)
          (c.in_err-blocks.ensures (accepted_of c.args.sound.list.kind c.args.sound.list.bytes.now c.args.sound.list.ends.now) L),
    )

pub returns-then-min-grown : goal.returns-then-min-grown
returns-then-min-grown c =
    let g = grown_here (goal.at.returns-then-min-grown c).After-cell_slots in
    let U = cells_under (goal.at.returns-then-min-grown c).After-cell_slots in
    let L = layable_here (goal.at.returns-then-min-grown c).After-most_blocks-most g U in
    let D = laid_here (goal.at.returns-then-min-grown c).After-min L in
    (8, refl, eight c.args.sound.sound g D _ refl (most_is (goal.at.returns-then-min-grown c).After-most_blocks-most) (omega (arith, outputs_are (goal.at.returns-then-min-grown c).After-min, c.if-min-grown.true)))

pub fill-accepted-requires : goal.fill-accepted-requires
fill-accepted-requires c =
    let a = c.args in
    let g = grown_here (goal.at.fill-accepted-requires c).After-cell_slots in
    let U = cells_under (goal.at.fill-accepted-requires c).After-cell_slots in
    let L = layable_here (goal.at.fill-accepted-requires c).After-most_blocks-most g U in
    let D = laid_here (goal.at.fill-accepted-requires c).After-min L in
    let x = length a.owns.now in
    let y = length a.outs.now in
    let o = outputs_are (goal.at.fill-accepted-requires c).After-min in
    let S = slots_of (lot_of a.trie.now a.owns.now a.notes.now a.spots.now a.base.now a.link.now a.output.now a.check.now a.depth.now a.outs.now) in
    record {
      kind = kind_of a.sound.list.kind;
      es = (accepted_of c.args.sound.list.kind c.args.sound.list.bytes.now c.args.sound.list.ends.now);
      fillable = fillable c.args.sound.sound g D S refl (most_is (goal.at.fill-accepted-requires c).After-most_blocks-most)
          c.grow.ensures.letters c.lay_out.auto.notes (omega (arith, U.in_spots, c.lay_out.auto.spots))
          U.columns.in_base U.columns.in_link U.columns.in_output U.columns.in_check U.columns.in_depth
          c.requires.base_blank c.requires.link_blank c.requires.output_blank c.requires.check_blank c.requires.depth_blank c.requires.outs_blank
          (omega (arith, o, c.if-min-grown.false, smaller_left x y, c.grow.auto.owns)) (omega (arith, o, c.if-min-grown.false, smaller_right x y));
    }

pub returns : goal.returns
returns c =
    let a = c.args in
    let g = grown_here (goal.at.returns c).After-cell_slots in
    let U = cells_under (goal.at.returns c).After-cell_slots in
    let L = layable_here (goal.at.returns c).After-most_blocks-most g U in
    let D = laid_here (goal.at.returns c).After-min L in
    let x = length a.owns.now in
    let y = length a.outs.now in
    let o = outputs_are (goal.at.returns c).After-min in
    let S = slots_of (lot_of a.trie.now a.owns.now a.notes.now a.spots.now a.base.now a.link.now a.output.now a.check.now a.depth.now a.outs.now) in
    let F = c.fill-accepted.ensures _ _ (fillable c.args.sound.sound g D S refl (most_is (goal.at.returns c).After-most_blocks-most)
    c.grow.ensures.letters c.lay_out.auto.notes (omega (arith, U.in_spots, c.lay_out.auto.spots))
    U.columns.in_base U.columns.in_link U.columns.in_output U.columns.in_check U.columns.in_depth
    c.requires.base_blank c.requires.link_blank c.requires.output_blank c.requires.check_blank c.requires.depth_blank c.requires.outs_blank
    (omega (arith, o, c.if-min-grown.false, smaller_left x y, c.grow.auto.owns)) (omega (arith, o, c.if-min-grown.false, smaller_right x y))) in
    record {
      fits = fits c.args.sound.sound g D S refl (most_is (goal.at.returns c).After-most_blocks-most) (omega (arith, o, c.if-min-grown.false));
      counts_are = counts_here _ F.count_is g.made.states_are D.blocks_are;
      filled = record { count_is = F.count_is; columns = F.columns; rows = F.rows };
    }
