-- `write_spare` goes along the cells of a block.
use native.Mathlib.Omega.{arith}
use Rattle.cells.proofs.Sparing.{same_block}
use Rattle.cells.proofs.write_spare.Goals as goal

pub overflow_cast-check : goal.overflow_cast-check
overflow_cast-check c =
    let p = c.requires.0 in
    let l = c.loop-j in
    let small = same_block p.number c.args.unused l.j (omega (arith, p.whole, p.above)) (omega (arith, p.whole, p.below))
    (omega (arith, p.whole, l.invariant.0)) (omega (arith, p.whole, c.loop-j-test.true)) in
    omega (arith, small)
