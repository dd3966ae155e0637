-- `zeros::zero_all` leaves nothing but zeros: the law of a fill from the front.
use Rattle.std.proofs.Common.{arith}
use Rattle.zeros.proofs.Fill.{fill_next, fill_all}
use Rattle.zeros.proofs.zero_all.Goals as goal

pub loop-i-preserved : goal.loop-i-preserved
loop-i-preserved g c = fill_next g.T.Zero.zero _ _ _ _ _ c.loop-i.invariant (omega arith) (omega arith) c.zero.ensures

pub returns : goal.returns
returns g c = fill_all g.T.Zero.zero _ _ _ c.loop-i.invariant (omega arith)
