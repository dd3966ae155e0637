-- `zeros::zero_all` leaves nothing but zeros: the law of a fill from the front.
use Rattle.zeros.proofs.Fill.{Filled}
use Rattle.zeros.proofs.zero_all.Given as goal

abbrev pub invariant-loop-i : goal.invariant-loop-i
invariant-loop-i g l = Filled g.T.Zero.zero l.initial.slots l.i l.slots
