-- `unused_base` scans the block.
use Rattle.spots.proofs.Hunting.{Scanned}
use Rattle.spots.proofs.unused_base.Given as goal

abbrev pub invariant-loop-b : goal.invariant-loop-b
invariant-loop-b l = Scanned l.spots l.from l.b-end l.b
