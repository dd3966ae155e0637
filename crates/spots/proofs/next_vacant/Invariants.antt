-- `next_vacant` passes one run after another, then notes the whole of it.
use Prim.Native.Nat.{◌-◌}
use Rattle.plan.specs.Placement.{Layout}
use Rattle.spots.specs.Charted.{Stretch}
use Rattle.spots.proofs.Passing.{Passed}
use Rattle.spots.proofs.next_vacant.Given as goal

abbrev pub invariant-loop-i : goal.invariant-loop-i
invariant-loop-i turn = (l : Layout) → Stretch turn.spots l turn.from turn.end → Passed l turn.from turn.end turn.i

abbrev pub decreases-loop-i : goal.decreases-loop-i
decreases-loop-i l = l.end - l.i
