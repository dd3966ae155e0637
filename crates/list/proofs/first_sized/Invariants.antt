-- `list::first_sized` finds the first pattern of the size. The invariant: none before is of it.
use Prim.Native.Nat.{◌≤◌}
use lib.ListN.{length}
use Rattle.list.proofs.Scans.{Passed}
use Rattle.list.proofs.first_sized.Given as goal

abbrev pub invariant-loop-i : goal.invariant-loop-i
invariant-loop-i l = (l.i ≤ length l.ends) × Passed l.least l.most l.ends l.i
