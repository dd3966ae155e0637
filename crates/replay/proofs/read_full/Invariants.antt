-- `read_full` ends: each read fills some of the part.
use Rattle.std.proofs.Common.{◌-◌, ◌≤◌, length}
use Rattle.replay.proofs.read_full.Given as goal

abbrev pub invariant-loop-done : goal.invariant-loop-done
invariant-loop-done l = l.done ≤ length l.part

abbrev pub decreases-loop-done : goal.decreases-loop-done
decreases-loop-done l = length l.initial.part - l.done
