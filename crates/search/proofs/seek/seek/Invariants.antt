-- `seek` against its definition: what is left of the walk stays the whole walk.
use Rattle.search.proofs.Loops.{Seeking}
use Rattle.table.specs.Agrees.{lent}
use lib.ListN.{length}
use Prim.Native.Nat.{◌-◌}
use Rattle.search.proofs.seek.seek.Given as goal

abbrev pub invariant-loop-row : goal.invariant-loop-row
invariant-loop-row l = Seeking l.leftmost (lent l.tables) l.text l.initial.at l.at

abbrev pub decreases-loop-row : goal.decreases-loop-row
decreases-loop-row l = length l.text - l.at.place
