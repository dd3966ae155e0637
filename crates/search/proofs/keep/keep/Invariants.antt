-- `keep` against its definition: what is left of the walk with the match in hand stays the whole.
use Rattle.search.proofs.Loops.{Keeping}
use Rattle.table.specs.Agrees.{lent}
use lib.ListN.{length}
use Prim.Native.Nat.{◌-◌}
use Rattle.search.proofs.keep.keep.Given as goal

abbrev pub invariant-loop-at : goal.invariant-loop-at
invariant-loop-at l = Keeping (lent l.tables) l.text l.initial.kept l.initial.at l.kept l.at

abbrev pub decreases-loop-at : goal.decreases-loop-at
decreases-loop-at l = length l.text - l.at.place
