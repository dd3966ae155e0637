-- `find_base` goes from one vacant index to the next, until one serves.
use mathlib.Core.Path.{◌≡◌}
use mathlib.Core.List.{List}
use Prim.Native.Nat.{◌-◌}
use lib.ListN.{length}
use Rattle.paper.specs.Patterns.{Entry}
use Rattle.plan.specs.Groups.{Group}
use Rattle.plan.specs.Placement.{Layout}
use Rattle.spots.proofs.Hunting.{Hunt}
use Rattle.spots.proofs.find_base.Given as goal

abbrev pub invariant-loop-i : goal.invariant-loop-i
invariant-loop-i turn =
    (length turn.spots ≡ length turn.initial.spots)
    × ((es : List Entry) (l : Layout) (g : Group) → Hunt es l g turn.trie turn.initial.spots turn.s.0 turn.from turn.end turn.low turn.initial.i → Hunt es l g turn.trie turn.spots turn.s.0 turn.from turn.end turn.low turn.i)

abbrev pub decreases-loop-i : goal.decreases-loop-i
decreases-loop-i l = l.end - l.i
