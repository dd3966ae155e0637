-- `has_room` walks along the children as long as their cells are vacant.
use mathlib.Core.Path.{◌≡◌}
use mathlib.Core.List.{List}
use Prim.Native.Nat.{ℕ}
use Rattle.zeros.specs.Rows.{field}
use Rattle.paper.specs.Patterns.{Entry}
use Rattle.plan.specs.Placement.{Layout}
use Rattle.spots.specs.Charted.{Try}
use Rattle.spots.proofs.Trying.{Trying}
use Rattle.spots.proofs.has_room.Given as goal

abbrev pub invariant-loop-child : goal.invariant-loop-child
invariant-loop-child turn =
    (goal.iterator-loop-child).can_next turn.child-iterator × (goal.iterator-loop-child).is_finite turn.child-iterator
    × (turn.child-iterator.trie.now ≡ turn.trie)
    × ((es : List Entry) (l : Layout) (s : ℕ) → Try es l turn.trie turn.spots s turn.base → turn.initial.child-iterator.next.0 ≡ field turn.trie s 0
    → Trying es l s turn.base turn.child-iterator.next.0)
