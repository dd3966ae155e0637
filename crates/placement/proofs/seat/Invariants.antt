-- `seat` walks along the children; what it leaves at each is a step of Seating.
use mathlib.Core.Path.{◌≡◌}
use mathlib.Core.List.{List}
use Prim.Native.Nat.{ℕ, ◌≤◌, ◌<◌}
use lib.ListN.{length}
use Rattle.paper.specs.Patterns.{Entry}
use Rattle.list.specs.Limits.{alphabet}
use Rattle.plan.specs.Names.{names}
use Rattle.trie.specs.Trie.{slots_of}
use Rattle.trie.specs.Stands.{Stands}
use Rattle.placement.proofs.Seating.{Seating}
use Rattle.placement.proofs.seat.Given as goal

abbrev pub invariant-loop-child : goal.invariant-loop-child
invariant-loop-child l =
    (goal.iterator-loop-child).can_next l.child-iterator × (goal.iterator-loop-child).is_finite l.child-iterator
    × (l.child-iterator.trie.now ≡ l.trie)
    × (length l.notes ≡ length l.initial.notes)
    × (length l.spots ≡ length l.initial.spots)
    × ((es : List Entry) (s : ℕ) → Stands es l.trie → s < length (names alphabet es) → l.initial.child-iterator.next.0 ≡ (slots_of l.trie).first s
    → length (names alphabet es) ≤ length l.initial.notes → Seating es s l.base l.initial.notes l.notes l.initial.spots l.spots l.child-iterator.next.0)
