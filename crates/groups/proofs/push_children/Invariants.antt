-- `push_children` walks along the children of a state.
use mathlib.Core.Path.{◌≡◌}
use mathlib.Core.List.{List}
use Prim.Native.Nat.{ℕ}
use lib.ListN.{length}
use Rattle.paper.specs.Patterns.{Entry}
use Rattle.trie.specs.Stands.{Stands}
use Rattle.groups.proofs.Pushing.{Pushing}
use Rattle.groups.proofs.push_children.Given as goal

abbrev pub invariant-loop-child : goal.invariant-loop-child
invariant-loop-child l =
    (goal.iterator-loop-child).can_next l.child-iterator × (goal.iterator-loop-child).is_finite l.child-iterator
    × (l.child-iterator.trie.now ≡ l.trie) × (length l.notes ≡ length l.initial.notes)
    × ((es : List Entry) (u : List ℕ) (whole : List (List ℕ)) → Stands es l.trie
    → Pushing es l.initial.notes l.initial.notes u whole l.initial.top l.initial.child-iterator.next.0
    → Pushing es l.initial.notes l.notes u whole l.top l.child-iterator.next.0)
