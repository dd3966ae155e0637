-- `top_children` walks along root's children.
use mathlib.Core.Path.{◌≡◌}
use mathlib.Core.List.{List, []}
use Prim.Native.Nat.{ℕ}
use Rattle.list.specs.Limits.{alphabet}
use Rattle.trie.specs.Trie.{slots_of, Least, Trie}
use Rattle.links.proofs.Tops.{Topping}
use Rattle.links.proofs.top_children.Given as goal

abbrev pub invariant-loop-child : goal.invariant-loop-child
invariant-loop-child l =
    (goal.iterator-loop-child).can_next l.child-iterator × (goal.iterator-loop-child).is_finite l.child-iterator
    × (l.child-iterator.trie.now ≡ l.trie)
    × ((ns : List (List ℕ)) → Trie alphabet (slots_of l.trie) ns → Least alphabet ns [] 0 l.initial.child-iterator.next.0
    → (lo : ℕ) × Topping ns l.tops lo l.child-iterator.next.0)
