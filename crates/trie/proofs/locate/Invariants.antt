-- `locate` finds the child on a byte, or the gap for it: it walks along the children by rising byte.
use mathlib.Core.Path.{◌≡◌}
use mathlib.Core.List.{List}
use Prim.Native.Nat.{ℕ}
use Rattle.list.specs.Limits.{alphabet}
use Rattle.trie.specs.Trie.{slots_of, Least, Trie}
use Rattle.trie.proofs.Seeking.{Seeking}
use Rattle.trie.proofs.locate.Given as goal

abbrev pub invariant-loop-t : goal.invariant-loop-t
invariant-loop-t l =
    (goal.iterator-loop-t).can_next l.t-iterator × (goal.iterator-loop-t).is_finite l.t-iterator × (l.t-iterator.trie.now ≡ l.trie)
    × ((names : List (List ℕ)) (u : List ℕ) → Trie alphabet (slots_of l.trie) names → Least alphabet names u 0 l.initial.t-iterator.next.0
    → Seeking alphabet names u l.byte l.prev.0 l.t-iterator.next.0)
