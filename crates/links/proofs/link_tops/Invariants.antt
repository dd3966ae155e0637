-- `link_tops` walks along root's children.
use mathlib.Core.Path.{◌≡◌}
use mathlib.Core.List.{List}
use Prim.Native.Nat.{ℕ}
use lib.ListN.{length}
use Rattle.paper.specs.Patterns.{Entry, Kind}
use Rattle.trie.specs.Trie.{slots_of}
use Rattle.links.specs.Notes.{notes_of}
use Rattle.links.specs.Queue.{Poised}
use Rattle.links.proofs.Queue.{Linking}
use Rattle.links.proofs.link_tops.Given as goal

abbrev pub invariant-loop-child : goal.invariant-loop-child
invariant-loop-child l =
    (goal.iterator-loop-child).can_next l.child-iterator × (goal.iterator-loop-child).is_finite l.child-iterator
    × (l.child-iterator.trie.now ≡ l.trie) × (length l.notes ≡ length l.initial.notes)
    × ((kind : Kind) (es : List Entry) → Poised kind es l.trie l.initial.notes 0 0 1 → l.initial.child-iterator.next.0 ≡ (slots_of l.trie).first 0
    → (lo : ℕ) × Linking kind es (notes_of l.notes) 0 lo l.child-iterator.next.0 l.end)
