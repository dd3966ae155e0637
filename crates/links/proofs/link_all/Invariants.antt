-- `link_all` takes each state in turn from the queue.
use mathlib.Core.Path.{◌≡◌}
use mathlib.Core.List.{List}
use Prim.Native.Nat.{◌≤◌, ◌<◌, ◌-◌}
use lib.ListN.{length}
use Rattle.paper.specs.Patterns.{Entry, Kind}
use Rattle.list.specs.Limits.{alphabet}
use Rattle.plan.specs.Names.{names}
use Rattle.links.specs.Notes.{notes_of}
use Rattle.links.specs.Linked.{is_leftmost}
use Rattle.links.specs.Queue.{Ready, Queued, Tops}
use Rattle.links.proofs.link_all.Given as goal

abbrev pub invariant-loop-head : goal.invariant-loop-head
invariant-loop-head l =
    (length l.notes ≡ length l.initial.notes) × (0 < l.head)
    × ((kind : Kind) (es : List Entry) → Ready kind es l.trie (length l.initial.notes) → l.leftmost ≡ is_leftmost kind → Tops (names alphabet es) l.tops
    → Queued kind es (notes_of l.initial.notes) 1 l.initial.tail → Queued kind es (notes_of l.notes) l.head l.tail × (l.head ≤ l.tail))

abbrev pub decreases-loop-head : goal.decreases-loop-head
decreases-loop-head l = length l.initial.notes - l.head
