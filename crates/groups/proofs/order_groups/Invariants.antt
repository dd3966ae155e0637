-- `order_groups` pops a state, notes its group and pushes its children, until the stack is empty.
use mathlib.Core.Path.{◌≡◌}
use mathlib.Core.List.{List}
use Prim.Native.Nat.{ℕ}
use lib.ListN.{length}
use Rattle.zeros.specs.Rows.{field}
use Rattle.paper.specs.Patterns.{Entry}
use Rattle.groups.specs.Ordered.{Groupable}
use Rattle.groups.proofs.Ordering.{Ordering}
use Rattle.groups.proofs.Ordering.{still}
use Rattle.groups.proofs.order_groups.Given as goal

abbrev pub invariant-loop-height : goal.invariant-loop-height
invariant-loop-height l =
    (length l.notes ≡ length l.initial.notes)
    × ((es : List Entry) → Groupable es l.trie (length l.initial.notes) → field l.initial.notes 0 4 ≡ 0
    → (stack : List (List ℕ)) × Ordering es l.initial.notes l.notes l.height l.count stack)

abbrev pub decreases-loop-height : goal.decreases-loop-height
decreases-loop-height l = still (length l.initial.notes) l.count l.height
