-- `store_outputs` takes the states in their breadth-first order.
use mathlib.Core.Path.{◌≡◌}
use mathlib.Core.List.{List}
use Prim.Native.Nat.{◌≤◌, ◌+◌}
use lib.ListN.{length}
use Rattle.paper.specs.Patterns.{Entry, Kind}
use Rattle.outputs.specs.Placed.{Tabled}
use Rattle.outputs.proofs.Storing.{Storing}
use Rattle.outputs.proofs.store_outputs.Given as goal

abbrev pub invariant-loop-i : goal.invariant-loop-i
invariant-loop-i l =
    (length l.notes ≡ length l.initial.notes) × (length l.outs ≡ length l.initial.outs) × (l.i + 1 ≤ l.states)
    × ((kind : Kind) (es : List Entry) → Tabled kind es l.trie l.owns l.initial.notes l.values (length l.initial.outs) l.states
    → Storing kind es l.values l.initial.notes l.initial.outs l.i l.notes l.outs l.stored)
