-- `store_own` stores the entries of a pile from the latest to the first.
use mathlib.Core.Path.{◌≡◌}
use mathlib.Core.List.{List}
use Prim.Native.Nat.{ℕ}
use lib.ListN.{length}
use Rattle.paper.specs.Patterns.{Entry}
use Rattle.trie.specs.Owned.{owns_of, Pile}
use Rattle.outputs.proofs.Stacking.{Left}
use Rattle.outputs.proofs.store_own.Given as goal

abbrev pub invariant-loop-k : goal.invariant-loop-k
invariant-loop-k l =
    (length l.outs ≡ length l.initial.outs)
    × ((bound : ℕ) (own : List Entry) → Pile (owns_of l.owns) bound l.first own
    → (rest : List Entry) × Left l.owns l.values l.size bound own l.stored l.head l.initial.outs l.outs l.n l.place l.k rest)

abbrev pub decreases-loop-k : goal.decreases-loop-k
decreases-loop-k l = l.k
