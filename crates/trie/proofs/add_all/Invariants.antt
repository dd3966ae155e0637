-- `add_all` looks at the patterns in list order.
use mathlib.Core.Path.{◌≡◌}
use Prim.Native.Nat.{◌≤◌}
use lib.ListN.{length}
use Rattle.list.specs.Listed.{patterns_of}
use Rattle.trie.specs.Trie.{slots_of}
use Rattle.trie.specs.Owned.{owns_of}
use Rattle.trie.proofs.Accepting.{Looked}
use Rattle.trie.proofs.add_all.Given as goal

abbrev pub invariant-loop-i : goal.invariant-loop-i
invariant-loop-i l =
    (l.i ≤ length l.ends) × (length l.trie ≡ length l.initial.trie) × (length l.owns ≡ length l.initial.owns) × (l.grown.states ≤ l.slots)
    × Looked l.drops (patterns_of l.bytes l.ends) (slots_of l.trie) (owns_of l.owns) l.grown.states l.grown.accepted (length l.initial.owns) l.i
