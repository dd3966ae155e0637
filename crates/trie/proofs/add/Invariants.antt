-- `add` walks down the trie by the bytes of one pattern and makes the states that are missing.
use mathlib.Core.Path.{◌≡◌}
use mathlib.Core.List.{List}
use Prim.Native.Nat.{ℕ, ◌≤◌}
use lib.ListN.{length}
use Rattle.list.specs.Limits.{alphabet}
use Rattle.trie.specs.Trie.{slots_of, Trie}
use Rattle.trie.proofs.Adding.{Adding}
use Rattle.trie.proofs.add.Given as goal

abbrev pub invariant-loop-i : goal.invariant-loop-i
invariant-loop-i l =
    (l.i ≤ length l.part) × (length l.trie ≡ length l.initial.trie) × (l.n ≤ l.slots)
    × ((names : List (List ℕ)) → Trie alphabet (slots_of l.initial.trie) names → l.states ≡ length names
    → Adding alphabet (slots_of l.initial.trie) (slots_of l.trie) names l.part l.n l.s.0 l.i)
