-- `is_barred` walks down the trie and meets an own output before the last byte exactly if an entry is a proper prefix.
use mathlib.Core.List.{List}
use Prim.Native.Nat.{ℕ, ◌≤◌, ◌<◌}
use lib.ListN.{length}
use Rattle.list.specs.Limits.{alphabet}
use Rattle.paper.specs.Patterns.{Entry}
use Rattle.trie.specs.Trie.{slots_of, Trie}
use Rattle.trie.specs.Owned.{Owned, Covers}
use Rattle.trie.proofs.Dropping.{Walking}
use Rattle.trie.proofs.is_barred.Given as goal

abbrev pub invariant-loop-letter : goal.invariant-loop-letter
invariant-loop-letter l =
    (l.letter-index ≤ length l.part) × ((names : List (List ℕ)) → Trie alphabet (slots_of l.trie) names → l.s.0 < length names)
    × ((names : List (List ℕ)) (es : List Entry) → Trie alphabet (slots_of l.trie) names → Owned (slots_of l.trie) names es → Covers names es
    → Walking alphabet (slots_of l.trie) names es l.part l.s.0 l.letter-index)
