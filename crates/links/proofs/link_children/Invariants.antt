-- `link_children` walks along the children of the state whose turn it is; for each the hunt walks along the chain of links.
use mathlib.Core.Path.{◌≡◌}
use mathlib.Core.List.{List}
use Prim.Native.Nat.{ℕ, ◌<◌}
use lib.ListN.{length}
use Rattle.paper.specs.Patterns.{Entry, Kind}
use Rattle.paper.specs.Automaton.{Link}
use Rattle.list.specs.Limits.{alphabet}
use Rattle.plan.specs.Names.{names}
use Rattle.trie.specs.Trie.{slots_of}
use Rattle.links.specs.Notes.{notes_of}
use Rattle.links.specs.Queue.{Ready, Tops}
use Rattle.links.proofs.Queue.{Linking}
use Rattle.links.proofs.Hunting.{chain_left}
use Rattle.links.proofs.Walking.{Chained, HuntIn, Setting}
use Rattle.links.proofs.link_children.Given as goal

abbrev pub invariant-loop-f : goal.invariant-loop-f
invariant-loop-f l =
    (kind : Kind) (es : List Entry) (room : ℕ) (R : Ready kind es l.trie room) (n : ℕ) (from : Link)
    → l.byte < alphabet → Tops (names alphabet es) l.tops → Chained kind es (notes_of l.notes) n
    → HuntIn kind es l.trie room R n l.byte from l.initial.f.0 → HuntIn kind es l.trie room R n l.byte from l.f.0

abbrev pub decreases-loop-f : goal.decreases-loop-f
decreases-loop-f l = chain_left (slots_of l.trie) l.f.0

abbrev pub invariant-loop-t : goal.invariant-loop-t
invariant-loop-t l =
    (goal.iterator-loop-t).can_next l.t-iterator × (goal.iterator-loop-t).is_finite l.t-iterator
    × (l.t-iterator.trie.now ≡ l.trie) × (length l.notes ≡ length l.initial.notes)
    × ((kind : Kind) (es : List Entry) (s h : ℕ) → Setting kind es l.trie l.initial.notes l.tops s h l.tail l.above.0 l.initial.t-iterator.next.0
    → (lo : ℕ) × Linking kind es (notes_of l.notes) h lo l.t-iterator.next.0 l.end)
