-- `place_all` takes the groups of the table in turn: each turn is a step of Round.
use mathlib.Core.Path.{◌≡◌}
use mathlib.Core.List.{List}
use Prim.Native.Nat.{ℕ}
use lib.ListN.{length}
use Rattle.paper.specs.Patterns.{Entry}
use Rattle.plan.specs.Groups.{Group}
use Rattle.placement.specs.Laid.{Placeable}
use Rattle.placement.proofs.Rounds.{Round}
use Rattle.placement.proofs.place_all.Given as goal

abbrev pub invariant-loop-i : goal.invariant-loop-i
invariant-loop-i l =
    (length l.notes ≡ length l.initial.notes)
    × (length l.spots ≡ length l.initial.spots)
    × ((es : List Entry) (gs : List Group) (before chart : List (List ℕ)) → length l.initial.notes ≡ length before → length l.initial.spots ≡ length chart
    → Placeable es gs l.trie before chart l.groups l.most → Round es gs before l.initial.notes l.initial.spots l.initial.i l.most l.initial.blocks → Round es gs before l.notes l.spots l.i l.most l.blocks)
