-- `top_children` walks along root's children.
use mathlib.Core.Path.{ap, subst, ◌∙◌}
use mathlib.Core.List.{List, []}
use Prim.Native.Nat.{ℕ}
use native.Mathlib.Omega.{arith}
use Rattle.list.specs.Limits.{alphabet}
use Rattle.trie.specs.Trie.{Least}
use Rattle.trie.specs.Children.{Begun}
use Rattle.links.proofs.Tops.{topping, topping_more, topped}
use Rattle.links.proofs.top_children.Goals as goal
use Rattle.links.proofs.top_children.Goals.{After-into_iter-child-iterator}

-- the walk begins at root's first child
from : (c : goal.After-into_iter-child-iterator) → Begun c.args.trie.now 0 c.into_iter-child-iterator.result
from c = rw c.into_iter-child-iterator.ensures.into_iter_gives c.children-child-items.ensures

pub loop-child-init : goal.loop-child-init
loop-child-init c =
    let b = from c in
    (b.walks, tt, b.rows_are, λ ns I l. (0, topping l))

pub loop-child-preserved : goal.loop-child-preserved
loop-child-preserved c =
    let s = c.in-Some.ensures.steps in
    let rows = ap (λ r. r.now) s.0 ∙ c.loop-child.invariant.2 in (
      c.in-Some.ensures.goes.keeps,
      tt,
      rows,
      λ ns I l.
          let A = c.loop-child.invariant.3 ns I l in
          rw (c.label.ensures, s.1.1, s.1.2, c.loop-child.invariant.2) (_, topping_more I A.1 s.1.0),
    )

pub returns : goal.returns
returns c = λ ns I.
    let b = from (goal.at.returns c).After-into_iter-child-iterator in
    let first : Least alphabet ns [] 0 c.into_iter-child-iterator.result.next.0
    = subst (λ (u : List ℕ). Least alphabet ns u 0 c.into_iter-child-iterator.result.next.0) I.root (rw b.first (I.child 0 (omega (arith, I.two)))) in
    topped I (c.loop-child.invariant.3 ns I first).1 c.in-None.ensures.steps.1.0
