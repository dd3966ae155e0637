-- `push_children` walks along the children of a state.
use mathlib.Core.Path.{refl, ap, ◌∙◌}
use Prim.Native.Nat.{◌<◌}
use native.Mathlib.Omega.{arith}
use borrow.Author.Rules.{rules}
use lib.ListN.{length}
use Rattle.trie.specs.Children.{Begun}
use Rattle.groups.specs.Stack.{with_kids}
use Rattle.groups.proofs.Pushing.{Pushing, begun, higher, onward, ended}
use Rattle.groups.proofs.push_children.Goals as goal
use Rattle.groups.proofs.push_children.Goals.{At-loop-child, In-Some, After-into_iter-child-iterator}

-- the walk begins at the state's first child
from : (c : goal.After-into_iter-child-iterator) → Begun c.args.trie.now c.args.s.0 c.into_iter-child-iterator.result
from c = rw c.into_iter-child-iterator.ensures.into_iter_gives c.children-child-items.ensures

pub loop-child-init : goal.loop-child-init
loop-child-init c =
    let b = from c in
    (b.walks, tt, b.rows_are, refl, λ es u whole T A. A)

-- where the loop stands on the stack that the caller showed
told : (c : goal.At-loop-child)
    → let p = c.requires in
    Pushing p.es c.args.notes.now c.loop-child.notes p.state (with_kids p.es p.state p.stack) c.loop-child.top c.loop-child.child-iterator.next.0
told c =
    let p = c.requires in
    c.loop-child.invariant.4 p.es p.state (with_kids p.es p.state p.stack) p.pushable.stands
    (rw (from (goal.at.At-loop-child c).After-into_iter-child-iterator).first (begun p.pushable))

-- so there is room for one more
room_left : (c : goal.In-Some) → c.loop-child.top < length c.loop-child.notes
room_left c =
    let P = c.requires.pushable in
    omega (arith, higher P.stands (told (goal.at.In-Some c).At-loop-child) c.in-Some.ensures.steps.1.0, P.room, c.loop-child.invariant.3)

pub set_stacked-requires : goal.set_stacked-requires
set_stacked-requires c = room_left (goal.at.set_stacked-requires c).In-Some

pub overflow_add-top : goal.overflow_add-top
overflow_add-top c = let small = room_left (goal.at.overflow_add-top c).In-Some in search rules

pub loop-child-preserved : goal.loop-child-preserved
loop-child-preserved c =
    let s = c.in-Some.ensures.steps in
    let rows = ap (λ r. r.now) s.0 ∙ c.loop-child.invariant.2 in (
      c.in-Some.ensures.goes.keeps,
      tt,
      rows,
      c.set_stacked.auto.notes ∙ c.loop-child.invariant.3,
      λ es u whole T A.
          rw (c.set_stacked.ensures, s.1.1, s.1.2, c.loop-child.invariant.2)
          (onward T (c.loop-child.invariant.4 es u whole T A) s.1.0 (room_left (goal.at.loop-child-preserved c).In-Some)),
    )

pub returns : goal.returns
returns c = λ es u stack P.
    let b = from (goal.at.returns c).After-into_iter-child-iterator in
    ended P.stands (c.loop-child.invariant.4 es u (with_kids es u stack) P.stands (rw b.first (begun P))) stack refl c.in-None.ensures.steps.1.0
