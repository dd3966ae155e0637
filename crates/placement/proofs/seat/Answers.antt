-- `seat` walks along the children; what it leaves at each is a step of Seating.
use mathlib.Core.Path.{refl, ap, ◌∙◌}
use native.Mathlib.Omega.{arith}
use Rattle.trie.specs.Children.{Begun}
use Rattle.trie.proofs.Walks.{walk_kid}
use Rattle.placement.proofs.Seating.{Seating, seating, seating_done, seating_more, seated_on}
use Rattle.placement.proofs.seat.Goals as goal
use Rattle.placement.proofs.seat.Goals.{At-loop-child, After-into_iter-child-iterator}

-- the walk begins at the state's first child
from : (c : goal.After-into_iter-child-iterator) → Begun c.args.trie.now c.args.s.0 c.into_iter-child-iterator.result
from c = rw c.into_iter-child-iterator.ensures.into_iter_gives c.children-child-items.ensures

pub loop-child-init : goal.loop-child-init
loop-child-init c =
    let b = from c in
    (b.walks, tt, b.rows_are, refl, refl, λ es s T h e n. rw e (seating T h _ _ _))

-- what the caller showed, and where the loop stands
told : (c : goal.At-loop-child)
    → Seating c.requires.es c.args.s.0
    c.args.base c.args.notes.now c.loop-child.notes
    c.use_base.new.spots c.loop-child.spots c.loop-child.child-iterator.next.0
told c =
    let P = c.requires.seat.state in
    c.loop-child.invariant.5 _ _ P.stands P.inside (from (goal.at.At-loop-child c).After-into_iter-child-iterator).first P.notes_room

pub set_cell-requires : goal.set_cell-requires
set_cell-requires c =
    let P = c.requires.seat in
    let s = c.in-Some.ensures.steps.1 in
    let k = walk_kid P.state.stands (told (goal.at.set_cell-requires c).At-loop-child).walk s.0 in
    rw s.1 (omega (arith, k.inside, c.loop-child.invariant.3, P.state.notes_room))

pub loop-child-preserved : goal.loop-child-preserved
loop-child-preserved c =
    let s = c.in-Some.ensures.steps in
    let rows = ap (λ r. r.now) s.0 ∙ c.loop-child.invariant.2 in (
      c.in-Some.ensures.goes.keeps,
      tt,
      rows,
      c.set_cell.auto.notes ∙ c.loop-child.invariant.3,
      c.take_cell.auto.spots ∙ c.loop-child.invariant.4,
      λ es u T h e n.
          let S = c.loop-child.invariant.5 es u T h e n in
          rw (c.set_cell.ensures, c.take_cell.ensures, c.label.ensures, s.1.1, s.1.2, c.loop-child.invariant.2)
          (seating_more T h S s.1.0 (omega (arith, (walk_kid T S.walk s.1.0).inside, c.loop-child.invariant.3))),
    )

pub returns : goal.returns
returns c = λ es S.
    let T = S.state.stands in
    let first = (from (goal.at.returns c).After-into_iter-child-iterator).first in
    let D = seating_done T S.state.inside (c.loop-child.invariant.5 es _ T S.state.inside first S.state.notes_room) c.in-None.ensures.steps.1.0 in
    record { children = D.0; chart = seated_on _ _ c.use_base.ensures D.1 }
