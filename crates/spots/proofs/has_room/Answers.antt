-- `has_room` walks along the children as long as their cells are vacant.
use mathlib.Core.Path.{sym, ap, ◌∙◌}
use Rattle.trie.specs.Children.{Begun}
use Rattle.spots.proofs.Trying.{trying, try_cell, try_more, try_fails, try_ends}
use Rattle.spots.proofs.has_room.Goals as goal
use Rattle.spots.proofs.has_room.Goals.{After-into_iter-child-iterator}

-- the walk begins at the state's first child
from : (c : goal.After-into_iter-child-iterator) → Begun c.args.trie.now c.args.s.0 c.into_iter-child-iterator.result
from c = rw c.into_iter-child-iterator.ensures.into_iter_gives c.children-child-items.ensures

pub loop-child-init : goal.loop-child-init
loop-child-init c =
    let b = from c in
    (b.walks, tt, b.rows_are, λ es l s R e. rw e (trying R))

pub is_vacant-requires : goal.is_vacant-requires
is_vacant-requires c =
    let p = c.requires in
    let s = c.in-Some.ensures.steps.1 in
    let A = c.loop-child.invariant.3 p.es p.layout c.args.s.0 p.try (from (goal.at.is_vacant-requires c).After-into_iter-child-iterator).first in
    rw (c.label.ensures, s.1) (try_cell p.try A s.0)

pub loop-child-preserved : goal.loop-child-preserved
loop-child-preserved c =
    let s = c.in-Some.ensures.steps in
    let rows = ap (λ r. r.now) s.0 ∙ c.loop-child.invariant.2 in (
      c.in-Some.ensures.goes.keeps,
      tt,
      rows,
      λ es l u R e.
          rw (s.1.2, c.loop-child.invariant.2)
          (try_more R (c.loop-child.invariant.3 es l u R e) s.1.0 (rw s.1.1 at c.label.ensures) (sym c.is_vacant.ensures ∙ c.if-not-is_vacant.false)),
    )

pub returns-then-not-is_vacant : goal.returns-then-not-is_vacant
returns-then-not-is_vacant c =
    let first = (from (goal.at.returns-then-not-is_vacant c).After-into_iter-child-iterator).first in
    let s = c.in-Some.ensures.steps.1 in
    λ es l R. try_fails R (c.loop-child.invariant.3 es l _ R first) s.0 (rw s.1 at c.label.ensures) (sym c.is_vacant.ensures ∙ c.if-not-is_vacant.true)

pub returns : goal.returns
returns c =
    let first = (from (goal.at.returns c).After-into_iter-child-iterator).first in
    λ es l R. try_ends R (c.loop-child.invariant.3 es l _ R first) c.in-None.ensures.steps.1.0
