-- `link_tops` walks along root's children.
use mathlib.Core.Path.{refl, ap, ◌∙◌}
use Prim.Native.Nat.{ℕ}
use native.Mathlib.Omega.{arith}
use Rattle.trie.specs.Children.{Begun}
use Rattle.links.specs.Notes.{notes_of}
use Rattle.links.proofs.Queue.{Linking}
use Rattle.links.proofs.Walking.{opened, closed, in_notes, room_left, more, top_link}
use Rattle.links.proofs.link_tops.Goals as goal
use Rattle.links.proofs.link_tops.Goals.{At-loop-child, After-into_iter-child-iterator}

-- the walk begins at root's first child
from : (c : goal.After-into_iter-child-iterator) → Begun c.args.trie.now 0 c.into_iter-child-iterator.result
from c = rw c.into_iter-child-iterator.ensures.into_iter_gives c.children-child-items.ensures

pub loop-child-init : goal.loop-child-init
loop-child-init c =
    let b = from c in
    (b.walks, tt, b.rows_are, refl, λ kind es P e. (0, rw e (opened P)))

-- what the caller showed, and where the loop stands
told : (c : goal.At-loop-child) → (lo : ℕ) × Linking c.requires.kind c.requires.es (notes_of c.loop-child.notes) 0 lo c.loop-child.child-iterator.next.0 c.loop-child.end
told c = let p = c.requires in c.loop-child.invariant.4 p.kind p.es p.poised (from (goal.at.At-loop-child c).After-into_iter-child-iterator).first

pub note_child-requires : goal.note_child-requires
note_child-requires c =
    let P = c.requires.poised in
    let A = told (goal.at.note_child-requires c).At-loop-child in
    let s = c.in-Some.ensures.steps.1 in
    (rw s.1 (omega (arith, in_notes P A.1 s.0, c.loop-child.invariant.3)), omega (arith, room_left P A.1 s.0, c.loop-child.invariant.3))

pub loop-child-preserved : goal.loop-child-preserved
loop-child-preserved c =
    let s = c.in-Some.ensures.steps in
    let rows = ap (λ r. r.now) s.0 ∙ c.loop-child.invariant.2 in (
      c.in-Some.ensures.goes.keeps,
      tt,
      rows,
      c.note_child.auto.notes ∙ c.loop-child.invariant.3,
      λ kind es P e.
          let A = c.loop-child.invariant.4 kind es P e in
          rw (s.1.2, c.loop-child.invariant.2) (_, more P A.1 s.1.0 _ 0 (rw s.1.1 at c.note_child.ensures) (top_link P A.1 s.1.0 refl)),
    )

pub returns : goal.returns
returns c = λ kind es P.
    closed P (c.loop-child.invariant.4 kind es P (from (goal.at.returns c).After-into_iter-child-iterator).first).1 c.in-None.ensures.steps.1.0
