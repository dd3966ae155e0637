-- `link_children` walks along the children of the state whose turn it is; for each the hunt walks along the chain of links.
use mathlib.Core.Path.{◌≡◌, refl, ap, ◌∙◌}
use mathlib.Core.List.{List, []}
use Prim.Native.Nat.{ℕ, ◌<◌}
use native.Mathlib.Omega.{arith}
use lib.ListN.{length, get_or}
use Rattle.paper.specs.Patterns.{Entry, Kind}
use Rattle.paper.specs.Automaton.{machine, link}
use Rattle.paper.proofs.Links.{hunts}
use Rattle.list.specs.Limits.{alphabet}
use Rattle.plan.specs.Names.{names}
use Rattle.trie.specs.Trie.{slots_of}
use Rattle.trie.specs.Children.{Begun}
use Rattle.links.specs.Notes.{notes_of}
use Rattle.links.specs.Linked.{Leads, ordered}
use Rattle.links.proofs.Queue.{Linking}
use Rattle.links.proofs.Tops.{answer_some, answer_none, some_is_child}
use Rattle.links.proofs.Walking.{HuntIn, Setting, opened, closed, chained, in_trie, in_notes, room_left, label_small, more, child_link, at_dead, at_child, at_root_lem, onward, chain_inside, setting_hunt}
use Rattle.links.proofs.link_children.Goals as goal
use Rattle.links.proofs.link_children.Goals.{then-f-eq1, else-f-eq1+in-Some-child, else-f-eq1+in_default+then-f-eq0, After-note_child-arg-1, After-label-byte, After-into_iter-t-iterator, At-loop-f, At-loop-t}

-- the walk begins at the state's first child
from : (c : goal.After-into_iter-t-iterator) → Begun c.args.trie.now c.args.s.0 c.into_iter-t-iterator.result
from c = rw c.into_iter-t-iterator.ensures.into_iter_gives c.children-t-items.ensures

pub loop-t-init : goal.loop-t-init
loop-t-init c =
    let b = from c in
    (b.walks, tt, b.rows_are, refl, λ kind es s h G. (0, rw G.first_is (opened G.poised)))

-- what the caller showed
given :
    (c : goal.At-loop-t)
    → Setting c.requires.kind c.requires.es c.args.trie.now c.args.notes.now c.args.tops.now
    c.args.s.0 c.requires.at c.args.tail c.link_of-above.result.0 c.into_iter-t-iterator.result.next.0
given c =
    let p = c.requires in
    record { poised = p.poised; tops_are = p.tops_are; inner = p.inner; above_is = c.link_of-above.ensures; first_is = (from (goal.at.At-loop-t c).After-into_iter-t-iterator).first }

-- where the loop over the children stands
stands :
    (c : goal.At-loop-t)
    → (lo : ℕ) × Linking c.requires.kind c.requires.es (notes_of c.loop-t.notes) c.requires.at lo c.loop-t.t-iterator.next.0 c.loop-t.end
stands c = let p = c.requires in c.loop-t.invariant.4 p.kind p.es c.args.s.0 p.at (given c)

pub label-byte-requires : goal.label-byte-requires
label-byte-requires c =
    let s = c.in-Some.ensures.steps.1 in
    rw s.1 (in_trie (given (goal.at.label-byte-requires c).At-loop-t).poised (stands (goal.at.label-byte-requires c).At-loop-t).1 s.0)

-- the byte is that of the child at which the walk stands
byte_is : (c : goal.After-label-byte) → c.label-byte.result ≡ (slots_of c.args.trie.now).label c.loop-t.t-iterator.next.0
byte_is c = c.label-byte.ensures ∙ ap (slots_of c.args.trie.now).label c.in-Some.ensures.steps.1.1

-- where the hunt stands, for whatever patterns the trie is made of
hunted :
    (c : goal.At-loop-f) (kind : Kind) (es : List Entry) (s h : ℕ)
    (G : Setting kind es c.args.trie.now c.args.notes.now c.args.tops.now s h c.args.tail c.link_of-above.result.0 c.into_iter-t-iterator.result.next.0)
    → HuntIn kind es c.args.trie.now (length c.args.notes.now) G.poised.turn.ready (length (get_or (ordered es) h [])) c.label-byte.result (link (machine kind es) (get_or (ordered es) h [])) c.loop-f.f.0
hunted c kind es s h G =
    let A = c.loop-t.invariant.4 kind es s h G in
    c.loop-f.invariant kind es _ G.poised.turn.ready _ _ (rw (c.label-byte.ensures, c.in-Some.ensures.steps.1.1) (label_small G.poised A.1 c.in-Some.ensures.steps.1.0)) G.tops_are (chained G.poised A.1) (setting_hunt G _)

pub child-requires : goal.child-requires
child-requires c =
    let p = c.requires in
    let R = (given (goal.at.child-requires c).At-loop-t).poised.turn.ready in
    let H = hunted (goal.at.child-requires c).At-loop-f p.kind p.es _ p.at (given (goal.at.child-requires c).At-loop-t) in (
      record { names = names alphabet p.es; trie = R.trie; room = R.trie_room; inside = chain_inside R H c.if-f-eq1.false },
      rw (c.label-byte.ensures, c.in-Some.ensures.steps.1.1) (label_small (given (goal.at.child-requires c).At-loop-t).poised (stands (goal.at.child-requires c).At-loop-t).1 c.in-Some.ensures.steps.1.0),
    )

pub link_of-f-requires : goal.link_of-f-requires
link_of-f-requires c =
    let p = c.requires in
    let R = (given (goal.at.link_of-f-requires c).At-loop-t).poised.turn.ready in
    omega (arith, chain_inside R (hunted (goal.at.link_of-f-requires c).At-loop-f p.kind p.es _ p.at (given (goal.at.link_of-f-requires c).At-loop-t)) c.if-f-eq1.false, R.notes_room, c.loop-t.invariant.3)

pub loop-f-smaller : goal.loop-f-smaller
loop-f-smaller c =
    let p = c.requires in
    let R = (given (goal.at.loop-f-smaller c).At-loop-t).poised.turn.ready in
    let H = hunted (goal.at.loop-f-smaller c).At-loop-f p.kind p.es _ p.at (given (goal.at.loop-f-smaller c).At-loop-t) in
    let nd = c.if-f-eq1.false in
    (onward R H nd (rw (c.label-byte.ensures, c.in-Some.ensures.steps.1.1) (label_small (given (goal.at.loop-f-smaller c).At-loop-t).poised (stands (goal.at.loop-f-smaller c).At-loop-t).1 c.in-Some.ensures.steps.1.0)) _
    (answer_none c.in_default.is (c.child.ensures _ R.trie (given (goal.at.loop-f-smaller c).At-loop-t).tops_are (chain_inside R H nd))) (notes_of c.loop-t.notes) _ refl c.if-f-eq0.false
    (chained (given (goal.at.loop-f-smaller c).At-loop-t).poised (stands (goal.at.loop-f-smaller c).At-loop-t).1) c.link_of-f.ensures).1

pub loop-f-preserved : goal.loop-f-preserved
loop-f-preserved c = λ kind es room R n from small T C H₀.
    let H = c.loop-f.invariant kind es room R n from small T C H₀ in
    let nd = c.if-f-eq1.false in
    (onward R H nd small _ (answer_none c.in_default.is (c.child.ensures _ R.trie T (chain_inside R H nd))) (notes_of c.loop-t.notes) _ refl c.if-f-eq0.false
    C c.link_of-f.ensures).0

-- where the hunt has ended
linked :
    (c : goal.After-note_child-arg-1) (kind : Kind) (es : List Entry) (s h : ℕ)
    (G : Setting kind es c.args.trie.now c.args.notes.now c.args.tops.now s h c.args.tail c.link_of-above.result.0 c.into_iter-t-iterator.result.next.0)
    → HuntIn kind es c.args.trie.now (length c.args.notes.now) G.poised.turn.ready (length (get_or (ordered es) h [])) c.label-byte.result (link (machine kind es) (get_or (ordered es) h [])) c.loop-f.f.0
    → Leads (names alphabet es) (hunts (machine kind es) (link (machine kind es) (get_or (ordered es) h [])) c.label-byte.result) c.if-f-eq1.link.0
linked c kind es s h G H =
    let R = G.poised.turn.ready in
    let small : c.label-byte.result < alphabet = rw (c.label-byte.ensures, c.in-Some.ensures.steps.1.1) (label_small G.poised (c.loop-t.invariant.4 kind es s h G).1 c.in-Some.ensures.steps.1.0) in
    elim c.if-f-eq1.branch [
      | then-f-eq1 w ↦ rw w.link-is (at_dead R H w.if-f-eq1.true)
      | else-f-eq1+in-Some-child w ↦ rw w.link-is
          (at_child R H w.if-f-eq1.false small _ (answer_some w.in-Some-child.is (w.child.ensures _ R.trie G.tops_are (chain_inside R H w.if-f-eq1.false)))
          (some_is_child _ _ _ w.in-Some-child.is (w.child.ensures _ R.trie G.tops_are (chain_inside R H w.if-f-eq1.false))))
      | else-f-eq1+in_default+then-f-eq0 w ↦ rw w.link-is
          (at_root_lem R H w.if-f-eq1.false small _ (answer_none w.in_default.is (w.child.ensures _ R.trie G.tops_are (chain_inside R H w.if-f-eq1.false))) refl w.if-f-eq0.true)
    ]

pub note_child-requires : goal.note_child-requires
note_child-requires c =
    let P = c.requires.poised in
    let A = stands (goal.at.note_child-requires c).At-loop-t in
    let s = c.in-Some.ensures.steps.1 in
    (rw s.1 (omega (arith, in_notes P A.1 s.0, c.loop-t.invariant.3)), omega (arith, room_left P A.1 s.0, c.loop-t.invariant.3))

pub loop-t-preserved : goal.loop-t-preserved
loop-t-preserved c =
    let s = c.in-Some.ensures.steps in
    let rows = ap (λ r. r.now) s.0 ∙ c.loop-t.invariant.2 in (
      c.in-Some.ensures.goes.keeps,
      tt,
      rows,
      c.note_child.auto.notes ∙ c.loop-t.invariant.3,
      λ kind es p h G.
          let A = c.loop-t.invariant.4 kind es p h G in
          rw (s.1.2, c.loop-t.invariant.2) (
            _,
            more G.poised A.1 s.1.0 _ _ (rw s.1.1 at c.note_child.ensures)
                (child_link G.poised A.1 s.1.0 G.inner _ (rw (← (byte_is (goal.at.loop-t-preserved c).After-label-byte)) (linked (goal.at.loop-t-preserved c).After-note_child-arg-1 kind es p h G (hunted (goal.at.loop-t-preserved c).At-loop-f kind es p h G)))),
          ),
    )

pub returns : goal.returns
returns c = λ kind es h P T inner.
    closed P (c.loop-t.invariant.4 kind es _ h (record { poised = P; tops_are = T; inner = inner; above_is = c.link_of-above.ensures; first_is = (from (goal.at.returns c).After-into_iter-t-iterator).first })).1 c.in-None.ensures.steps.1.0
