-- `locate` finds the child on a byte, or the gap for it: it walks along the children by rising byte.
use mathlib.Core.Path.{◌≡◌, ap, sym, ◌∙◌}
use mathlib.Core.List.{List, []}
use Prim.Native.Nat.{ℕ, ◌<◌}
use native.Mathlib.Omega.{arith}
use lib.ListN.{length, get_or}
use Rattle.list.specs.Limits.{alphabet}
use Rattle.trie.specs.Trie.{slots_of, Trie}
use Rattle.trie.specs.Children.{Begun}
use Rattle.trie.proofs.Seeking.{Seeking, seek, hit, past, ended, onward}
use Rattle.trie.proofs.locate.Goals as goal
use Rattle.trie.proofs.locate.Goals.{After-into_iter-t-iterator, At-loop-t}

-- the walk begins at the state's first child
from : (c : goal.After-into_iter-t-iterator) → Begun c.args.trie.now c.args.s.0 c.into_iter-t-iterator.result
from c = rw c.into_iter-t-iterator.ensures.into_iter_gives c.children-t-items.ensures

-- what the loop knows, for the state that was asked
seeking : (c : goal.At-loop-t) (names : List (List ℕ)) → Trie alphabet (slots_of c.args.trie.now) names
    → c.args.s.0 < length names
    → Seeking alphabet names (get_or names c.args.s.0 []) c.args.byte c.loop-t.prev.0 c.loop-t.t-iterator.next.0
seeking c names I h =
    c.loop-t.invariant.3 names _ I (rw (from (goal.at.At-loop-t c).After-into_iter-t-iterator).first (I.child c.args.s.0 h))

pub loop-t-init : goal.loop-t-init
loop-t-init c =
    let b = from c in
    (b.walks, tt, b.rows_are, λ names u I l. seek c.args.byte l)

pub returns-then-c-byte : goal.returns-then-c-byte
returns-then-c-byte c = λ names I h.
    let s = c.in-Some.ensures.steps.1 in
    rw s.1 (hit I (seeking (goal.at.returns-then-c-byte c).At-loop-t names I h) s.0 (rw s.1 at (sym c.label-c.ensures ∙ c.if-c-byte.true)))

pub returns-then-byte-c : goal.returns-then-byte-c
returns-then-byte-c c = λ names I h.
    let s = c.in-Some.ensures.steps.1 in
    let byte : c.label-c.result ≡ (slots_of c.args.trie.now).label c.loop-t.t-iterator.next.0 = c.label-c.ensures ∙ ap (slots_of c.args.trie.now).label s.1 in
    rw s.1 (past I (seeking (goal.at.returns-then-byte-c c).At-loop-t names I h) s.0 (omega (arith, byte, c.if-byte-c.true)))

pub loop-t-preserved : goal.loop-t-preserved
loop-t-preserved c =
    let s = c.in-Some.ensures.steps in
    let rows = ap (λ r. r.now) s.0 ∙ c.loop-t.invariant.2 in
    let byte : c.label-c.result ≡ (slots_of c.args.trie.now).label c.loop-t.t-iterator.next.0 = c.label-c.ensures ∙ ap (slots_of c.args.trie.now).label s.1.1 in (
      c.in-Some.ensures.goes.keeps,
      tt,
      rows,
      λ names u I l.
          rw (s.1.1, s.1.2, c.loop-t.invariant.2)
          (onward I (c.loop-t.invariant.3 names u I l) s.1.0 (omega (arith, byte, c.if-c-byte.false, c.if-byte-c.false))),
    )

pub returns : goal.returns
returns c = λ names I h. ended I (seeking (goal.at.returns c).At-loop-t names I h) c.requires.1 c.in-None.ensures.steps.1.0
