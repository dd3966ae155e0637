-- `add_all` looks at the patterns in list order.
use mathlib.Core.Path.{◌≡◌, refl, sym, ◌∙◌}
use Prim.Native.Nat.{◌<◌, ◌-◌}
use native.Mathlib.Omega.{arith}
use lib.ListN.{length, get_or, take, drop}
use mathlib.Core.List.{[]}
use Rattle.list.specs.Listed.{patterns_of}
use Rattle.list.specs.Claims.{Standing}
use Rattle.list.proofs.Patterns.{standing, patterns_length}
use Rattle.trie.specs.Trie.{slots_of}
use Rattle.trie.specs.Owned.{owns_of}
use Rattle.trie.proofs.Starting.{made_none}
use Rattle.trie.proofs.Accepting.{Looked, looked_none, looked_more, looked_full, looked_all, never_two, looked_room, grew_few}
use Rattle.trie.proofs.add_all.Goals as goal
use Rattle.trie.proofs.add_all.Goals.{After-pattern_end, At-loop-i, In-loop-i}

pub returns-then-slots-lt2-clause-grown : goal.returns-then-slots-lt2-clause-grown
returns-then-slots-lt2-clause-grown c = never_two _ _ _ c.if-slots-lt2.true

pub loop-i-init : goal.loop-i-init
loop-i-init c = (
  omega arith,
  refl,
  refl,
  omega (arith, c.if-slots-lt2.false),
  looked_none _ _ _ _ _
      (rw c.begin.ensures (made_none c.args.trie.now _ _ (omega (arith, c.requires.1, c.if-slots-lt2.false)))),
)

-- the loop, with the slots of outputs as they are now
looked : (c : goal.At-loop-i)
    → Looked c.args.drops (patterns_of c.args.bytes.now c.args.ends.now) (slots_of c.loop-i.trie) (owns_of c.loop-i.owns)
    c.loop-i.grown.states c.loop-i.grown.accepted (length c.loop-i.owns) c.loop-i.i
looked c = looked_room (length c.loop-i.owns) c.loop-i.invariant.2 c.loop-i.invariant.4

-- the rows are as many as were lent
rows_lent : (c : goal.At-loop-i) → length c.loop-i.trie ≡ length c.args.trie.now
rows_lent c = c.loop-i.invariant.1 ∙ c.begin.auto.trie

in_list : (c : goal.In-loop-i) → c.loop-i.i < length (patterns_of c.args.bytes.now c.args.ends.now)
in_list c = omega (arith, patterns_length c.args.bytes.now c.args.ends.now, c.loop-i-test.true)

stands : (c : goal.After-pattern_end)
    → Standing c.args.bytes.now c.args.ends.now c.loop-i.i
stands c = standing c.args.bytes.now c.args.ends.now c.requires.0.cut c.loop-i.i c.loop-i-test.true

-- the part is the pattern
part : (c : goal.After-pattern_end)
    → take (c.pattern_end.result - c.pattern_start.result) (drop c.pattern_start.result c.args.bytes.now)
    ≡ get_or (patterns_of c.args.bytes.now c.args.ends.now) c.loop-i.i []
part c = rw (c.pattern_end.ensures, c.pattern_start.ensures) (stands c).part

pub slice_bounds-part-count : goal.slice_bounds-part-count
slice_bounds-part-count c = let s = stands (goal.at.slice_bounds-part-count c).After-pattern_end in omega (arith, c.pattern_start.ensures, c.pattern_end.ensures, s.ordered)

pub slice_bounds-part-start : goal.slice_bounds-part-start
slice_bounds-part-start c = let s = stands (goal.at.slice_bounds-part-start c).After-pattern_end in omega (arith, c.pattern_start.ensures, c.pattern_end.ensures, s.ordered)

pub slice_bounds-part-end : goal.slice_bounds-part-end
slice_bounds-part-end c = let s = stands (goal.at.slice_bounds-part-end c).After-pattern_end in omega (arith, c.pattern_end.ensures, s.within)

pub add_one-requires-clause-made_some : goal.add_one-requires-clause-made_some
add_one-requires-clause-made_some c =
    let A = looked (goal.at.add_one-requires-clause-made_some c).At-loop-i in
    record { es = A.es; made = A.made; room = omega (arith, c.loop-i.invariant.3, c.requires.1, rows_lent (goal.at.add_one-requires-clause-made_some c).At-loop-i) }

pub add_one-requires-clause-room : goal.add_one-requires-clause-room
add_one-requires-clause-room c =
    let A = looked (goal.at.add_one-requires-clause-room c).At-loop-i in (
      c.loop-i.invariant.3,
      omega (arith, c.requires.1, rows_lent (goal.at.add_one-requires-clause-room c).At-loop-i),
      omega (arith, A.few, c.loop-i-test.true, c.requires.0.few),
      rw (part (goal.at.add_one-requires-clause-room c).After-pattern_end) (c.requires.0.short c.loop-i.i c.loop-i-test.true),
    )

pub returns-in_err-grown-clause-grown : goal.returns-in_err-grown-clause-grown
returns-in_err-grown-clause-grown c =
    let A = looked (goal.at.returns-in_err-grown-clause-grown c).At-loop-i in
    grew_few _ _ _ _ _ _ c.from_residual.ensures.0
    (looked_full A _ _ (in_list (goal.at.returns-in_err-grown-clause-grown c).In-loop-i) (part (goal.at.returns-in_err-grown-clause-grown c).After-pattern_end) (c.in_err-grown.ensures A.es A.made))

pub loop-i-preserved : goal.loop-i-preserved
loop-i-preserved c =
    let A = looked (goal.at.loop-i-preserved c).At-loop-i in
    let g = c.in_ok-grown.ensures A.es A.made in (
      omega arith,
      c.add_one.auto.trie ∙ c.loop-i.invariant.1,
      c.add_one.auto.owns ∙ c.loop-i.invariant.2,
      g.1,
      looked_room _ (sym c.loop-i.invariant.2) (looked_more A _ _ _ _ _ (in_list (goal.at.loop-i-preserved c).In-loop-i) (part (goal.at.loop-i-preserved c).After-pattern_end) g.0),
    )

pub returns-clause-grown : goal.returns-clause-grown
returns-clause-grown c = (looked_all c.loop-i.invariant.4 (omega (arith, patterns_length c.args.bytes.now c.args.ends.now)), c.loop-i.invariant.3)
