-- `list::first_sized` finds the first pattern of the size. The invariant: none before is of it.
use mathlib.Core.Path.{◌≡◌, sym, ◌∙◌}
use mathlib.Core.Bool.{Bool, true, false}
use native.Mathlib.Omega.{arith}
use borrow.Author.Count.{below_more}
use Rattle.list.proofs.Patterns.{ordered_from}
use Rattle.list.proofs.Scans.{fits, size_at, tested, sized_found, sized_missing}
use Rattle.list.proofs.first_sized.Goals as goal
use Rattle.list.proofs.first_sized.Goals.{After-between}

-- what the test said of pattern i
said : (c : goal.After-between) (b : Bool) → c.between.result ≡ b →
    fits c.args.least c.args.most (size_at c.args.ends.now c.loop-i.i) ≡ b
said c b h =
    tested c.args.least c.args.most c.args.ends.now c.loop-i.i _ _ b c.pattern_end.ensures c.pattern_start.ensures
    (sym c.between.ensures ∙ h)

pub overflow_sub-size : goal.overflow_sub-size
overflow_sub-size c =
    omega (arith, ordered_from 0 c.args.ends.now c.loop-i.i c.requires (omega arith))

pub returns-then-between : goal.returns-then-between
returns-then-between c =
    let turn = c.loop-i in
    sized_found c.args.least c.args.most c.args.ends.now turn.i (omega arith) (said (goal.at.returns-then-between c).After-between true c.if-between.true) turn.invariant.1

pub loop-i-preserved : goal.loop-i-preserved
loop-i-preserved c = (omega arith, below_more _ _ c.loop-i.invariant.1 (said (goal.at.loop-i-preserved c).After-between false c.if-between.false))

pub returns : goal.returns
returns c =
    let turn = c.loop-i in
    sized_missing c.args.least c.args.most c.args.ends.now turn.i (omega arith) turn.invariant.1
