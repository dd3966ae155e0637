-- `list::ends_wrong` is `ends_wrong`. The invariant: what is left to test is what was to test at the start.
use mathlib.Core.Path.{refl, sym, ◌∙◌}
use native.Mathlib.Omega.{arith}
use Rattle.list.proofs.Scans.{wrong_here, wrong_next, wrong_last}
use Rattle.list.proofs.ends_wrong.Goals as goal

pub returns-then-end-previous : goal.returns-then-end-previous
returns-then-end-previous c =
    let turn = c.loop-end in
    sym (wrong_here c.args.count turn.previous c.args.ends.now turn.end-index _ (omega arith) refl c.if-end-previous.true) ∙ turn.invariant.1

pub loop-end-preserved : goal.loop-end-preserved
loop-end-preserved c =
    let turn = c.loop-end in
    (omega arith, wrong_next c.args.count turn.previous c.args.ends.now turn.end-index _ (omega arith) refl c.if-end-previous.false ∙ turn.invariant.1)

pub returns : goal.returns
returns c =
    let turn = c.loop-end in
    sym (wrong_last c.args.count turn.previous c.args.ends.now turn.end-index (omega arith)) ∙ turn.invariant.1
