-- `desk::stretches::Lines` yields the lines of a file.
use mathlib.Core.Path.{sym, ap}
use lib.ListN.{length}
use native.Mathlib.Omega.{arith}
use Rattle.desk.proofs.Scanning.{no_line, line_and_rest}
use Rattle.desk.proofs.stretches.LinesIterator.next.Goals as goal

pub returns-then-is_empty-clause-steps : goal.returns-then-is_empty-clause-steps
returns-then-is_empty-clause-steps c =
    let e = no_line c.args.self.now.rest.now (sym c.if-is_empty.ensures) in (e, e)

pub returns-clause-steps : goal.returns-clause-steps
returns-clause-steps c =
    line_and_rest c.args.self.now.rest.now c.count_ahead-size.result c.min-next.result (sym c.if-is_empty.ensures) c.count_ahead-size.ensures.ahead c.min-next.ensures

pub returns-clause-goes : goal.returns-clause-goes
returns-clause-goes c =
    let e = line_and_rest c.args.self.now.rest.now c.count_ahead-size.result c.min-next.result (sym c.if-is_empty.ensures) c.count_ahead-size.ensures.ahead c.min-next.ensures in
    record { on = λ f. (tt, f, omega (arith, ap length e)); keeps = tt; rests = λ f. tt }
