-- `desk::rows::head_of` is `head_of`: each way out cites its law.
use mathlib.Core.Path.{sym, ap, ◌∙◌}
use Rattle.desk.specs.Rows.{marked, head_told}
use Rattle.desk.proofs.Rowing.{head_plain, head_mark, head_valued}
use Rattle.desk.proofs.rows.head_of.Goals as goal

pub returns-in_err-number_of : goal.returns-in_err-number_of
returns-in_err-number_of c =
    ap head_told c.from_residual.ensures ∙ ap (marked 0) (sym c.in_err-number_of.was ∙ c.number_of.ensures)
    ∙ head_plain c.args.number c.args.head.now c.in_default.ensures.cases

pub returns-in_default : goal.returns-in_default
returns-in_default c =
    ap (marked 0) (sym c.in_ok-number_of.was ∙ c.number_of.ensures) ∙ head_plain c.args.number c.args.head.now c.in_default.ensures.cases

pub returns-then-is_empty : goal.returns-then-is_empty
returns-then-is_empty c =
    head_mark c.args.number c.args.head.now c.in-Some.digits.now c.in-Some.ensures.cases.0 c.in-Some.ensures.cases.1 (sym c.if-is_empty.ensures)

pub returns-in_err-number_of-2 : goal.returns-in_err-number_of-2
returns-in_err-number_of-2 c =
    ap head_told c.from_residual-in_err-number_of-2.ensures ∙ ap (marked 1) (sym c.in_err-number_of-2.was ∙ c.number_of-2.ensures)
    ∙ head_valued c.args.number c.args.head.now c.in-Some.digits.now c.in-Some.ensures.cases.0 c.in-Some.ensures.cases.1 (sym c.if-is_empty.ensures)

pub returns : goal.returns
returns c =
    ap (marked 1) (sym c.in_ok-number_of-2.was ∙ c.number_of-2.ensures)
    ∙ head_valued c.args.number c.args.head.now c.in-Some.digits.now c.in-Some.ensures.cases.0 c.in-Some.ensures.cases.1 (sym c.if-is_empty.ensures)
