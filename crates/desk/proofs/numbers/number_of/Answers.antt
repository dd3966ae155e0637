-- `desk::numbers::number_of` is `number_of`. The invariant: what the digits so far and those that are left spell is what all spell.
use mathlib.Core.Path.{sym, ◌∙◌}
use Rattle.desk.proofs.Spelling.{digits_not, digits_next, digits_end, decimal_next, decimal_end, no_digits, grown_large, a_number}
use Rattle.std.proofs.Common.{◌≡◌, ◌+◌, ◌-◌, ◌*◌}
use lib.ListN.{get_or}
use native.Mathlib.Omega.{arith}
use Rattle.desk.proofs.numbers.number_of.Goals as goal

pub returns-then-not-is_ascii_digit : goal.returns-then-not-is_ascii_digit
returns-then-not-is_ascii_digit c =
    let turn = c.loop-byte in
    no_digits c.args.digits.now (sym turn.invariant.1 ∙ digits_not c.args.digits.now turn.byte-index (omega arith) (sym c.if-not-is_ascii_digit.ensures.value))

pub returns-in_err-checked_mul : goal.returns-in_err-checked_mul
returns-in_err-checked_mul c =
    let turn = c.loop-byte in
    c.from_residual.ensures
    ∙ grown_large c.args.digits.now turn.byte-index turn.number (omega arith) turn.invariant.2 (omega (arith, c.in_err-checked_mul.ensures))

pub returns-in_err-number : goal.returns-in_err-number
returns-in_err-number c =
    let turn = c.loop-byte in
    c.from_residual-in_err-number.ensures
    ∙ grown_large c.args.digits.now turn.byte-index turn.number (omega arith) turn.invariant.2 (omega (arith, c.in_err-number.ensures, c.in_ok-checked_mul.ensures))

pub loop-byte-preserved : goal.loop-byte-preserved
loop-byte-preserved c =
    let turn = c.loop-byte in
    let e : c.in_ok-number.number ≡ turn.number * 10 + (get_or c.args.digits.now turn.byte-index 0 - 48) =
    omega (arith, c.in_ok-number.ensures, c.in_ok-checked_mul.ensures, c.from.ensures) in (
      omega (arith, c.in_ok-number.ensures),
      digits_next c.args.digits.now turn.byte-index (omega arith) (sym c.if-not-is_ascii_digit.ensures.value) ∙ turn.invariant.1,
      rw e (decimal_next c.args.digits.now turn.byte-index turn.number (omega arith) ∙ turn.invariant.2),
    )

pub returns : goal.returns
returns c =
    let turn = c.loop-byte in
    a_number c.args.digits.now turn.number (sym c.if-is_empty.ensures)
    (sym turn.invariant.1 ∙ digits_end c.args.digits.now turn.byte-index (omega arith))
    (sym turn.invariant.2 ∙ decimal_end c.args.digits.now turn.byte-index turn.number (omega arith))
    (omega (arith, turn.invariant.0))
