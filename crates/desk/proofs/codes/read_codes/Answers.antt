-- `desk::codes::read_codes` says what `codes` says.
use mathlib.Core.Path.{◌≡◌, refl, ap, ◌∙◌}
use mathlib.Core.List.{List, ◌++◌}
use Prim.Native.Nat.{ℕ, ◌≤◌, ◌+◌, ◌-◌}
use native.Mathlib.Omega.{arith}
use lib.ListN.{length, take, length-set}
use Rattle.std.proofs.Common.{rules}
use Rattle.std.proofs.lemmas.Slice.{take-put_mid}
use Rattle.desk.specs.Rows.{row_of}
use Rattle.desk.specs.declared.stretches.Lines.{Lines}
use Rattle.desk.proofs.Listing.{bare_most, begun, full, bad_line, line_fits, one_more, all_read}
use Rattle.desk.proofs.codes.read_codes.Goals as goal

pub loop-line-init : goal.loop-line-init
loop-line-init c =
    let e : c.into_iter-line-iterator.result.rest.now ≡ c.args.file.now =
    ap (λ (x : Lines). x.rest.now) c.into_iter-line-iterator.ensures.into_iter_gives ∙ c.of-line-items.ensures in
    rw e (tt, tt, begun (length c.args.ends.now) c.args.file.now c.args.bytes.now c.args.ends.now c.args.values.now c.args.marks.now, omega arith, refl, refl, refl, refl)

pub returns-then-ends-rows-clause-says : goal.returns-then-ends-rows-clause-says
returns-then-ends-rows-clause-says c =
    let turn = c.loop-line in
    full _ _ _ _ _ _ _ _ _ turn.invariant.2 _ _ c.in-Some.ensures.steps (omega (arith, turn.invariant.5))

pub returns-in_default-clause-says : goal.returns-in_default-clause-says
returns-in_default-clause-says c =
    let turn = c.loop-line in
    bad_line _ _ _ _ _ _ _ _ _ turn.invariant.2 _ _ c.in-Some.ensures.steps (omega (arith, turn.invariant.5)) c.row_of.result
    (c.row_of.ensures.row ∙ ap (row_of turn.rows) c.bare.ensures) c.in_default.is

pub loop-line-preserved : goal.loop-line-preserved
loop-line-preserved c =
    let turn = c.loop-line in
    let row = c.in-Some-row_of.row in
    let short : length row.code.now ≤ length c.in-Some.line.now =
    omega (arith, c.in-Some-row_of.ensures.within, ap length c.bare.ensures, bare_most c.in-Some.line.now) in
    let fits : turn.end + length row.code.now ≤ length turn.bytes =
    omega (arith, short, line_fits _ _ _ _ _ _ _ _ _ turn.invariant.2 _ _ c.in-Some.ensures.steps, turn.invariant.4, c.requires.file_fits_bytes) in
    let after = c.copy_from_slice.ensures.after in
    let put = take-put_mid turn.end (turn.end + length row.code.now - turn.end) turn.bytes c.copy_from_slice.new.self (turn.end + length row.code.now)
    (omega (arith, ap length after)) (omega (arith, fits)) ∙ ap (λ (ys : List ℕ). take turn.end turn.bytes ++ ys) after in (
      tt,
      tt,
      rw c.from.ensures
          (one_more _ _ _ _ _ _ _ _ _ turn.invariant.2 _ _ c.in-Some.ensures.steps (omega (arith, turn.invariant.5)) c.row_of.result row
          (c.row_of.ensures.row ∙ ap (row_of turn.rows) c.bare.ensures) c.in-Some-row_of.is short _ _ refl put
          (omega arith) (omega (arith, turn.invariant.6, turn.invariant.5, c.requires.ends_fit_values)) (omega (arith, turn.invariant.7, turn.invariant.5, c.requires.ends_fit_marks))),
      omega (arith, length-set turn.ends turn.rows (turn.end + length row.code.now)),
      search rules,
      length-set turn.ends _ _ ∙ turn.invariant.5,
      length-set turn.values _ _ ∙ turn.invariant.6,
      length-set turn.marks _ _ ∙ turn.invariant.7,
    )

pub returns-clause-says : goal.returns-clause-says
returns-clause-says c = all_read _ _ _ _ _ _ _ _ _ c.loop-line.invariant.2 c.in-None.ensures.steps.0

pub returns-clause-inside : goal.returns-clause-inside
returns-clause-inside c =
    let turn = c.loop-line in (omega (arith, turn.invariant.2.shorter, turn.invariant.4, c.requires.file_fits_bytes), turn.invariant.3)
