-- `desk::codes::Codes::is_hazard` is `hazard`.
use mathlib.Core.Path.{sym, ◌∙◌}
use native.Mathlib.Decide.{dec_lt}
use lib.ListN.{length}
use native.Mathlib.Omega.{arith}
use Rattle.list.specs.Listed.{patterns_of}
use Rattle.list.proofs.Patterns.{patterns_length}
use Rattle.desk.proofs.Warning.{hazard_here, hazard_next, hazard_ends, hazard_unmarked}
use Rattle.desk.proofs.codes.Codes.is_hazard.Goals as goal

pub returns-then-row_warns : goal.returns-then-row_warns
returns-then-row_warns c =
    let turn = c.loop-i in
    let ps = patterns_of c.args.self.bytes.now c.args.self.ends.now in
    let count = patterns_length c.args.self.bytes.now c.args.self.ends.now in
    λ s. sym (hazard_here ps c.args.self.marks.now c.args.code.now turn.i (omega (arith, count)) (omega arith) c.row_warns.result (c.row_warns.ensures s) c.if-row_warns.true)
    ∙ turn.invariant s

pub loop-i-preserved : goal.loop-i-preserved
loop-i-preserved c =
    let turn = c.loop-i in
    let ps = patterns_of c.args.self.bytes.now c.args.self.ends.now in
    let count = patterns_length c.args.self.bytes.now c.args.self.ends.now in
    λ s. hazard_next ps c.args.self.marks.now c.args.code.now turn.i (omega (arith, count)) (omega arith) c.row_warns.result (c.row_warns.ensures s) c.if-row_warns.false
    ∙ turn.invariant s

pub returns : goal.returns
returns c =
    let turn = c.loop-i in
    let ps = patterns_of c.args.self.bytes.now c.args.self.ends.now in
    let count = patterns_length c.args.self.bytes.now c.args.self.ends.now in
    λ s. sym
    (elim (dec_lt turn.i (length c.args.self.ends.now)) [
      | yes h ↦ hazard_unmarked ps c.args.self.marks.now c.args.code.now turn.i (omega arith)
      | no h ↦ hazard_ends ps c.args.self.marks.now c.args.code.now turn.i (omega (arith, count))
    ])
    ∙ turn.invariant s
