-- `desk::codes::Codes::row_has` compares the row's part of the bytes; where the ends cut the bytes it is there.
use mathlib.Core.Path.{ap, ◌∙◌}
use mathlib.Core.List.{List}
use Prim.Native.Nat.{ℕ}
use native.Mathlib.Omega.{arith}
use Rattle.paper.specs.Lists.{same}
use Rattle.desk.proofs.Scanning.{same_pointwise}
use Rattle.desk.proofs.Warning.{row_part, row_ordered, row_within}
use Rattle.desk.proofs.codes.Codes.row_has.Goals as goal

pub returns-in-Some : goal.returns-in-Some
returns-in-Some c =
    λ s. c.eq.ensures
    ∙ same_pointwise c.in-Some.part.now c.args.code.now
    ∙ ap (λ (part : List ℕ). same part c.args.code.now) c.in-Some.ensures.lookup.0.2
    ∙ row_part c.args.self.bytes.now c.args.self.ends.now c.args.code.now c.args.i c.pattern_start-start.result c.pattern_end-end.result
    c.pattern_start-start.ensures c.pattern_end-end.ensures c.requires s

pub returns-in-None : goal.returns-in-None
returns-in-None c =
    λ s. absurd
    (omega (
      arith,
      row_ordered c.args.self.bytes.now c.args.self.ends.now c.args.code.now c.args.i c.pattern_start-start.result c.pattern_end-end.result
          c.pattern_start-start.ensures c.pattern_end-end.ensures c.requires s,
      row_within c.args.self.bytes.now c.args.self.ends.now c.args.code.now c.args.i c.pattern_start-start.result c.pattern_end-end.result
          c.pattern_start-start.ensures c.pattern_end-end.ensures c.requires s,
      c.in-None.ensures.lookup,
    ))
