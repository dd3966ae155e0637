-- `desk::stretches::count_ahead` is `ahead`.
use mathlib.Core.Path.{ap, ◌∙◌}
use Rattle.std.proofs.Common.{length, ℕ}
use Rattle.std.specs.Prelude.{Option, unwrap_or}
use Rattle.desk.proofs.Scanning.{ahead_position}
use Rattle.desk.proofs.stretches.count_ahead.Goals as goal

pub returns-clause-ahead : goal.returns-clause-ahead
returns-clause-ahead c =
    c.unwrap_or.ensures ∙ ap (λ (o : Option ℕ). unwrap_or o (length c.args.bytes.now)) c.position_of.ensures
    ∙ ahead_position c.args.byte c.args.bytes.now
