-- `list::pattern_start` is the end before the index, and 0 at the first.
use mathlib.Core.Path.{◌∙◌}
use Rattle.list.proofs.Scans.{start_before}
use Rattle.list.proofs.pattern_start.Goals as goal

pub returns : goal.returns
returns c = c.pattern_end.ensures ∙ start_before c.args.ends.now c.args.i c.if-i-eq0.false
