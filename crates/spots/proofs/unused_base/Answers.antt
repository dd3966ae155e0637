-- `unused_base` scans the block.
use mathlib.Core.Path.{sym, ◌∙◌}
use Rattle.spots.proofs.Hunting.{scan_found, scan_end}
use Rattle.spots.proofs.unused_base.Goals as goal

pub returns-then-not-is_used : goal.returns-then-not-is_used
returns-then-not-is_used c = sym (scan_found c.loop-b.invariant c.loop-b-test.true (sym c.is_used.ensures ∙ c.if-not-is_used.true))

pub returns : goal.returns
returns c = sym (scan_end c.loop-b.invariant c.loop-b-test.false)
