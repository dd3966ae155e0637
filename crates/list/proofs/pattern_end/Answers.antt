-- `list::pattern_end` is the end at the index: an element of the slice fits.
use native.Mathlib.Omega.{arith}
use Rattle.list.proofs.pattern_end.Goals as goal

pub overflow_cast-result : goal.overflow_cast-result
overflow_cast-result c = omega (arith, c.type_inv.ends c.args.i)
