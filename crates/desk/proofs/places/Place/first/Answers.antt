-- `desk::places::Place::first` is right in every sheet.
use native.Mathlib.Omega.{arith}
use Rattle.desk.proofs.Locating.{line_first, column_first}
use Rattle.desk.proofs.places.Place.first.Goals as goal

pub invariant_of-result : goal.invariant_of-result
invariant_of-result c = record { inside = omega arith; line_is = line_first c.args.sheet.now; column_is = column_first c.args.sheet.now }
