-- `desk::places::Place::advance` goes on to the place that is asked for.
use Rattle.std.proofs.Common.{◌≡◌}
use Rattle.desk.proofs.places.Place.advance.Given as goal

abbrev pub invariant-loop : goal.invariant-loop
invariant-loop l = (l.place.sheet ≡ l.initial.self.sheet) × (l.place.at ≡ l.counter)
