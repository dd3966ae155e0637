-- `desk::places::Place::next` is right behind a byte.
use native.Mathlib.Omega.{arith}
use Rattle.desk.proofs.Locating.{line_most, column_most, line_feed_next, line_byte_next, column_byte_next, column_feed_next}
use Rattle.desk.proofs.places.Place.next.Goals as goal

pub overflow_add-result : goal.overflow_add-result
overflow_add-result c =
    let place = c.args.self in omega (arith, line_most place.sheet.now place.at c.requires place.line place.line_is)

pub invariant_of-result : goal.invariant_of-result
invariant_of-result c =
    let place = c.args.self in
    let feed = c.if-sheet-self-eq-LINE_FEED.true in
    record {
      inside = omega (arith, c.requires);
      line_is = line_feed_next place.sheet.now place.at c.requires place.line place.line_is feed;
      column_is = column_feed_next place.sheet.now place.at c.requires feed;
    }

pub overflow_add-result-2 : goal.overflow_add-result-2
overflow_add-result-2 c =
    let place = c.args.self in omega (arith, column_most place.sheet.now place.at c.requires place.column place.column_is)

pub invariant_of-result-2 : goal.invariant_of-result-2
invariant_of-result-2 c =
    let place = c.args.self in
    let byte = c.if-sheet-self-eq-LINE_FEED.false in
    record {
      inside = omega (arith, c.requires);
      line_is = line_byte_next place.sheet.now place.at c.requires place.line place.line_is byte;
      column_is = column_byte_next place.sheet.now place.at c.requires place.column place.column_is byte;
    }
