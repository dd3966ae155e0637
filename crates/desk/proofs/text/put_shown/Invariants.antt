-- `desk::text::put_shown` puts no control byte. The invariant: so far there is none, and what was put stands within the line.
use Prim.Native.Nat.{◌≤◌}
use lib.ListN.{length}
use Rattle.desk.specs.Shown.{CleanFrom}
use Rattle.desk.proofs.text.put_shown.Given as goal

abbrev pub invariant-loop-byte : goal.invariant-loop-byte
invariant-loop-byte l = record {
  room : l.end ≤ length l.line → l.at ≤ length l.line;
  shown : CleanFrom l.initial.line l.line l.end l.at;
}
