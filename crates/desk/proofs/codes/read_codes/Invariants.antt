-- `desk::codes::read_codes` says what `codes` says. The invariant: the rows so far, which the tables hold, and what the lines that are left say.
use Rattle.std.proofs.Common.{◌≡◌, ◌≤◌, length}
use Rattle.desk.specs.Stretches.{lines_of}
use Rattle.desk.proofs.Listing.{Reading}
use Rattle.desk.proofs.codes.read_codes.Given as goal

abbrev pub invariant-loop-line : goal.invariant-loop-line
invariant-loop-line l =
    (goal.iterator-loop-line).can_next l.line-iterator × (goal.iterator-loop-line).is_finite l.line-iterator
    × Reading (length l.initial.ends) l.fn.file (lines_of l.line-iterator.rest.now) l.rows l.end l.bytes l.ends l.values l.marks
    × (l.rows ≤ length l.ends)
    × (length l.bytes ≡ length l.initial.bytes)
    × (length l.ends ≡ length l.initial.ends)
    × (length l.values ≡ length l.initial.values)
    × (length l.marks ≡ length l.initial.marks)
