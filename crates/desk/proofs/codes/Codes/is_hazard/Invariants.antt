-- `desk::codes::Codes::is_hazard` is `hazard`. The invariant: what the rows that are left say is what all say.
use Rattle.std.proofs.Common.{◌≡◌}
use lib.ListN.{drop}
use Rattle.list.specs.Listed.{patterns_of}
use Rattle.list.specs.Claims.{SoundEnds}
use Rattle.desk.specs.Hazards.{hazard}
use Rattle.desk.proofs.codes.Codes.is_hazard.Given as goal

abbrev pub invariant-loop-i : goal.invariant-loop-i
invariant-loop-i l =
    SoundEnds l.self.bytes.now l.self.ends.now
    → hazard (drop l.i (patterns_of l.self.bytes.now l.self.ends.now)) (drop l.i l.self.marks.now) l.code ≡ hazard (patterns_of l.self.bytes.now l.self.ends.now) l.self.marks.now l.code
