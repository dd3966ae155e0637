-- `write_spares` goes along the blocks.
use mathlib.Core.Path.{◌≡◌}
use lib.ListN.{length}
use Rattle.cells.specs.Writing.{BlocksSpared}
use Rattle.cells.proofs.write_spares.Given as goal

abbrev pub invariant-loop-k : goal.invariant-loop-k
invariant-loop-k l = (length l.check ≡ length l.initial.check) × BlocksSpared l.spots l.k l.initial.check l.check
