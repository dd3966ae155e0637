-- `write_spare` goes along the cells of a block.
use mathlib.Core.Path.{◌≡◌}
use Prim.Native.Nat.{◌≤◌}
use lib.ListN.{length}
use Rattle.cells.specs.Writing.{Spared}
use Rattle.cells.proofs.write_spare.Given as goal

abbrev pub invariant-loop-j : goal.invariant-loop-j
invariant-loop-j l =
    (l.from ≤ l.j) × (length l.check ≡ length l.initial.check) × Spared l.spots l.unused l.from l.j l.initial.check l.check
