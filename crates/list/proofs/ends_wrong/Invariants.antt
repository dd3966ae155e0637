-- `list::ends_wrong` is `ends_wrong`. The invariant: what is left to test is what was to test at the start.
use mathlib.Core.Path.{◌≡◌}
use Prim.Native.Nat.{◌≤◌}
use lib.ListN.{length, drop}
use Rattle.list.specs.Listed.{ends_wrong}
use Rattle.list.proofs.ends_wrong.Given as goal

abbrev pub invariant-loop-end : goal.invariant-loop-end
invariant-loop-end l = (l.end-index ≤ length l.ends) × (ends_wrong l.previous l.count (drop l.end-index l.ends) ≡ ends_wrong 0 l.count l.ends)
