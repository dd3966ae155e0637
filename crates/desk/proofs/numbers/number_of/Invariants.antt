-- `desk::numbers::number_of` is `number_of`. The invariant: what the digits so far and those that are left spell is what all spell.
use Rattle.std.proofs.Common.{◌≡◌, ◌<◌}
use lib.ListN.{drop}
use Rattle.desk.specs.Numbers.{all_digits, decimal_from}
use Rattle.desk.proofs.numbers.number_of.Given as goal

abbrev pub invariant-loop-byte : goal.invariant-loop-byte
invariant-loop-byte l =
    (l.number < 4294967296)
    × (all_digits (drop l.byte-index l.digits) ≡ all_digits l.digits)
    × (decimal_from l.number (drop l.byte-index l.digits) ≡ decimal_from 0 l.digits)
