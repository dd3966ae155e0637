-- What lies within the slots of the cells lies within each column.
use Prim.Native.Nat.{ℕ, ◌≤◌}
use native.Mathlib.Omega.{arith}
use Rattle.std.specs.Prelude.{min}
use Rattle.std.proofs.Math.Nat.{min-le_left, min-le_right}
use Rattle.table.specs.Slots.{column_slots}
use Rattle.table.specs.Claims.{Under}

pub under : (n base link output check depth : ℕ) → n ≤ column_slots base link output check depth → Under n base link output check depth
under n base link output check depth h =
    let two = min base link in
    let three = min two output in
    let four = min three check in
    let h4 : n ≤ four = omega (arith, min-le_left four depth) in
    let h3 : n ≤ three = omega (arith, min-le_left three check) in
    let h2 : n ≤ two = omega (arith, min-le_left two output) in
    record {
      in_base = omega (arith, min-le_left base link);
      in_link = omega (arith, min-le_right base link);
      in_output = omega (arith, min-le_right two output);
      in_check = omega (arith, min-le_right three check);
      in_depth = omega (arith, min-le_right four depth);
    }
