-- `write_spares` goes along the blocks.
use mathlib.Core.Path.{◌≡◌, refl, ap, ◌∙◌}
use mathlib.Core.Option.{some}
use Prim.Native.Nat.{◌*◌}
use native.Mathlib.Numerals.{add-one}
use native.Mathlib.Omega.{arith}
use lib.ListN.{length}
use Rattle.list.specs.Limits.{block}
use Rattle.cells.specs.Writing.{unused_from}
use Rattle.cells.proofs.Sparing.{found_some, found_none, found_inside, blocks_more, blocks_past}
use Rattle.cells.proofs.write_spares.Goals as goal
use Rattle.cells.proofs.write_spares.Goals.{in-Some, in_default}

pub write_spare-requires : goal.write_spare-requires
write_spare-requires c =
    let k = c.loop-k.k in
    let t = c.loop-k-test.true in
    let p = c.requires in
    let found : unused_from c.args.spots.now (k * block) ≡ some c.in-Some.unused
    = found_some _ _ _ c.unused_base.ensures _ c.in-Some.is in
    let r = found_inside _ _ _ found in (
      record {
        number = k;
        whole = refl;
        in_spots = omega (arith, t, p.0);
        in_check = omega (arith, t, p.1, c.loop-k.invariant.0);
        above = r.0;
        below = r.1;
      },
      omega (arith, t, p.2),
    )

pub loop-k-preserved : goal.loop-k-preserved
loop-k-preserved c =
    let l = c.loop-k in
    let said = c.unused_base.ensures in
    rw (add-one l.k)
    (elim c.match-unused_base.branch [
      | in-Some w ↦ (
        ap length w.check-is ∙ w.write_spare.auto.check ∙ l.invariant.0,
        rw w.check-is (blocks_more l.invariant.1 w.in-Some.unused (found_some _ _ _ said _ w.in-Some.is) w.write_spare.ensures),
      )
      | in_default w ↦ (
        ap length w.check-is ∙ l.invariant.0,
        rw w.check-is (blocks_past l.invariant.1 (found_none _ _ _ said w.in_default.is)),
      )
    ])
