-- `desk::text::Room::put` puts the front of the part that fits.
use mathlib.Core.Path.{ap, ◌∙◌}
use mathlib.Core.List.{List, ◌++◌}
use Prim.Native.Nat.{ℕ, ◌+◌, ◌-◌}
use native.Mathlib.Omega.{arith}
use lib.ListN.{take}
use lib.Seq.{length-take-le}
use Rattle.std.proofs.lemmas.Slice.{take-put_mid}
use Rattle.desk.proofs.Showing.{front_fits}
use Rattle.desk.proofs.text.Room.put.Goals as goal

pub returns : goal.returns
returns g c =
    let room = c.self.inside in
    let held = length-take-le room.size room.bytes c.self.invariant in
    take-put_mid room.size (room.size + c.min-size.result - room.size) room.bytes c.copy_from_slice.new.self (room.size + c.min-size.result) (omega arith) (omega arith)
    ∙ ap (λ (ys : List ℕ). take room.size room.bytes ++ ys) c.copy_from_slice.ensures.after
    ∙ front_fits (take room.size room.bytes) c.args.part.now g.row.N c.min-size.result (omega (arith, held, c.self.invariant, c.self.told)) (omega (arith, held, c.min-size.ensures))
    ∙ ap (λ (xs : List ℕ). take g.row.N (xs ++ c.args.part.now)) (c.self.view_is)
