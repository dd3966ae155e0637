-- `look` hands over the range, and seats the children at the base that was found.
use mathlib.Core.Path.{ap}
use Prim.Native.Nat.{ℕ, ◌*◌}
use Rattle.list.specs.Limits.{block}
use Rattle.placement.proofs.Placing.{sought_from, found_from, seat_here, looked_some, looked_none, as_some, as_none}
use Rattle.placement.proofs.look.Goals as goal

pub find_base-requires : goal.find_base-requires
find_base-requires c =
    let p = c.requires in
    record { es = p.es; layout = p.layout; seek = sought_from p.look _ (ap (λ (x : ℕ). x * block) c.first_block-from.ensures) }

pub seat-requires : goal.seat-requires
seat-requires c =
    let p = c.requires in
    let e = ap (λ (x : ℕ). x * block) c.first_block-from.ensures in
    let F = c.find_base.ensures p.es p.layout p.group (sought_from p.look _ e) p.of in
    record {
      es = p.es;
      seat = seat_here p.look p.group p.of _ c.find_base.auto.spots _ (as_some _ _ _ _ _ _ (found_from p.look _ e p.group c.find_base.result F.0) c.in-Some.is);
    }

pub returns : goal.returns
returns c = λ es l g L G.
    let e = ap (λ (x : ℕ). x * block) c.first_block-from.ensures in
    let F = c.find_base.ensures es l g (sought_from L _ e) G in
    let A = as_some _ _ _ _ _ _ (found_from L _ e g c.find_base.result F.0) c.in-Some.is in
    looked_some L g G c.find_base.auto.spots _ A F.1 (c.seat.ensures es (seat_here L g G _ c.find_base.auto.spots _ A))

pub returns-in_default : goal.returns-in_default
returns-in_default c = λ es l g L G.
    let e = ap (λ (x : ℕ). x * block) c.first_block-from.ensures in
    let F = c.find_base.ensures es l g (sought_from L _ e) G in
    looked_none L g G (as_none _ _ _ _ _ (found_from L _ e g c.find_base.result F.0) c.in_default.is) F.1
