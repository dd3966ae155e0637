-- `lay_out` hands the table of groups from one phase to the other.
use Rattle.build.proofs.Phasing.{placeable, laid_by}
use Rattle.build.proofs.phases.lay_out.Goals as goal

pub place_all-requires : goal.place_all-requires
place_all-requires c =
    let p = c.requires in
    record { es = p.es; gs = _; placeable = placeable p.layable (c.order_groups-groups.ensures p.es p.layable.groupable) c.order_groups-groups.auto.notes }

pub returns : goal.returns
returns c = λ es L.
    let G = c.order_groups-groups.ensures es L.groupable in
    laid_by es _ _ _ _ _ _ c.place_all.result G (c.place_all.ensures es _ (placeable L G c.order_groups-groups.auto.notes))
