-- `fill` stores the outputs, and writes the cells with the places that they got.
use Rattle.whole.specs.Whole.{layout_of}
use Rattle.build.proofs.Phasing.{writable, filled}
use Rattle.build.proofs.phases.fill.Goals as goal

pub write_cells-requires : goal.write_cells-requires
write_cells-requires c =
    let p = c.requires in
    record {
      es = p.es;
      layout = layout_of p.es;
      link_of = _;
      place_of = _;
      writable = writable p.fillable (c.store_outputs-stored.ensures p.kind p.es p.fillable.tabled) c.store_outputs-stored.auto.notes;
      blanks = p.fillable.blanks;
    }

pub returns : goal.returns
returns c = λ kind es F.
    let P = c.store_outputs-stored.ensures kind es F.tabled in
    filled F P (c.write_cells.ensures es _ _ _ (writable F P c.store_outputs-stored.auto.notes) F.blanks)
