-- `write_cells` writes the states' cells, then the checks of the cells without a byte.
use mathlib.Core.Path.{◌∙◌}
use Rattle.cells.proofs.States.{readable}
use Rattle.cells.proofs.Seats.{inside}
use Rattle.cells.proofs.Checks.{written}
use Rattle.cells.proofs.write_cells.Goals as goal

pub write_states-requires : goal.write_states-requires
write_states-requires c = let p = c.requires in record { readable = readable p.writable; inside = inside p.writable p.blanks }

pub returns : goal.returns
returns c = λ es l link_of place_of W B.
    let states = c.write_states in
    let spares = c.write_spares in
    written W B states.ensures spares.ensures (spares.auto.check ∙ states.auto.check)
