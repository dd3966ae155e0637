-- `write_state` writes the five values of a state, each read by a function of its own.
use mathlib.Core.Path.{ap, ◌∙◌}
use Rattle.cells.specs.Writing.{seat_of}
use Rattle.cells.proofs.Seating.{cell_written}
use Rattle.cells.proofs.write_state.Goals as goal

pub returns : goal.returns
returns c =
    cell_written
    c.cell_of-i.ensures
    c.base_of.ensures
    (c.cell_of-there.ensures ∙ ap (seat_of c.args.automaton.notes.now) c.link_of-target.ensures)
    c.place_of.ensures
    c.byte_of.ensures
    c.depth.ensures
