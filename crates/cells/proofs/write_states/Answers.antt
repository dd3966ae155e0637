-- `write_states` writes the cell of each state but dead.
use native.Mathlib.Numerals.{add-one}
use Rattle.cells.proofs.Seating.{states_none, states_dead, states_more}
use Rattle.cells.proofs.write_states.Goals as goal
use Rattle.cells.proofs.write_states.Goals.{then-k-ne1, else-k-ne1}

pub loop-k-init : goal.loop-k-init
loop-k-init c = states_none

pub loop-k-preserved : goal.loop-k-preserved
loop-k-preserved c =
    rw (add-one c.loop-k.k)
    (elim c.if-k-ne1.branch [
      | then-k-ne1 w ↦
          rw (w.base-is, w.link-is, w.output-is, w.check-is, w.depth-is) (states_more c.loop-k.invariant w.if-k-ne1.true w.write_state.ensures)
      | else-k-ne1 w ↦
          rw (w.base-is, w.link-is, w.output-is, w.check-is, w.depth-is) (states_dead c.loop-k.invariant w.if-k-ne1.false)
    ])
