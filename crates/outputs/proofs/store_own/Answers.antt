-- `store_own` stores the entries of a pile from the latest to the first.
use mathlib.Core.Path.{◌∙◌}
use native.Mathlib.Omega.{arith}
use Rattle.outputs.proofs.Stacking.{Taken, taken, onward, ended}
use Rattle.outputs.proofs.store_own.Goals as goal
use Rattle.outputs.proofs.store_own.Goals.{In-loop-k}

-- the entry at which the loop stands, of the pile that the caller showed
standing : (c : goal.In-loop-k)
    → let a = c.args in let p = c.requires in
    Taken a.owns.now p.bound p.own a.stored c.loop-k.n c.loop-k.k
standing c =
    let p = c.requires in
    let A = c.loop-k.invariant.1 p.bound p.own p.pile in
    taken A.0 A.1 c.loop-k-test.true

pub bounds-values-own_row : goal.bounds-values-own_row
bounds-values-own_row c =
    let T = standing (goal.at.bounds-values-own_row c).In-loop-k in
    omega (arith, c.own_row.ensures, T.row_is, c.requires.valued T.entry T.listed)

pub loop-k-preserved : goal.loop-k-preserved
loop-k-preserved c = (
  c.set_output.auto.outs ∙ c.loop-k.invariant.0,
  λ bound own p.
      let A = c.loop-k.invariant.1 bound own p in
      rw (c.own_before-k.ensures, c.set_output.ensures) (rw c.own_row.ensures (onward A.0 A.1 c.loop-k-test.true)),
)

pub returns : goal.returns
returns c = λ bound own p s. let A = c.loop-k.invariant.1 bound own p in ended A.0 A.1 c.loop-k-test.false s
