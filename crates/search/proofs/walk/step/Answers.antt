-- `step` by its ways: the byte's walk, then the place of the outputs.
use Rattle.std.specs.Prelude.{Ok}
use Rattle.search.proofs.Hunting.{handed_on}
use Rattle.search.proofs.Advancing.{step_damaged, step_goes, step_astray}
use Rattle.search.specs.Values.{value_of}
use Rattle.table.specs.Agrees.{lent}
use lib.ListN.{get_or}
use Prim.Native.Nat.{ℕ, ◌+◌}
use mathlib.Core.Path.{ap, ◌∙◌}
use Rattle.search.proofs.walk.step.Goals as goal

pub returns-in_err-state : goal.returns-in_err-state
returns-in_err-state c = let a = c.args in handed_on _ c.from_residual.ensures.0 ∙ step_damaged a.leftmost (lent a.tables.now) a.at (get_or a.text.now a.at.place 0) _ c.take.ensures c.in_err-state.was

pub returns-in_err-begins : goal.returns-in_err-begins
returns-in_err-begins c = let a = c.args in handed_on _ c.from_residual-in_err-begins.ensures.0 ∙ step_astray a.leftmost (lent a.tables.now) a.at (get_or a.text.now a.at.place 0) _ c.take.ensures _ _ c.in_ok-state.was _ c.begins.ensures c.in_err-begins.was

pub returns : goal.returns
returns c = let a = c.args in ap Ok (c.moved.ensures ∙ ap (λ (p : ℕ). value_of c.in_ok-state.state p (a.at.place + 1) c.in_ok-state.moves) c.unwrap_or-output.ensures) ∙ step_goes a.leftmost (lent a.tables.now) a.at (get_or a.text.now a.at.place 0) _ c.take.ensures _ _ c.in_ok-state.was _ c.begins.ensures _ c.in_ok-begins.was
