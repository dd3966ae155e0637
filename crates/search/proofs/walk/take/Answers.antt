-- `take` against its definition: the loop keeps that what is left of the walk is the whole walk, and that depths bound the links.
use Rattle.std.specs.Prelude.{Ok}
use Rattle.search.proofs.Hunting.{handed_on}
use Rattle.search.proofs.Walking.{link_falls, turn, to_child, to_damage, to_root, to_broken, to_dead}
use Rattle.search.specs.Bounds.{most_moves}
use native.Mathlib.Omega.{arith}
use Prim.Native.Nat.{◌+◌, ◌≤◌}
use mathlib.Core.Path.{sym, ap, ◌∙◌}
use Rattle.search.proofs.walk.take.Goals as goal
use Rattle.search.proofs.walk.take.Goals.{At-loop-child}

-- the count is far from the bound of its type
few_moves : (c : goal.At-loop-child) → c.loop-child.moves + 1 ≤ most_moves
few_moves c = omega (arith, c.loop-child.invariant.few, c.shallow.ensures c.args.from.0)

pub returns-in_err-child : goal.returns-in_err-child
returns-in_err-child c = handed_on _ c.from_residual.ensures.0 ∙ to_damage _ _ _ _ c.loop-child.invariant (sym c.probe.ensures ∙ c.in_err-child.was)

pub byte_taken-requires : goal.byte_taken-requires
byte_taken-requires c = omega (arith, few_moves (goal.at.byte_taken-requires c).At-loop-child)

pub returns-in-Some : goal.returns-in-Some
returns-in-Some c = ap Ok c.byte_taken.ensures ∙ to_child _ _ _ _ c.loop-child.invariant _ (sym c.probe.ensures ∙ c.in_ok-child.was ∙ ap Ok c.in-Some.is)

pub byte_taken-requires-then-s-eq-ROOT : goal.byte_taken-requires-then-s-eq-ROOT
byte_taken-requires-then-s-eq-ROOT c = omega (arith, few_moves (goal.at.byte_taken-requires-then-s-eq-ROOT c).At-loop-child)

pub returns-then-s-eq-ROOT : goal.returns-then-s-eq-ROOT
returns-then-s-eq-ROOT c = ap Ok c.byte_taken-then-s-eq-ROOT.ensures ∙ to_root _ _ _ _ c.loop-child.invariant (sym c.probe.ensures ∙ c.in_ok-child.was ∙ ap Ok c.in_default.is) c.if-s-eq-ROOT.true

pub returns-in_err-s : goal.returns-in_err-s
returns-in_err-s c = handed_on _ c.from_residual-in_err-s.ensures.0 ∙ to_broken _ _ _ _ c.loop-child.invariant (sym c.probe.ensures ∙ c.in_ok-child.was ∙ ap Ok c.in_default.is) c.if-s-eq-ROOT.false (sym c.link.ensures ∙ c.in_err-s.was)

pub overflow_add-moves : goal.overflow_add-moves
overflow_add-moves c = omega (arith, few_moves (goal.at.overflow_add-moves c).At-loop-child)

pub byte_taken-requires-then-leftmost_at : goal.byte_taken-requires-then-leftmost_at
byte_taken-requires-then-leftmost_at c = omega (arith, few_moves (goal.at.byte_taken-requires-then-leftmost_at c).At-loop-child)

pub returns-then-leftmost_at : goal.returns-then-leftmost_at
returns-then-leftmost_at c = ap Ok c.byte_taken-then-leftmost_at.ensures ∙ to_dead _ _ _ _ c.loop-child.invariant _ (sym c.probe.ensures ∙ c.in_ok-child.was ∙ ap Ok c.in_default.is) c.if-s-eq-ROOT.false (sym c.link.ensures ∙ c.in_ok-s.was) (sym c.if-leftmost_at.true ∙ c.leftmost_at.ensures)

pub loop-child-smaller : goal.loop-child-smaller
loop-child-smaller c = link_falls _ _ _ _ _ (sym c.link.ensures ∙ c.in_ok-s.was)

pub loop-child-preserved : goal.loop-child-preserved
loop-child-preserved c = turn _ _ _ _ c.loop-child.invariant _ (sym c.probe.ensures ∙ c.in_ok-child.was ∙ ap Ok c.in_default.is) c.if-s-eq-ROOT.false (sym c.link.ensures ∙ c.in_ok-s.was) (sym c.if-leftmost_at.false ∙ c.leftmost_at.ensures) (link_falls _ _ _ _ _ (sym c.link.ensures ∙ c.in_ok-s.was))
