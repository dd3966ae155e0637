-- `seek` against its definition: what is left of the walk stays the whole walk.
use Rattle.std.specs.Prelude.{Result, Ok}
use Rattle.table.specs.declared.Damage.{Damage}
use Rattle.search.proofs.Hunting.{handed_on}
use Rattle.search.proofs.Advancing.{Stepped, stepped}
use Rattle.search.proofs.Loops.{sought_given, sought_broken, sought_end, sought_stuck, sought_on, few_before, falls_short}
use Rattle.search.proofs.Calls.{arrived}
use Rattle.search.specs.declared.seek.Sought.{Sought}
use Rattle.search.specs.Bounds.{Arrives}
use Rattle.search.specs.Searches.{seek_of, rest}
use Rattle.table.specs.Agrees.{lent}
use mathlib.Core.Path.{◌≡◌, refl, sym, ap, ◌∙◌}
use Rattle.search.proofs.seek.seek.Goals as goal
use Rattle.search.proofs.seek.seek.Goals.{At-loop-row, In_ok-at}

-- a step goes one byte on
going : (c : goal.In_ok-at) → Stepped c.loop-row.at c.in_ok-at.at
going c = stepped _ (lent c.args.tables.now) _ _ _ c.shallow.ensures (sym c.step.ensures ∙ c.in_ok-at.was)

-- what it comes to lies in the text
reaches : (c : goal.At-loop-row) → (r : Result Sought Damage) → r ≡ seek_of c.args.leftmost (lent c.args.tables.now) c.args.from (rest c.args.text.now c.args.from) → Arrives c.args.text.now r
reaches c r e = arrived c.args.leftmost (lent c.args.tables.now) c.args.text.now c.shallow.ensures c.args.from c.requires.0 c.requires.2 r e

pub loop-row-init : goal.loop-row-init
loop-row-init c = record { same = refl; bounded = record { inside = c.requires.0; few = c.requires.2 } }

pub returns-in_err-row : goal.returns-in_err-row
returns-in_err-row c =
    let e = handed_on _ c.from_residual.ensures.0 ∙ sought_broken c.args.leftmost (lent c.args.tables.now) c.loop-row.invariant (sym c.output.ensures ∙ c.in_err-row.was) in
    record { walked = e; arrives = reaches (goal.at.returns-in_err-row c).At-loop-row _ e }

pub returns-in-Some : goal.returns-in-Some
returns-in-Some c =
    let e = sought_given c.args.leftmost (lent c.args.tables.now) c.loop-row.invariant _ (sym c.output.ensures ∙ c.in_ok-row.was ∙ ap Ok c.in-Some.is) in
    record { walked = e; arrives = reaches (goal.at.returns-in-Some c).At-loop-row _ e }

pub returns-then-text-at : goal.returns-then-text-at
returns-then-text-at c =
    let e = sought_end c.args.leftmost (lent c.args.tables.now) c.loop-row.invariant (sym c.output.ensures ∙ c.in_ok-row.was ∙ ap Ok c.in_default.is) c.if-text-at.true in
    record { walked = e; arrives = reaches (goal.at.returns-then-text-at c).At-loop-row _ e }

pub step-requires : goal.step-requires
step-requires c = (c.if-text-at.false, few_before c.loop-row.invariant.bounded c.requires.1)

pub returns-in_err-at : goal.returns-in_err-at
returns-in_err-at c =
    let e = handed_on _ c.from_residual-in_err-at.ensures.0 ∙ sought_stuck c.args.leftmost (lent c.args.tables.now) c.loop-row.invariant (sym c.output.ensures ∙ c.in_ok-row.was ∙ ap Ok c.in_default.is) c.if-text-at.false (sym c.step.ensures ∙ c.in_err-at.was) in
    record { walked = e; arrives = reaches (goal.at.returns-in_err-at c).At-loop-row _ e }

pub loop-row-smaller : goal.loop-row-smaller
loop-row-smaller c = falls_short c.args.text.now c.loop-row.at c.in_ok-at.at c.if-text-at.false (going c).onward

pub loop-row-preserved : goal.loop-row-preserved
loop-row-preserved c = sought_on c.args.leftmost (lent c.args.tables.now) c.loop-row.invariant _ c.shallow.ensures (sym c.output.ensures ∙ c.in_ok-row.was ∙ ap Ok c.in_default.is) c.if-text-at.false (sym c.step.ensures ∙ c.in_ok-at.was)
