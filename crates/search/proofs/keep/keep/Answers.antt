-- `keep` against its definition: what is left of the walk with the match in hand stays the whole.
use Rattle.std.specs.Prelude.{Ok}
use Rattle.search.proofs.Hunting.{handed_on}
use Rattle.search.proofs.Advancing.{stepped}
use Rattle.search.proofs.Loops.{kept_end, kept_stuck, kept_root, kept_broken, kept_given, kept_nothing, kept_matched, row_fits, few_before, falls_short}
use Rattle.table.specs.Agrees.{lent}
use mathlib.Core.Path.{refl, sym, ap, ◌∙◌}
use Rattle.search.proofs.keep.keep.Goals as goal

pub loop-at-init : goal.loop-at-init
loop-at-init c = record { same = refl; bounded = record { inside = c.requires.0; few = c.requires.2 } }

pub step-requires : goal.step-requires
step-requires c = (c.loop-at-test.true, few_before c.loop-at.invariant.bounded c.requires.1)

pub returns-in_err-at : goal.returns-in_err-at
returns-in_err-at c = handed_on _ c.from_residual.ensures.0 ∙ kept_stuck (lent c.args.tables.now) c.loop-at.invariant c.loop-at-test.true (sym c.step.ensures ∙ c.in_err-at.was)

pub returns-then-at-eq-ROOT : goal.returns-then-at-eq-ROOT
returns-then-at-eq-ROOT c = kept_root (lent c.args.tables.now) c.loop-at.invariant _ c.loop-at-test.true (sym c.step.ensures ∙ c.in_ok-at.was) c.if-at-eq-ROOT.true

pub matched-kept-requires : goal.matched-kept-requires
matched-kept-requires c = row_fits (lent c.args.tables.now) c.in_ok-at.at c.in-Some.row (sym c.output.ensures ∙ c.in_ok-row.was ∙ ap Ok c.in-Some.is)

pub returns-in_err-row : goal.returns-in_err-row
returns-in_err-row c = handed_on _ c.from_residual-in_err-row.ensures.0 ∙ kept_broken (lent c.args.tables.now) c.loop-at.invariant _ c.loop-at-test.true (sym c.step.ensures ∙ c.in_ok-at.was) c.if-at-eq-ROOT.false (sym c.output.ensures ∙ c.in_err-row.was)

pub loop-at-smaller-in-Some : goal.loop-at-smaller-in-Some
loop-at-smaller-in-Some c = falls_short c.args.text.now c.loop-at.at c.in_ok-at.at c.loop-at-test.true (stepped _ (lent c.args.tables.now) _ _ _ c.shallow.ensures (sym c.step.ensures ∙ c.in_ok-at.was)).onward

pub loop-at-preserved-in-Some : goal.loop-at-preserved-in-Some
loop-at-preserved-in-Some c = kept_matched _ c.matched-kept.ensures (kept_given (lent c.args.tables.now) c.loop-at.invariant _ c.loop-at-test.true (sym c.step.ensures ∙ c.in_ok-at.was) _ c.shallow.ensures c.if-at-eq-ROOT.false (sym c.output.ensures ∙ c.in_ok-row.was ∙ ap Ok c.in-Some.is))

pub loop-at-smaller : goal.loop-at-smaller
loop-at-smaller c = falls_short c.args.text.now c.loop-at.at c.in_ok-at.at c.loop-at-test.true (stepped _ (lent c.args.tables.now) _ _ _ c.shallow.ensures (sym c.step.ensures ∙ c.in_ok-at.was)).onward

pub loop-at-preserved : goal.loop-at-preserved
loop-at-preserved c = kept_nothing (lent c.args.tables.now) c.loop-at.invariant _ c.loop-at-test.true (sym c.step.ensures ∙ c.in_ok-at.was) c.shallow.ensures c.if-at-eq-ROOT.false (sym c.output.ensures ∙ c.in_ok-row.was ∙ ap Ok c.in_default.is)

pub returns : goal.returns
returns c = kept_end (lent c.args.tables.now) c.loop-at.invariant c.loop-at-test.false
