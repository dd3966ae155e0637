-- The loop keeps `Filling`: what is written and what is still to come are the whole load.
use mathlib.Core.Path.{refl, sym, ap, ◌∙◌}
use mathlib.Core.List.{[]}
use native.Mathlib.Omega.{arith}
use borrow.Author.Rules.{rules}
use lib.ListN.{set}
use lib.Seq.{set-get_or}
use Rattle.table.specs.Agrees.{lent}
use Rattle.search.specs.Values.{answer}
use Rattle.search.specs.Searches.{next_of}
use Rattle.sheet.proofs.Filling.{none_yet, one_more, at_full, at_end_lem, at_refusal}
use Rattle.sheet.proofs.Beginning.{told_at_once, unwritten, told_loaded}
use Rattle.sheet.proofs.fill.Goals as goal

pub returns-then-slots-eq0 : goal.returns-then-slots-eq0
returns-then-slots-eq0 g c =
    let a = c.args in
    record {
      tells = told_at_once g.S.Searching.which (lent a.tables.now) a.tables.now.counts.kind a.text.now a.value a.sheet.now _ c.if-slots-eq0.true c.at_once-stop.ensures refl refl;
      sheet_after = unwritten g.S.Searching.which (lent a.tables.now) a.tables.now.counts.kind a.text.now a.value a.sheet.now c.if-slots-eq0.true;
    }

pub loop-count-init : goal.loop-count-init
loop-count-init g c = let a = c.args in none_yet (next_of g.S.Searching.which (lent a.tables.now) a.tables.now.counts.kind a.text.now) _ _

pub loop-count-preserved : goal.loop-count-preserved
loop-count-preserved g c =
    let a = c.args in
    one_more (next_of g.S.Searching.which (lent a.tables.now) a.tables.now.counts.kind a.text.now) _ _ _ _ _ c.loop-count.invariant c.loop-count-test.true _ _
    (sym c.next.ensures ∙ ap answer c.in-Match.is) _ (ap (λ x. set c.loop-count.sheet c.loop-count.count x) c.record.ensures) (search rules) _ (omega arith)

pub returns-in-End : goal.returns-in-End
returns-in-End g c =
    let a = c.args in
    let C = at_end_lem (next_of g.S.Searching.which (lent a.tables.now) a.tables.now.counts.kind a.text.now) _ _ _ _ _ c.loop-count.invariant c.loop-count-test.true _
    (sym c.next.ensures ∙ ap answer c.in-End.is) in
    let both = told_loaded g.S.Searching.which (lent a.tables.now) a.tables.now.counts.kind a.text.now a.value a.sheet.now _ _ _ _ C (omega (arith, c.loop-count-test)) _ refl refl refl in
    record { tells = both.0; sheet_after = set-get_or c.loop-count.sheet c.loop-count.count [] ∙ both.1 }

pub returns-in-Refused : goal.returns-in-Refused
returns-in-Refused g c =
    let a = c.args in
    let C = at_refusal (next_of g.S.Searching.which (lent a.tables.now) a.tables.now.counts.kind a.text.now) _ _ _ _ _ c.loop-count.invariant c.loop-count-test.true _ _
    (sym c.next.ensures ∙ ap answer c.in-Refused.is) in
    let both = told_loaded g.S.Searching.which (lent a.tables.now) a.tables.now.counts.kind a.text.now a.value a.sheet.now _ _ _ _ C (omega (arith, c.loop-count-test)) _ refl refl refl in
    record { tells = both.0; sheet_after = set-get_or c.loop-count.sheet c.loop-count.count [] ∙ both.1 }

pub returns : goal.returns
returns g c =
    let a = c.args in
    let C = at_full (next_of g.S.Searching.which (lent a.tables.now) a.tables.now.counts.kind a.text.now) _ _ _ _ _ c.loop-count.invariant c.loop-count-test.false in
    let both = told_loaded g.S.Searching.which (lent a.tables.now) a.tables.now.counts.kind a.text.now a.value a.sheet.now _ _ _ _ C (omega (arith, c.if-slots-eq0)) _ refl (omega (arith, c.loop-count-test, c.loop-count.invariant.inside)) refl in
    record { tells = both.0; sheet_after = both.1 }
