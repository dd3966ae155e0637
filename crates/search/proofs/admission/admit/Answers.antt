-- `admit` by its ways, in the order of the refusals.
use mathlib.Core.Path.{sym, ◌∙◌}
use lib.Dec.{ltb}
use Rattle.table.specs.Agrees.{lent}
use Rattle.list.specs.Limits.{last_kind}
use Rattle.std.proofs.lemmas.Bool.{or_left, or_right, lt-ltb, le-ltb}
use Rattle.search.proofs.Admitting.{told_other, told_long, told_damage, told_none}
use Rattle.search.proofs.admission.admit.Goals as goal
use Rattle.search.proofs.admission.admit.Goals.{then-tables-gt-LAST_KIND-via-then-tables-gt-LAST_KIND, then-tables-gt-LAST_KIND-via-else-tables-gt-LAST_KIND+then-counts_broken, then-tables-gt-LAST_KIND-via-else-tables-gt-LAST_KIND+else-counts_broken+then-value_broken}

pub returns-then-is_other : goal.returns-then-is_other
returns-then-is_other c = let a = c.args in told_other a.leftmost (lent a.tables.now) a.tables.now.counts.kind a.length a.value (sym c.is_other.ensures ∙ c.if-is_other.true)

pub returns-then-length-gt-MOST_TEXT : goal.returns-then-length-gt-MOST_TEXT
returns-then-length-gt-MOST_TEXT c = let a = c.args in told_long a.leftmost (lent a.tables.now) a.tables.now.counts.kind a.length a.value (sym c.is_other.ensures ∙ c.if-is_other.false) c.if-length-gt-MOST_TEXT.true

pub returns-then-tables-gt-LAST_KIND : goal.returns-then-tables-gt-LAST_KIND
returns-then-tables-gt-LAST_KIND c =
    let a = c.args in
    told_damage a.leftmost (lent a.tables.now) a.tables.now.counts.kind a.length a.value (sym c.is_other.ensures ∙ c.if-is_other.false) c.if-length-gt-MOST_TEXT.false
    (elim c.then-tables-gt-LAST_KIND.branch [
      | then-tables-gt-LAST_KIND-via-then-tables-gt-LAST_KIND w ↦ or_left _ _ (lt-ltb _ _ w.if-tables-gt-LAST_KIND.true)
      | then-tables-gt-LAST_KIND-via-else-tables-gt-LAST_KIND+then-counts_broken w ↦ or_right (ltb last_kind a.tables.now.counts.kind) _ (or_left _ _ (sym w.counts_broken.ensures ∙ w.if-counts_broken.true))
      | then-tables-gt-LAST_KIND-via-else-tables-gt-LAST_KIND+else-counts_broken+then-value_broken w ↦ or_right (ltb last_kind a.tables.now.counts.kind) _ (or_right _ _ (sym w.value_broken.ensures ∙ w.if-value_broken.true))
    ])

pub returns : goal.returns
returns c = let a = c.args in told_none a.leftmost (lent a.tables.now) a.tables.now.counts.kind a.length a.value (sym c.is_other.ensures ∙ c.if-is_other.false) c.if-length-gt-MOST_TEXT.false (rw (le-ltb last_kind a.tables.now.counts.kind c.if-tables-gt-LAST_KIND.false, sym c.counts_broken.ensures ∙ c.if-counts_broken.false, sym c.value_broken.ensures ∙ c.if-value_broken.false))
