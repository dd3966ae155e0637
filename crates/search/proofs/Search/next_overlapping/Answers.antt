-- `next_overlapping` by its ways: refused first, or as the walk says.
use Rattle.std.specs.Prelude.{Ok}
use Rattle.search.proofs.Calls.{granted, few_at, refused_first, walk_damaged, overlapping_gives, overlapping_ends}
use Rattle.table.specs.Agrees.{lent}
use Rattle.search.specs.Values.{overlapping, gives}
use lib.ListN.{length}
use mathlib.Core.Bool.{false}
use mathlib.Core.Path.{ap, ap₂, ◌∙◌}
use Rattle.search.proofs.Search.next_overlapping.Goals as goal

pub seek-requires : goal.seek-requires
seek-requires c = let a = c.args in let G = granted false (lent a.tables.now) a.tables.now.counts.kind (length a.text.now) a.self _ c.admit.ensures c.in_default.is in (G.inside, G.short, few_at G)

pub returns-in-Err : goal.returns-in-Err
returns-in-Err c = let a = c.args in refused_first overlapping (lent a.tables.now) a.tables.now.counts.kind a.text.now a.self _ c.admit.ensures _ c.in-Err.is

pub returns-in-Given : goal.returns-in-Given
returns-in-Given c = let a = c.args in ap₂ gives c.matched.ensures c.moved.ensures ∙ overlapping_gives (lent a.tables.now) a.tables.now.counts.kind a.text.now a.self _ c.in_default.is _ c.admit.ensures c.seek.ensures.walked _ _ (c.in-Ok.is ∙ ap Ok c.in-Given.is)

pub returns-in-End : goal.returns-in-End
returns-in-End c = let a = c.args in overlapping_ends (lent a.tables.now) a.tables.now.counts.kind a.text.now a.self _ c.in_default.is _ c.admit.ensures c.seek.ensures.walked _ (c.in-Ok.is ∙ ap Ok c.in-End.is)

pub returns-in_default-seek : goal.returns-in_default-seek
returns-in_default-seek c = let a = c.args in walk_damaged overlapping (lent a.tables.now) a.tables.now.counts.kind a.text.now a.self _ c.admit.ensures c.in_default.is _ c.seek.ensures.walked c.in_default-seek.is
