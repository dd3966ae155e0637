-- `next_plain` by its ways: refused first, or as the walk says.
use Rattle.std.specs.Prelude.{Ok}
use Rattle.search.proofs.Calls.{Seekable, granted, granted_cleared, few_at, refused_first, walk_damaged, plain_gives, plain_ends}
use Rattle.search.specs.Searches.{seek_of, rest}
use Rattle.table.specs.Agrees.{lent}
use Rattle.search.specs.Values.{plain, gives}
use Rattle.search.specs.declared.Search.{Search}
use lib.ListN.{length}
use mathlib.Core.Bool.{false}
use mathlib.Core.Path.{sym, ap, ap₂, ◌∙◌, subst}
use Rattle.search.proofs.Search.next_plain.Goals as goal

pub seek-requires : goal.seek-requires
seek-requires c = let a = c.args in let G = granted_cleared (granted false (lent a.tables.now) a.tables.now.counts.kind (length a.text.now) a.self _ c.admit.ensures c.in_default.is) in subst (Seekable a.text.now) (sym c.cleared-from.ensures) (G.inside, G.short, few_at G)

pub returns-in-Err : goal.returns-in-Err
returns-in-Err c = let a = c.args in refused_first plain (lent a.tables.now) a.tables.now.counts.kind a.text.now a.self _ c.admit.ensures _ c.in-Err.is

pub returns-in-Given : goal.returns-in-Given
returns-in-Given c = let a = c.args in ap₂ gives c.matched.ensures c.moved.ensures ∙ plain_gives (lent a.tables.now) a.tables.now.counts.kind a.text.now a.self _ c.in_default.is _ c.admit.ensures (c.seek.ensures.walked ∙ ap (λ (x : Search). seek_of false (lent a.tables.now) x (rest a.text.now x)) c.cleared-from.ensures) _ _ (c.in-Ok.is ∙ ap Ok c.in-Given.is)

pub returns-in-End : goal.returns-in-End
returns-in-End c = let a = c.args in plain_ends (lent a.tables.now) a.tables.now.counts.kind a.text.now a.self _ c.in_default.is _ c.admit.ensures (c.seek.ensures.walked ∙ ap (λ (x : Search). seek_of false (lent a.tables.now) x (rest a.text.now x)) c.cleared-from.ensures) _ (c.in-Ok.is ∙ ap Ok c.in-End.is)

pub returns-in_default-seek : goal.returns-in_default-seek
returns-in_default-seek c = let a = c.args in walk_damaged plain (lent a.tables.now) a.tables.now.counts.kind a.text.now a.self _ c.admit.ensures c.in_default.is _ (c.seek.ensures.walked ∙ ap (λ (x : Search). seek_of false (lent a.tables.now) x (rest a.text.now x)) c.cleared-from.ensures) c.in_default-seek.is
