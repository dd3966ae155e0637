-- `next_leftmost` by its ways: refused first, or as the walk says, with the match that is kept last.
use Rattle.std.specs.Prelude.{Ok}
use Rattle.search.proofs.Calls.{Seekable, granted, granted_cleared, few_at, refused_first, walk_damaged, leftmost_gives, leftmost_ends, keep_damaged}
use Rattle.search.specs.Bounds.{Arrives}
use Rattle.search.specs.Searches.{seek_of, keep_of, rest}
use Rattle.table.specs.Agrees.{lent}
use Rattle.search.specs.Values.{leftmost, gives, ends}
use Rattle.search.specs.declared.Match.{Match}
use Rattle.search.specs.declared.Search.{Search}
use lib.ListN.{length}
use mathlib.Core.Bool.{true}
use mathlib.Core.Path.{sym, ap, ◌∙◌, subst}
use Rattle.search.proofs.Search.next_leftmost.Goals as goal

pub seek-requires : goal.seek-requires
seek-requires c = let a = c.args in let G = granted_cleared (granted true (lent a.tables.now) a.tables.now.counts.kind (length a.text.now) a.self _ c.admit.ensures c.in_default.is) in subst (Seekable a.text.now) (sym c.cleared-from.ensures) (G.inside, G.short, few_at G)

pub keep-requires : goal.keep-requires
keep-requires c = let a = c.args in let G = granted true (lent a.tables.now) a.tables.now.counts.kind (length a.text.now) a.self _ c.admit.ensures c.in_default.is in let B = (subst (Arrives a.text.now) (c.in-Ok.is ∙ ap Ok c.in-Given.is) c.seek.ensures.arrives).0 in (B.inside, G.short, B.few)

pub returns-in-Err : goal.returns-in-Err
returns-in-Err c = let a = c.args in refused_first leftmost (lent a.tables.now) a.tables.now.counts.kind a.text.now a.self _ c.admit.ensures _ c.in-Err.is

pub returns-in-Ok-keep : goal.returns-in-Ok-keep
returns-in-Ok-keep c = let a = c.args in ap (gives c.in-Ok-keep.kept) c.moved.ensures ∙ leftmost_gives (lent a.tables.now) a.tables.now.counts.kind a.text.now a.self _ c.in_default.is _ c.admit.ensures (c.seek.ensures.walked ∙ ap (λ (x : Search). seek_of true (lent a.tables.now) x (rest a.text.now x)) c.cleared-from.ensures) _ _ (c.in-Ok.is ∙ ap Ok c.in-Given.is) _ (c.keep.ensures ∙ ap (λ (x : Match). keep_of (lent a.tables.now) x c.in-Given.at (rest a.text.now c.in-Given.at)) c.matched.ensures) _ _ c.in-Ok-keep.is

pub returns-in-Err-keep : goal.returns-in-Err-keep
returns-in-Err-keep c = let a = c.args in keep_damaged (lent a.tables.now) a.tables.now.counts.kind a.text.now a.self _ c.in_default.is _ c.admit.ensures (c.seek.ensures.walked ∙ ap (λ (x : Search). seek_of true (lent a.tables.now) x (rest a.text.now x)) c.cleared-from.ensures) _ _ (c.in-Ok.is ∙ ap Ok c.in-Given.is) _ (c.keep.ensures ∙ ap (λ (x : Match). keep_of (lent a.tables.now) x c.in-Given.at (rest a.text.now c.in-Given.at)) c.matched.ensures) c.in-Err-keep.is

pub returns-in-End : goal.returns-in-End
returns-in-End c = let a = c.args in ap ends c.moved-in-End.ensures ∙ leftmost_ends (lent a.tables.now) a.tables.now.counts.kind a.text.now a.self _ c.in_default.is _ c.admit.ensures (c.seek.ensures.walked ∙ ap (λ (x : Search). seek_of true (lent a.tables.now) x (rest a.text.now x)) c.cleared-from.ensures) _ (c.in-Ok.is ∙ ap Ok c.in-End.is)

pub returns-in_default-seek : goal.returns-in_default-seek
returns-in_default-seek c = let a = c.args in walk_damaged leftmost (lent a.tables.now) a.tables.now.counts.kind a.text.now a.self _ c.admit.ensures c.in_default.is _ (c.seek.ensures.walked ∙ ap (λ (x : Search). seek_of true (lent a.tables.now) x (rest a.text.now x)) c.cleared-from.ensures) c.in_default-seek.is
