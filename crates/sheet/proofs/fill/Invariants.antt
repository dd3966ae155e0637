-- The loop keeps `Filling`: what is written and what is still to come are the whole load.
use Rattle.table.specs.Agrees.{lent}
use Rattle.search.specs.Searches.{next_of}
use Rattle.sheet.proofs.Filling.{Filling}
use Rattle.sheet.proofs.fill.Given as goal

abbrev pub invariant-loop-count : goal.invariant-loop-count
invariant-loop-count g l =
    Filling (next_of g.S.Searching.which (lent l.tables) l.tables.counts.kind l.text) l.fn.sheet l.initial.at l.sheet l.at l.count
