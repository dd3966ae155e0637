-- `take` against its definition: the loop keeps that what is left of the walk is the whole walk, and that depths bound the links.
use Rattle.search.proofs.Walking.{Walking}
use Rattle.table.specs.Agrees.{lent, probe_in, link_in}
use lib.ListN.{get_or}
use Rattle.search.proofs.walk.take.Given as goal

abbrev pub invariant-loop-child : goal.invariant-loop-child
invariant-loop-child l =
    Walking l.leftmost (probe_in (lent l.tables)) (link_in (lent l.tables)) l.byte l.tables.depth.now l.initial.s l.initial.moves l.s l.moves

abbrev pub decreases-loop-child : goal.decreases-loop-child
decreases-loop-child l = get_or l.tables.depth.now l.s.0 0
