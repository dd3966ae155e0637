-- `stop` notes dead for a state that stops; then its link is noted, and that of all before it.
use mathlib.Core.Path.{◌≡◌, sym, ◌∙◌}
use mathlib.Core.Bool.{false}
use mathlib.Core.List.{[]}
use lib.ListN.{get_or}
use Rattle.paper.specs.Automaton.{stops_of}
use Rattle.links.specs.Linked.{ordered}
use native.Mathlib.Omega.{arith}
use Rattle.links.specs.Notes.{notes_of, with_link}
use Rattle.links.proofs.Queue.{stop_not, stop_queued, stop_final}
use Rattle.links.proofs.Noting.{link_here, link_else, link_order}
use Rattle.links.proofs.Turning.{bounded, laws, stops_yes, stops_none, stops_never}
use Rattle.links.proofs.stop.Goals as goal
use Rattle.links.proofs.stop.Goals.{else-leftmost-via-then-leftmost+else-own-ne0, else-leftmost-via-else-leftmost}

pub returns-then-own-ne0 : goal.returns-then-own-ne0
returns-then-own-ne0 c = λ kind es h T m.
    let R = T.ready in
    let yes = stops_yes T (sym m ∙ c.if-leftmost.true) (λ z. c.if-own-ne0.true (c.own.ensures ∙ z)) in
    rw c.set_link.ensures (
      stop_queued kind es _ R.trie (bounded R) (laws R) _ h _ _ T.queued T.here T.named (notes_of (with_link c.args.notes.now c.args.s.0 1)) (link_here c.args.notes.now c.args.s.0 1 (omega (arith, T.named.inside, R.notes_room))) (link_else c.args.notes.now c.args.s.0 1) (link_order c.args.notes.now c.args.s.0 1 (omega (arith, T.named.inside, R.notes_room))) yes,
      stop_final kind es _ R.trie (bounded R) (laws R) _ h _ _ T.queued T.here T.named (notes_of (with_link c.args.notes.now c.args.s.0 1)) (link_here c.args.notes.now c.args.s.0 1 (omega (arith, T.named.inside, R.notes_room))) (link_else c.args.notes.now c.args.s.0 1) (link_order c.args.notes.now c.args.s.0 1 (omega (arith, T.named.inside, R.notes_room))) yes,
    )

pub returns-else-leftmost : goal.returns-else-leftmost
returns-else-leftmost c = λ kind es h T m.
    let R = T.ready in
    let none : stops_of kind es (get_or (ordered es) h []) ≡ false = elim c.else-leftmost.branch [
      | else-leftmost-via-then-leftmost+else-own-ne0 w ↦ stops_none T (sym w.own.ensures ∙ w.if-own-ne0.false)
      | else-leftmost-via-else-leftmost w ↦ stops_never T (sym m ∙ w.if-leftmost.false)
    ] in
    (T.queued, stop_not kind es _ R.trie (bounded R) (laws R) _ h _ _ T.queued T.here T.named none)
