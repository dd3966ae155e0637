-- `link_all` takes each state in turn from the queue.
use mathlib.Core.Path.{◌≡◌, sym, ◌∙◌}
use mathlib.Core.List.{List}
use Prim.Native.Nat.{ℕ, suc, ◌≤◌, ◌<◌, ◌+◌}
use native.Mathlib.Omega.{arith}
use lib.ListN.{length}
use Rattle.paper.specs.Patterns.{Entry, Kind}
use Rattle.links.specs.Notes.{notes_of, with_order, with_link}
use Rattle.links.specs.Linked.{is_leftmost}
use Rattle.links.specs.Queue.{Ready, Queued, Turn, Poised}
use Rattle.links.proofs.Noting.{rooted}
use Rattle.links.proofs.Rounds.{ready_for, poised_root, place_inside, turned, finished, not_root, grown}
use Rattle.links.proofs.link_all.Goals as goal
use Rattle.links.proofs.link_all.Goals.{After-state_at-s, After-stop, At-loop-head}

-- root's turn, for whatever patterns the trie is made of
first_turn : {kind : Kind} {es : List Entry} {trie : List (List ℕ)} (rows ordered linked : List (List ℕ))
    → linked ≡ with_link ordered 0 0 → ordered ≡ with_order rows 0 0 → Ready kind es trie (length rows) → Poised kind es trie linked 0 0 1
first_turn rows ordered linked e d R =
    let r = rooted rows (omega (arith, R.trie.two, R.notes_room)) in
    rw (e, d) (poised_root (with_link (with_order rows 0 0) 0 0) (ready_for R r.same) r.order r.link)

pub link_tops-tail-requires : goal.link_tops-tail-requires
link_tops-tail-requires c = let p = c.requires in record { kind = p.kind; es = p.es; poised = first_turn _ _ _ c.set_link.ensures c.set_order.ensures p.ready }

-- after root's turn, as the loop finds it
lent : (c : goal.At-loop-head) → length c.link_tops-tail.new.notes ≡ length c.args.notes.now
lent c = c.link_tops-tail.auto.notes ∙ c.set_link.auto.notes ∙ c.set_order.auto.notes

-- where the loop stands, for whatever patterns the trie is made of
stands :
    (c : goal.At-loop-head) (kind : Kind) (es : List Entry) → Ready kind es c.args.trie.now (length c.args.notes.now)
    → c.args.leftmost ≡ is_leftmost kind → Queued kind es (notes_of c.loop-head.notes) c.loop-head.head c.loop-head.tail × (c.loop-head.head ≤ c.loop-head.tail)
stands c kind es R m =
    c.loop-head.invariant.2 kind es (ready_for R (lent c)) m (c.top_children-tops.ensures _ R.trie) (c.link_tops-tail.ensures kind es (first_turn _ _ _ c.set_link.ensures c.set_order.ensures R))

now_ready : (c : goal.At-loop-head) {kind : Kind} {es : List Entry} → Ready kind es c.args.trie.now (length c.args.notes.now)
    → Ready kind es c.args.trie.now (length c.loop-head.notes)
now_ready c R = ready_for R (c.loop-head.invariant.0 ∙ lent c)

pub state_at-s-requires : goal.state_at-s-requires
state_at-s-requires c =
    let p = c.requires in
    place_inside c.loop-head.notes (now_ready (goal.at.state_at-s-requires c).At-loop-head p.ready) (stands (goal.at.state_at-s-requires c).At-loop-head p.kind p.es p.ready p.mode).0 c.loop-head-test.true

-- the turn of the state that is taken from the queue
turn : (c : goal.After-state_at-s) {kind : Kind} {es : List Entry} → Ready kind es c.args.trie.now (length c.loop-head.notes)
    → Queued kind es (notes_of c.loop-head.notes) c.loop-head.head c.loop-head.tail
    → Turn kind es c.args.trie.now c.loop-head.notes c.state_at-s.result.0 c.loop-head.head c.loop-head.tail
turn c R Q = turned c.loop-head.notes R Q c.loop-head-test.true _ c.state_at-s.ensures

pub stop-requires : goal.stop-requires
stop-requires c =
    let p = c.requires in
    let T = turn (goal.at.stop-requires c).After-state_at-s (now_ready (goal.at.stop-requires c).At-loop-head p.ready) (stands (goal.at.stop-requires c).At-loop-head p.kind p.es p.ready p.mode).0 in
    record { kind = p.kind; es = p.es; at = c.loop-head.head; turn = T; mode = p.mode }

-- its own link is noted
ready_children : (c : goal.After-stop) {kind : Kind} {es : List Entry}
    → Turn kind es c.args.trie.now c.loop-head.notes c.state_at-s.result.0 c.loop-head.head c.loop-head.tail → c.args.leftmost ≡ is_leftmost kind
    → Poised kind es c.args.trie.now c.stop.new.notes c.state_at-s.result.0 c.loop-head.head c.loop-head.tail
ready_children c {kind = kind} {es = es} T m =
    let after = c.stop.ensures kind es c.loop-head.head T m in
    record {
      turn = record { ready = ready_for T.ready c.stop.auto.notes; queued = after.0; here = T.here; named = T.named };
      final = after.1;
    }

pub link_children-tail-requires : goal.link_children-tail-requires
link_children-tail-requires c =
    let p = c.requires in
    let T = turn (goal.at.link_children-tail-requires c).After-state_at-s (now_ready (goal.at.link_children-tail-requires c).At-loop-head p.ready) (stands (goal.at.link_children-tail-requires c).At-loop-head p.kind p.es p.ready p.mode).0 in
    record {
      kind = p.kind;
      es = p.es;
      at = c.loop-head.head;
      poised = ready_children (goal.at.link_children-tail-requires c).After-stop T p.mode;
      tops_are = c.top_children-tops.ensures _ p.ready.trie;
      inner = not_root _ T.ready T c.loop-head.invariant.1;
    }

pub overflow_add-head : goal.overflow_add-head
overflow_add-head c =
    let p = c.requires in
    let inside : c.loop-head.head < length c.args.notes.now
    = omega (arith, place_inside c.loop-head.notes (now_ready (goal.at.overflow_add-head c).At-loop-head p.ready) (stands (goal.at.overflow_add-head c).At-loop-head p.kind p.es p.ready p.mode).0 c.loop-head-test.true, c.loop-head.invariant.0, lent (goal.at.overflow_add-head c).At-loop-head) in
    record { fits = omega (arith, inside, c.well_formed.1.0) }

pub loop-head-smaller : goal.loop-head-smaller
loop-head-smaller c =
    let p = c.requires in
    omega (arith, place_inside c.loop-head.notes (now_ready (goal.at.loop-head-smaller c).At-loop-head p.ready) (stands (goal.at.loop-head-smaller c).At-loop-head p.kind p.es p.ready p.mode).0 c.loop-head-test.true, c.loop-head.invariant.0)

pub loop-head-preserved : goal.loop-head-preserved
loop-head-preserved c = (
  c.link_children-tail.auto.notes ∙ c.stop.auto.notes ∙ c.loop-head.invariant.0,
  omega arith,
  λ kind es R m T Q.
      let R₀ = ready_for R (sym (lent (goal.at.loop-head-preserved c).At-loop-head)) in
      let taken = turn (goal.at.loop-head-preserved c).After-state_at-s (now_ready (goal.at.loop-head-preserved c).At-loop-head R₀) (stands (goal.at.loop-head-preserved c).At-loop-head kind es R₀ m).0 in
      let P = ready_children (goal.at.loop-head-preserved c).After-stop taken m in
      let next = c.link_children-tail.ensures kind es c.loop-head.head P T (not_root _ taken.ready taken c.loop-head.invariant.1) in
      let e : c.loop-head.head + 1 ≡ suc c.loop-head.head = omega arith in
      rw e (next, grown R P.turn.queued P.turn.here next),
)

pub returns : goal.returns
returns c = λ kind es R m.
    let Q = stands (goal.at.returns c).At-loop-head kind es R m in
    finished c.loop-head.notes (now_ready (goal.at.returns c).At-loop-head R) Q.0 (omega (arith, Q.1, c.loop-head-test.false))
