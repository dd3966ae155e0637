-- `grow` calls the two phases in their order, the second on what the first has left.
use mathlib.Core.Path.{◌≡◌, ap, sym, ◌∙◌}
use Prim.Native.Nat.{◌≤◌}
use native.Mathlib.Omega.{arith}
use lib.ListN.{length}
use Rattle.list.specs.Limits.{smaller}
use Rattle.list.specs.Kinds.{kind_of}
use Rattle.list.proofs.Slots.{smaller_left, smaller_right, min_smaller}
use Rattle.trie.specs.Trie.{slots_of}
use Rattle.trie.specs.Owned.{owns_of}
use Rattle.trie.specs.Made.{Made, drops_of}
use Rattle.links.specs.Linked.{is_leftmost}
use Rattle.links.specs.Queue.{Ready}
use Rattle.nfa.specs.Grown.{accepted_of, counted}
use Rattle.nfa.proofs.Accepted.{made, made_room, full, grown_full, ready, ready_room}
use Rattle.nfa.proofs.grow.Goals as goal
use Rattle.nfa.proofs.grow.Goals.{After-count-slots, After-drops, After-leftmost}

-- the slots are counted in the shorter of the two tables
slots_are : (c : goal.After-count-slots) → c.count-slots.result ≡ counted (smaller (length c.args.trie.now) (length c.args.notes.now))
slots_are c = c.count-slots.ensures ∙ ap counted (c.min.ensures ∙ min_smaller _ _)

-- the slots that the trie may use are no more than both tables have
slots_under : (c : goal.After-count-slots) → c.count-slots.result ≤ smaller (length c.args.trie.now) (length c.args.notes.now)
slots_under c = omega (arith, slots_are c, smaller_left (smaller (length c.args.trie.now) (length c.args.notes.now)) 4294967295)

-- what is asked of the kind is asked of the list's
dropped : (c : goal.After-drops) → c.drops.result ≡ drops_of (kind_of c.args.sound.list.kind)
dropped c = c.drops.ensures ∙ ap drops_of c.args.sound.named

stopped : (c : goal.After-leftmost) → c.leftmost.result ≡ is_leftmost (kind_of c.args.sound.list.kind)
stopped c = c.leftmost.ensures ∙ ap is_leftmost c.args.sound.named

pub returns-in_err-grown-clause-grown : goal.returns-in_err-grown-clause-grown
returns-in_err-grown-clause-grown c =
    let at = goal.at.returns-in_err-grown-clause-grown c in
    grown_full _ _ _ _ _ _ _ _ c.from_residual.ensures.0 (full c.args.sound.sound _ (dropped at.After-drops) (slots_are at.After-count-slots) c.in_err-grown.ensures.grown)

-- the trie of the accepted patterns stands within the slots
stands :
    (c : goal.After-leftmost)
    → Made (slots_of c.add_all.new.trie) (owns_of c.add_all.new.owns) c.in_ok-grown.grown.states c.in_ok-grown.grown.accepted (length c.args.owns.now) (accepted_of c.args.sound.list.kind c.args.sound.list.bytes.now c.args.sound.list.ends.now)
stands c = made c.args.sound.sound (dropped (goal.at.After-leftmost c).After-drops) c.in_ok-grown.ensures.grown.0

-- so the links can be made
linkable : (c : goal.After-leftmost)
    → Ready (kind_of c.args.sound.list.kind) (accepted_of c.args.sound.list.kind c.args.sound.list.bytes.now c.args.sound.list.ends.now) c.add_all.new.trie (length c.args.notes.now)
linkable c =
    let a = length c.args.trie.now in
    let d = length c.args.notes.now in
    let under = slots_under (goal.at.After-leftmost c).After-count-slots in
    ready c.args.sound.sound c.add_all.ensures.letters (stands c)
    (omega (arith, c.in_ok-grown.ensures.grown.1, under, smaller_left a d, c.add_all.auto.trie)) (omega (arith, c.in_ok-grown.ensures.grown.1, under, smaller_right a d))

pub link_all-requires : goal.link_all-requires
link_all-requires c =
    let after = (goal.at.link_all-requires c).After-leftmost in
    record { kind = kind_of c.args.sound.list.kind; es = accepted_of c.args.sound.list.kind c.args.sound.list.bytes.now c.args.sound.list.ends.now; ready = linkable after; mode = stopped after }

pub returns-clause-grown : goal.returns-clause-grown
returns-clause-grown c =
    let after = (goal.at.returns-clause-grown c).After-leftmost in
    record {
      made = made_room (sym c.add_all.auto.owns) (stands after);
      ready = ready_room (sym c.link_all.auto.notes) (linkable after);
      linked = c.link_all.ensures _ _ (linkable after) (stopped after);
      fit = omega (arith, c.in_ok-grown.ensures.grown.1, slots_under (goal.at.returns-clause-grown c).After-count-slots);
    }
