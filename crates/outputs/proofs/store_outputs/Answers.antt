-- `store_outputs` takes the states in their breadth-first order.
use mathlib.Core.Path.{◌≡◌, refl, ap, ◌∙◌}
use mathlib.Core.List.{List}
use Prim.Native.Nat.{ℕ, ◌≤◌, ◌<◌, ◌+◌}
use native.Mathlib.Numerals.{add-one}
use native.Mathlib.Omega.{arith}
use lib.ListN.{length}
use Rattle.paper.specs.Patterns.{Entry, Kind}
use Rattle.links.specs.Notes.{with_place}
use Rattle.links.specs.Linked.{ordered}
use Rattle.outputs.specs.Placed.{Tabled}
use Rattle.outputs.proofs.Noting.{begun, begun_root, begun_dead, begun_placed, begun_tabled}
use Rattle.outputs.proofs.Storing.{Storing, two_states, two_notes, states_count, storing, state_named, link_inside, stackable}
use Rattle.outputs.proofs.Storing.{storing_more, storing_all}
use Rattle.outputs.proofs.store_outputs.Goals as goal
use Rattle.outputs.proofs.store_outputs.Goals.{At-loop-i, In-loop-i}

-- root and dead are noted when the loop begins
entered : (rows first both : List (List ℕ)) → both ≡ with_place first 1 0 → first ≡ with_place rows 0 0 → both ≡ begun rows
entered rows first both e d = e ∙ ap (λ (n : List (List ℕ)). with_place n 1 0) d

tabled : {kind : Kind} {es : List Entry} {trie owns rows both : List (List ℕ)} {values : List ℕ} {slots states : ℕ} → both ≡ begun rows
    → Tabled kind es trie owns rows values slots states → Tabled kind es trie owns both values slots states
tabled e T = rw e (begun_tabled _ (two_notes T) T)

-- the loop, for the patterns that the caller showed
known : (c : goal.At-loop-i)
    → let a = c.args in
    Tabled c.requires.kind c.requires.es a.trie.now a.owns.now c.set_place-2.new.notes a.values.now (length a.outs.now) a.states
known c = tabled (entered _ _ _ c.set_place-2.ensures c.set_place.ensures) c.requires.tabled

so_far : (c : goal.At-loop-i)
    → Storing c.requires.kind c.requires.es c.args.values.now c.set_place-2.new.notes c.args.outs.now
    c.loop-i.i c.loop-i.notes c.loop-i.outs c.loop-i.stored
so_far c = c.loop-i.invariant.3 _ _ (known c)

-- the rows of notes are as many as were lent
room : (c : goal.At-loop-i)
    → c.args.states ≤ length c.loop-i.notes
room c = omega (arith, (known c).note_room, c.loop-i.invariant.0)

pub loop-i-init : goal.loop-i-init
loop-i-init c =
    let a = c.args in
    let T = c.requires.tabled in
    let e = entered _ _ _ c.set_place-2.ensures c.set_place.ensures in (
      refl,
      refl,
      omega (arith, two_states T),
      λ kind es U. storing U _ (rw e (begun_root a.notes.now (two_notes T))) (rw e (begun_dead a.notes.now (two_notes T))),
    )

-- the place is one of the order
in_order : (c : goal.In-loop-i) → c.loop-i.i < length (ordered c.requires.es)
in_order c = omega (arith, states_count (known (goal.at.In-loop-i c).At-loop-i), c.loop-i-test.true)

pub store_state-stored-requires-clause-stackable : goal.store_state-stored-requires-clause-stackable
store_state-stored-requires-clause-stackable c =
    let at = goal.at.store_state-stored-requires-clause-stackable c in
    rw (c.state_at-s.ensures, c.loop-i.invariant.1) (stackable (known at.At-loop-i) (so_far at.At-loop-i) (in_order at.In-loop-i))

pub store_state-stored-requires-clause-state_there : goal.store_state-stored-requires-clause-state_there
store_state-stored-requires-clause-state_there c =
    let at = goal.at.store_state-stored-requires-clause-state_there c in
    let T = known at.At-loop-i in
    let Q = so_far at.At-loop-i in
    let h = in_order at.In-loop-i in
    rw c.state_at-s.ensures (
      omega (arith, (state_named T Q h).inside, T.made.states_are, T.trie_room),
      omega (arith, (state_named T Q h).inside, T.made.states_are, room at.At-loop-i),
      omega (arith, link_inside T Q h, T.made.states_are, room at.At-loop-i),
    )

pub loop-i-preserved : goal.loop-i-preserved
loop-i-preserved c =
    let more : c.loop-i.i + 1 < c.args.states = omega (arith, c.loop-i-test.true) in
    let said = c.store_state-stored in (
      said.auto.notes ∙ c.loop-i.invariant.0,
      said.auto.outs ∙ c.loop-i.invariant.1,
      omega arith,
      λ kind es T.
          rw (add-one c.loop-i.i)
          (storing_more T (c.loop-i.invariant.3 kind es T) (omega (arith, states_count T)) (room (goal.at.loop-i-preserved c).At-loop-i)
          (rw c.state_at-s.ensures at said.ensures)),
    )

pub returns : goal.returns
returns c = λ kind es T.
    let e = entered _ _ _ c.set_place-2.ensures c.set_place.ensures in
    let U = tabled e T in
    let all : c.loop-i.i ≡ length (ordered es) = omega (arith, states_count U, c.loop-i-test.false, c.loop-i.invariant.2) in
    begun_placed _ (two_notes T) (rw (← e) (storing_all U refl all (c.loop-i.invariant.3 kind es U)))
