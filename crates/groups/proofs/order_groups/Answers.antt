-- `order_groups` pops a state, notes its group and pushes its children, until the stack is empty.
use mathlib.Core.Path.{◌≡◌, refl, sym, ◌∙◌, subst}
use mathlib.Core.List.{List}
use Prim.Native.Nat.{ℕ, ◌-◌, ◌<◌}
use native.Mathlib.Omega.{arith}
use borrow.Author.Rules.{rules}
use lib.ListN.{length}
use Rattle.zeros.specs.Rows.{field}
use Rattle.paper.specs.Patterns.{Entry}
use Rattle.trie.specs.Trie.{slots_of}
use Rattle.groups.specs.Ordered.{with_group, with_stacked, Groupable}
use Rattle.groups.specs.Stack.{Pushable, Pushed}
use Rattle.groups.proofs.Pushing.{stacked_keeps, stacked_here}
use Rattle.groups.proofs.Ordering.{Topped, topped, groupable_for, begun, ended, height_room, count_room, state_named}
use Rattle.groups.proofs.Ordering.{leaf, pushable, risen_room, grouped, still_falls}
use Rattle.groups.proofs.order_groups.Goals as goal
use Rattle.groups.proofs.order_groups.Goals.{After-push_children-height, After-set_group, In-loop-height, Then-first_child-ne0}

pub loop-height-init : goal.loop-height-init
loop-height-init c = (refl, λ es G e. (_, begun G _ e))

-- what the first write leaves
rooted : (rows put : List (List ℕ)) → put ≡ with_stacked rows 0 0 → 0 < length rows → field put 0 4 ≡ 0
rooted rows put e h = rw e (stacked_here rows 0 0 h)

-- the state that is popped, for whatever patterns the trie is made of
top : (c : goal.In-loop-height) (es : List Entry) → Groupable es c.args.trie.now (length c.set_stacked.new.notes)
    → Topped es c.set_stacked.new.notes c.loop-height.notes c.loop-height.height c.loop-height.count
top c es G =
    let g = c.requires.groupable in
    let r = c.loop-height.invariant.1 es G (rooted _ _ c.set_stacked.ensures (omega (arith, g.stands.trie.two, g.notes_room))) in
    topped r.0 r.1 c.loop-height-test.true

-- those that the caller showed
shown : (c : goal.In-loop-height) → Groupable c.requires.es c.args.trie.now (length c.set_stacked.new.notes)
shown c = groupable_for c.requires.groupable c.set_stacked.auto.notes

abbrev shown_top : (c : goal.In-loop-height)
    → Topped c.requires.es c.set_stacked.new.notes c.loop-height.notes c.loop-height.height c.loop-height.count
shown_top c = top c c.requires.es (shown c)

pub stacked-s-requires : goal.stacked-s-requires
stacked-s-requires c = omega (arith, height_room (shown c) (shown_top c), c.loop-height.invariant.0, c.loop-height-test.true)

pub first_child-requires : goal.first_child-requires
first_child-requires c = omega (arith, (state_named (shown (goal.at.first_child-requires c).In-loop-height) (shown_top (goal.at.first_child-requires c).In-loop-height) _ c.stacked-s.ensures).inside, (shown (goal.at.first_child-requires c).In-loop-height).stands.room)

pub set_group-requires : goal.set_group-requires
set_group-requires c = omega (arith, count_room (shown (goal.at.set_group-requires c).In-loop-height) (shown_top (goal.at.set_group-requires c).In-loop-height), c.loop-height.invariant.0)

pub overflow_add-count : goal.overflow_add-count
overflow_add-count c = let small = count_room (shown (goal.at.overflow_add-count c).In-loop-height) (shown_top (goal.at.overflow_add-count c).In-loop-height) in search rules

-- it has a child
some : (c : goal.Then-first_child-ne0) → (slots_of c.args.trie.now).first c.stacked-s.result.0 ≡ 0 → ⊥
some c z = c.if-first_child-ne0.true (c.first_child.ensures ∙ z)

-- the state whose group was noted has room for its children
ready : (c : goal.After-set_group) {es : List Entry} → Groupable es c.args.trie.now (length c.set_stacked.new.notes)
    → (P : Topped es c.set_stacked.new.notes c.loop-height.notes c.loop-height.height c.loop-height.count)
    → ((slots_of c.args.trie.now).first c.stacked-s.result.0 ≡ 0 → ⊥)
    → Pushable es c.args.trie.now c.set_group.new.notes c.stacked-s.result.0 (c.loop-height.height - 1) P.state P.below
ready c {es = es} G P child =
    subst (λ (notes : List (List ℕ)). Pushable es c.args.trie.now notes c.stacked-s.result.0 (c.loop-height.height - 1) P.state P.below)
    (sym c.set_group.ensures) (pushable G P _ c.stacked-s.ensures c.loop-height.invariant.0 child _)

pub push_children-height-requires : goal.push_children-height-requires
push_children-height-requires c =
    let G = shown (goal.at.push_children-height-requires c).In-loop-height in
    let P = shown_top (goal.at.push_children-height-requires c).In-loop-height in
    record {
      es = c.requires.es;
      state = P.state;
      stack = P.below;
      pushable = ready (goal.at.push_children-height-requires c).After-set_group G P (some (goal.at.push_children-height-requires c).Then-first_child-ne0);
    }

-- they are on the stack
pushed : (c : goal.After-push_children-height) {es : List Entry}
    → (P : Topped es c.set_stacked.new.notes c.loop-height.notes c.loop-height.height c.loop-height.count)
    → Pushable es c.args.trie.now c.set_group.new.notes c.stacked-s.result.0 (c.loop-height.height - 1) P.state P.below
    → Pushed es (with_group c.loop-height.notes c.loop-height.count c.stacked-s.result.0) c.push_children-height.new.notes c.push_children-height.result P.state P.below
pushed c {es = es} P R =
    subst (λ (notes : List (List ℕ)). Pushed es notes c.push_children-height.new.notes c.push_children-height.result P.state P.below)
    c.set_group.ensures (c.push_children-height.ensures es P.state P.below R)

pub loop-height-smaller-then-first_child-ne0 : goal.loop-height-smaller-then-first_child-ne0
loop-height-smaller-then-first_child-ne0 c =
    let G = shown (goal.at.loop-height-smaller-then-first_child-ne0 c).In-loop-height in
    let P = shown_top (goal.at.loop-height-smaller-then-first_child-ne0 c).In-loop-height in
    let child = some (goal.at.loop-height-smaller-then-first_child-ne0 c).Then-first_child-ne0 in
    let R = ready (goal.at.loop-height-smaller-then-first_child-ne0 c).After-set_group G P child in
    still_falls (length c.set_stacked.new.notes) c.loop-height.count c.loop-height.height _ (count_room G P)
    (risen_room G P _ c.stacked-s.ensures c.loop-height.invariant.0 child _ _ (pushed (goal.at.loop-height-smaller-then-first_child-ne0 c).After-push_children-height P R))

pub loop-height-preserved-then-first_child-ne0 : goal.loop-height-preserved-then-first_child-ne0
loop-height-preserved-then-first_child-ne0 c = (
  c.push_children-height.auto.notes ∙ c.set_group.auto.notes ∙ c.loop-height.invariant.0,
  λ es G e.
      let P = top (goal.at.loop-height-preserved-then-first_child-ne0 c).In-loop-height es G in
      let child = some (goal.at.loop-height-preserved-then-first_child-ne0 c).Then-first_child-ne0 in
      let R = ready (goal.at.loop-height-preserved-then-first_child-ne0 c).After-set_group G P child in
      (_, grouped G P _ c.stacked-s.ensures c.loop-height.invariant.0 child _ _ (pushed (goal.at.loop-height-preserved-then-first_child-ne0 c).After-push_children-height P R)),
)

pub loop-height-preserved : goal.loop-height-preserved
loop-height-preserved c =
    (c.loop-height.invariant.0, λ es G e. (_, leaf G (top (goal.at.loop-height-preserved c).In-loop-height es G) _ c.stacked-s.ensures (sym c.first_child.ensures ∙ c.if-first_child-ne0.false)))

pub returns : goal.returns
returns c = λ es G.
    let H = groupable_for G c.set_stacked.auto.notes in
    let two : 0 < length c.args.notes.now = omega (arith, G.stands.trie.two, G.notes_room) in
    let r = c.loop-height.invariant.1 es H (rooted _ _ c.set_stacked.ensures two) in
    ended H c.args.notes.now (λ k f h. rw c.set_stacked.ensures (stacked_keeps c.args.notes.now 0 0 two k f (omega arith))) c.loop-height.invariant.0 r.0 r.1
    c.loop-height-test.false
