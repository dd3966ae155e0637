-- `place_all` takes the groups of the table in turn: each turn is a step of Round.
use mathlib.Core.Path.{◌≡◌, ◌∙◌}
use mathlib.Core.List.{List}
use Prim.Native.Nat.{◌<◌}
use native.Mathlib.Omega.{arith}
use borrow.Author.Rules.{rules}
use lib.ListN.{length, get_or}
use Rattle.paper.specs.Patterns.{Entry}
use Rattle.plan.specs.Groups.{Group}
use Rattle.groups.specs.Ordered.{no_group}
use Rattle.placement.specs.Laid.{Placeable}
use Rattle.placement.proofs.Rounds.{Round, round_begin, round_more, round_full, round_end, round_none, turn_here, group_here}
use Rattle.placement.proofs.place_all.Goals as goal
use Rattle.placement.proofs.place_all.Goals.{At-loop-i}

pub returns-then-most-lt1 : goal.returns-then-most-lt1
returns-then-most-lt1 c = λ es gs P. round_none P c.if-most-lt1.true

-- what the caller showed, and where the loop stands
module _ (c : goal.At-loop-i) (es : List Entry) (gs : List Group)
    (P : Placeable es gs c.args.trie.now c.args.notes.now c.args.spots.now c.args.groups c.args.most) where
  told : Round es gs c.args.notes.now c.loop-i.notes c.loop-i.spots c.loop-i.i c.args.most c.loop-i.blocks
  told =
      c.loop-i.invariant.2 es gs _ _ (c.set_cell-2.auto.notes ∙ c.set_cell.auto.notes) (c.take_cell-2.auto.spots ∙ c.take_cell.auto.spots) P
      (rw (c.set_cell-2.ensures, c.set_cell.ensures, c.take_cell-2.ensures, c.take_cell.ensures) (round_begin P c.if-most-lt1.false))

-- the lengths stay
notes_long : (c : goal.At-loop-i) → length c.loop-i.notes ≡ length c.args.notes.now
notes_long c = c.loop-i.invariant.0 ∙ c.set_cell-2.auto.notes ∙ c.set_cell.auto.notes

spots_long : (c : goal.At-loop-i) → length c.loop-i.spots ≡ length c.args.spots.now
spots_long c = c.loop-i.invariant.1 ∙ c.take_cell-2.auto.spots ∙ c.take_cell.auto.spots

pub place_group-requires : goal.place_group-requires
place_group-requires c =
    let p = c.requires in
    let P = p.placeable in
    let R = told (goal.at.place_group-requires c).At-loop-i p.es p.gs P in
    let h : c.loop-i.i < length p.gs = omega (arith, P.ordered.count_is, c.loop-i-test.true) in
    record {
      es = p.es;
      layout = _;
      group = get_or p.gs c.loop-i.i no_group;
      turn = turn_here P h R c.group_at-s.ensures (notes_long (goal.at.place_group-requires c).At-loop-i) (spots_long (goal.at.place_group-requires c).At-loop-i);
      of = group_here P h R c.group_at-s.ensures;
    }

pub returns-in_err-blocks : goal.returns-in_err-blocks
returns-in_err-blocks c = λ es gs P.
    let R = told (goal.at.returns-in_err-blocks c).At-loop-i es gs P in
    let h : c.loop-i.i < length gs = omega (arith, P.ordered.count_is, c.loop-i-test.true) in
    let full = round_full P h R c.group_at-s.ensures
    (c.in_err-blocks.ensures es _ (get_or gs c.loop-i.i no_group) (turn_here P h R c.group_at-s.ensures (notes_long (goal.at.returns-in_err-blocks c).At-loop-i) (spots_long (goal.at.returns-in_err-blocks c).At-loop-i)) (group_here P h R c.group_at-s.ensures)) in
    search rules

pub loop-i-preserved : goal.loop-i-preserved
loop-i-preserved c = (
  c.place_group.auto.notes ∙ c.loop-i.invariant.0,
  c.place_group.auto.spots ∙ c.loop-i.invariant.1,
  λ es gs before chart sn ss P R₀.
      let R = c.loop-i.invariant.2 es gs before chart sn ss P R₀ in
      let h : c.loop-i.i < length gs = omega (arith, P.ordered.count_is, c.loop-i-test.true) in
      round_more P h R c.group_at-s.ensures
      (c.in_ok-blocks.ensures es _ (get_or gs c.loop-i.i no_group) (turn_here P h R c.group_at-s.ensures (c.loop-i.invariant.0 ∙ sn) (c.loop-i.invariant.1 ∙ ss)) (group_here P h R c.group_at-s.ensures)) _ (omega arith),
)

pub returns : goal.returns
returns c = λ es gs P.
    round_end P (omega (arith, P.ordered.count_is, c.loop-i.auto.i-end, c.loop-i-test.false)) (told (goal.at.returns c).At-loop-i es gs P)
