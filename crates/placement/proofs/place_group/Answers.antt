-- `place_group` looks twice at most; the second look, with a block more, always finds an index.
use Rattle.paper.proofs.Tests.{test}
use Rattle.plan.specs.Placement.{grown}
use Rattle.placement.proofs.Placing.{as_found, as_missed, turned_here, turned_full, turned_more, look_more, second_finds}
use Rattle.placement.proofs.place_group.Goals as goal

pub returns-then-look : goal.returns-then-look
returns-then-look c = λ es l g T G.
    turned_here T g G (as_found es l g _ _ _ _ c.look.result (c.look.ensures es l g T.looks G) c.if-look.true)

pub returns-then-most-blocks : goal.returns-then-most-blocks
returns-then-most-blocks c = λ es l g T G.
    turned_full T g G (as_missed es l g _ _ _ _ c.look.result (c.look.ensures es l g T.looks G) c.if-look.false) c.if-most-blocks.true

pub look-requires-2 : goal.look-requires-2
look-requires-2 c =
    let p = c.requires in
    let M = (as_missed p.es p.layout p.group _ _ _ _ c.look.result (c.look.ensures p.es p.layout p.group p.turn.looks p.of) c.if-look.false) in
    record {
      es = p.es;
      layout = _;
      group = p.group;
      look = look_more p.turn p.group p.of c.look.auto.notes c.look.auto.spots M c.if-most-blocks.false;
      of = p.of;
    }

pub returns : goal.returns
returns c = λ es l g T G.
    let M = (as_missed (es) (l) (g) _ _ _ _ c.look.result (c.look.ensures (es) (l) (g) T.looks (G)) c.if-look.false) in
    let R = c.look-2.ensures es (grown l) g (look_more T g G c.look.auto.notes c.look.auto.spots M c.if-most-blocks.false) G in
    turned_more T g G M
    (test c.look-2.result (λ e. as_found es (grown l) g _ _ _ _ c.look-2.result R e)
    (λ e. absurd (second_finds T g G (as_missed es (grown l) g _ _ _ _ c.look-2.result R e).0)))
    c.if-most-blocks.false
