-- `find_base` goes from one vacant index to the next, until one serves.
use mathlib.Core.Path.{sym, ◌∙◌}
use mathlib.Core.List.{List}
use native.Mathlib.Omega.{arith}
use Rattle.paper.specs.Patterns.{Entry}
use Rattle.plan.specs.Groups.{Group}
use Rattle.plan.specs.Placement.{Layout}
use Rattle.spots.specs.Charted.{Seek, GroupAt}
use Rattle.spots.proofs.Hunting.{Hunt, seek_group, hunt_begin, hunt_none, hunt_try, hunt_stretch, hunt_found, hunt_more}
use Rattle.spots.proofs.find_base.Goals as goal
use Rattle.spots.proofs.find_base.Goals.{At-loop-i}

-- where the hunt stands, of whatever patterns, layout and group
hunts : (c : goal.At-loop-i) (es : List Entry) (l : Layout) (g : Group)
    → let a = c.args in
    Seek es l a.trie.now a.spots.now a.s.0 a.from a.end → GroupAt es a.s.0 g
    → Hunt es l g a.trie.now c.loop-i.spots a.s.0 a.from a.end c.label-low.result c.loop-i.i
hunts c es l g K G =
    c.loop-i.invariant.1 es l g
    (hunt_begin g K G c.first_child.ensures c.label-low.ensures (c.next_vacant-i.ensures l K.stretch)
    c.next_vacant-i.auto.spots)

-- of those that the caller showed
told : (c : goal.At-loop-i)
    → let a = c.args in let p = c.requires in
    Hunt p.es p.layout (seek_group p.seek).0 a.trie.now c.loop-i.spots a.s.0 a.from a.end
    c.label-low.result c.loop-i.i
told c =
    let p = c.requires in
    hunts c p.es p.layout (seek_group p.seek).0 p.seek (seek_group p.seek).1

pub fits-requires : goal.fits-requires
fits-requires c =
    let p = c.requires in
    record { es = p.es; layout = p.layout; try = hunt_try (told (goal.at.fits-requires c).At-loop-i) c.loop-i-test.true }

pub returns-then-fits : goal.returns-then-fits
returns-then-fits c =
    λ es l g K G.
    let H = hunts (goal.at.returns-then-fits c).At-loop-i es l g K G in
    let h = c.loop-i-test.true in
    (hunt_found H h (sym c.if-fits.true ∙ c.fits.ensures es l g (hunt_try H h) G), H.seek.stretch.charted)

pub next_vacant-i-requires-in-loop-i : goal.next_vacant-i-requires-in-loop-i
next_vacant-i-requires-in-loop-i c =
    record { layout = c.requires.layout; stretch = hunt_stretch (told (goal.at.next_vacant-i-requires-in-loop-i c).At-loop-i) c.loop-i-test.true }

pub loop-i-smaller : goal.loop-i-smaller
loop-i-smaller c =
    omega (arith, (c.next_vacant-i-in-loop-i.ensures _ (hunt_stretch (told (goal.at.loop-i-smaller c).At-loop-i) c.loop-i-test.true)).0.reached, c.loop-i-test.true)

pub loop-i-preserved : goal.loop-i-preserved
loop-i-preserved c =
    let same = c.next_vacant-i-in-loop-i.auto.spots in (
      same ∙ c.loop-i.invariant.0,
      λ es l g H₀.
          let H = c.loop-i.invariant.1 es l g H₀ in
          let h = c.loop-i-test.true in
          hunt_more H h (sym c.if-fits.false ∙ c.fits.ensures es l g (hunt_try H h) H.group)
          (c.next_vacant-i-in-loop-i.ensures l (hunt_stretch H h)) same,
    )

pub returns : goal.returns
returns c =
    λ es l g K G. let H = hunts (goal.at.returns c).At-loop-i es l g K G in (hunt_none H c.loop-i-test.false, H.seek.stretch.charted)
