-- `add_one` drops the pattern or makes its states and gives it to the last of them.
use mathlib.Core.Path.{◌≡◌, sym, ◌∙◌}
use mathlib.Core.Bool.{true, false, ◌&&◌}
use native.Mathlib.Omega.{arith}
use Rattle.list.specs.Limits.{alphabet}
use Rattle.paper.specs.Patterns.{barred}
use Rattle.plan.specs.Names.{names}
use Rattle.trie.specs.Made.{entry}
use Rattle.trie.proofs.Making.{names_more, names_cover, made_more}
use Rattle.trie.proofs.Accepting.{grew_few}
use Rattle.trie.proofs.add_one.Goals as goal

pub returns-then-dropped : goal.returns-then-dropped
returns-then-dropped c = λ es A.
    let e : (c.args.drops && barred es c.args.part.now) ≡ true
    = sym (c.dropped.ensures (names alphabet es) es A.trie A.owned (names_cover alphabet es)) ∙ c.if-dropped.true in
    rw e (A, c.requires.room.0)

pub returns-in_err-added : goal.returns-in_err-added
returns-in_err-added c = λ es A.
    let e : (c.args.drops && barred es c.args.part.now) ≡ false
    = sym (c.dropped.ensures (names alphabet es) es A.trie A.owned (names_cover alphabet es)) ∙ c.if-dropped.false in
    rw e
    (grew_few _ _ _ _ _ _ c.from_residual.ensures.0
    (rw (names_more alphabet es (entry c.args.row c.args.part.now)) (c.in_err-added.ensures (names alphabet es) A.trie A.states_are)))

pub returns : goal.returns
returns c = λ es A.
    let e : (c.args.drops && barred es c.args.part.now) ≡ false
    = sym (c.dropped.ensures (names alphabet es) es A.trie A.owned (names_cover alphabet es)) ∙ c.if-dropped.false in
    let G = c.in_ok-added.ensures (names alphabet es) A.trie A.states_are in
    rw (e, c.give.ensures.trie_after, c.give.ensures.owns_after) (
      made_more c.args.trie.now c.args.owns.now c.add.new.trie es c.args.grown.states c.args.grown.accepted _ _ c.args.row c.args.part.now A G.0
          (omega (arith, G.1, c.requires.room, c.add.auto.trie)),
      G.1,
    )
