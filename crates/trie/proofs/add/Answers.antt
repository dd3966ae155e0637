-- `add` walks down the trie by the bytes of one pattern and makes the states that are missing.
use mathlib.Core.Path.{ap, ◌∙◌}
use native.Mathlib.Numerals.{add-one}
use native.Mathlib.Omega.{arith}
use lib.ListN.{length}
use Rattle.trie.proofs.Adding.{adding_old, adding_new, adding_full, adding_end}
use Rattle.trie.proofs.add.Goals as goal
use Rattle.trie.proofs.add.Goals.{in-Ok, in-Err+else-slots-n}

pub returns-then-slots-n : goal.returns-then-slots-n
returns-then-slots-n c = λ names I e.
    let A = c.loop-i.invariant.3 names I e in
    adding_full A c.loop-i-test.true _ _ _ (rw c.from-byte.ensures at (c.in-Err.ensures A.cur A.trie A.inside)) c.if-slots-n.true

pub loop-i-preserved : goal.loop-i-preserved
loop-i-preserved c =
    elim c.match-locate.branch [
      | in-Ok w ↦ rw (w.trie-is, w.n-is, w.s-is) (
        omega arith,
        c.loop-i.invariant.1,
        c.loop-i.invariant.2,
        λ names I e.
            let A = c.loop-i.invariant.3 names I e in
            adding_old A c.loop-i-test.true _ (rw c.from-byte.ensures at (w.in-Ok.ensures A.cur A.trie A.inside)),
      )
      | in-Err+else-slots-n w ↦ (
        omega arith,
        ap length w.trie-is ∙ w.insert.auto.trie ∙ c.loop-i.invariant.1,
        omega (arith, w.n-is, w.if-slots-n.false),
        λ names I e.
            let A = c.loop-i.invariant.3 names I e in
            rw (w.trie-is, w.n-is, w.s-is)
            (adding_new A c.loop-i-test.true _ _ _ _ (omega arith) (add-one _)
            (rw c.from-byte.ensures at (w.in-Err.ensures A.cur A.trie A.inside)) (rw c.from-byte.ensures at w.insert.ensures)),
      )
    ]

pub returns : goal.returns
returns c = (λ names I e. (adding_end (c.loop-i.invariant.3 names I e) (omega arith), c.loop-i.invariant.2))
