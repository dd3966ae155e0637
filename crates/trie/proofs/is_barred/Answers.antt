-- `is_barred` walks down the trie and meets an own output before the last byte exactly if an entry is a proper prefix.
use mathlib.Core.Path.{sym, ◌∙◌}
use native.Mathlib.Omega.{arith}
use Rattle.trie.proofs.Dropping.{walking, met, missing, onward, through}
use Rattle.trie.proofs.is_barred.Goals as goal

pub loop-letter-init : goal.loop-letter-init
loop-letter-init c = (omega arith, (λ names I. omega (arith, I.two)), λ names es I O C. walking I O C _)

pub returns-then-own-ne0 : goal.returns-then-own-ne0
returns-then-own-ne0 c = λ names es I O C.
    sym (met I O C (c.loop-letter.invariant.2 names es I O C) c.loop-letter-test.true (λ z. c.if-own-ne0.true (c.own.ensures ∙ z)))

pub returns-in_default : goal.returns-in_default
returns-in_default c = λ names es I O C.
    let W = c.loop-letter.invariant.2 names es I O C in
    sym (missing I O C W c.loop-letter-test.true (sym c.own.ensures ∙ c.if-own-ne0.false)
    (rw c.from.ensures at (c.in_default.ensures names I W.inside).absent))

pub loop-letter-preserved : goal.loop-letter-preserved
loop-letter-preserved c = (
  omega arith,
  (λ names I. (c.in-Ok.ensures names I (c.loop-letter.invariant.1 names I)).inside),
  λ names es I O C.
      let W = c.loop-letter.invariant.2 names es I O C in
      onward I O C W c.loop-letter-test.true _ (sym c.own.ensures ∙ c.if-own-ne0.false) (rw c.from.ensures at (c.in-Ok.ensures names I W.inside)),
)

pub returns : goal.returns
returns c = λ names es I O C. sym (through I O C (c.loop-letter.invariant.2 names es I O C) (omega arith))
