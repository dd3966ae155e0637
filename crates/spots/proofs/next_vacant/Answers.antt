-- `next_vacant` passes one run after another, then notes the whole of it.
use borrow.Author.Rules.{rules}
use Rattle.spots.proofs.Passing.{Passed, run_within, passed_run}
use Rattle.spots.proofs.next_vacant.Goals as goal
use Rattle.spots.proofs.next_vacant.Goals.{else-loop-i-test, then-loop-i-test+then-n-eq0, At-loop-i, Left-loop-i}

-- where the loop stands, for the layout that the caller showed
told : (c : goal.At-loop-i) → Passed c.requires.layout c.args.from c.args.end c.loop-i.i
told c = c.loop-i.invariant c.requires.layout c.requires.stretch

pub overflow_add-i : goal.overflow_add-i
overflow_add-i c =
    let p = c.requires in
    let small = run_within p.stretch (told (goal.at.overflow_add-i c).At-loop-i) c.loop-i-test.true in
    search rules

pub loop-i-preserved : goal.loop-i-preserved
loop-i-preserved c = λ l S. passed_run S (c.loop-i.invariant l S) c.loop-i-test.true
