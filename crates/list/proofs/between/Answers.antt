-- `list::between` is the test that its number lies from the one bound to the other.
use Rattle.std.proofs.lemmas.Bool.{le-leb, lt-leb}
use Rattle.list.proofs.between.Goals as goal

pub returns-then-least-n : goal.returns-then-least-n
returns-then-least-n c = simp (le-leb _ _ c.if-least-n.true)

pub returns-else-least-n : goal.returns-else-least-n
returns-else-least-n c = simp (lt-leb _ _ c.if-least-n.false)
