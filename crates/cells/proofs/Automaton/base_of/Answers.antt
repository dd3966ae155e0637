-- `base_of` reads the base off the first child.
use mathlib.Core.Path.{sym, ◌∙◌}
use Rattle.cells.proofs.Values.{childless, by_first}
use Rattle.cells.proofs.Automaton.base_of.Goals as goal

pub returns-then-t-eq0 : goal.returns-then-t-eq0
returns-then-t-eq0 c = sym (childless c.args.self.trie.now c.args.self.notes.now _ (sym c.first_child-t.ensures ∙ c.if-t-eq0.true))

pub returns : goal.returns
returns c =
    let a = c.args in
    let e = c.first_child-t.ensures in
    rw (c.cell_of.ensures, c.label.ensures, e)
    (sym (by_first a.self.trie.now a.self.notes.now _ (λ z. c.if-t-eq0.false (e ∙ z))))
