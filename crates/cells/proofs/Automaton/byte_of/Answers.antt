-- `byte_of` reads the byte of a state that has one.
use mathlib.Core.Path.{sym, ◌∙◌}
use Rattle.cells.proofs.Values.{no_byte, own_byte_lem}
use Rattle.cells.proofs.Automaton.byte_of.Goals as goal

pub returns-then-s-eq0 : goal.returns-then-s-eq0
returns-then-s-eq0 c = sym (no_byte c.args.self.trie.now c.args.self.trie.now _ c.if-s-eq0.true)

pub returns : goal.returns
returns c = c.label.ensures ∙ sym (own_byte_lem c.args.self.trie.now c.args.self.trie.now _ c.if-s-eq0.false)
