-- `write_states` writes the cell of each state but dead.
use Rattle.cells.specs.Writing.{StatesWritten}
use Rattle.cells.proofs.write_states.Given as goal

abbrev pub invariant-loop-k : goal.invariant-loop-k
invariant-loop-k l =
    StatesWritten l.automaton.trie.now l.automaton.notes.now l.k l.initial.base l.initial.link l.initial.output l.initial.check l.initial.depth l.base l.link l.output l.check l.depth
