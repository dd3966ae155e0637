-- The trie of a lent list with its links: what the tables hold, and when there is none.
use Rattle.std.specs.Prelude.{List, ℕ, ◌≤◌, ◌<◌, length, Result, Ok, Err}
use Rattle.paper.specs.Patterns.{Entry, accepted}
use Rattle.list.specs.Limits.{alphabet, smaller}
use Rattle.list.specs.Kinds.{kind_of}
use Rattle.list.specs.Listed.{patterns_of}
use Rattle.plan.specs.Names.{names}
use Rattle.trie.specs.Trie.{slots_of}
use Rattle.trie.specs.Owned.{owns_of}
use Rattle.trie.specs.Made.{Made}
use Rattle.trie.specs.declared.Grown.{Grown as Counts}
use Rattle.trie.specs.declared.FewStates.{FewStates}
use Rattle.links.specs.Notes.{notes_of}
use Rattle.links.specs.Linked.{Linked}
use Rattle.links.specs.Queue.{Ready}

-- the accepted patterns of a lent list
abbrev pub accepted_of : ℕ → List ℕ → List ℕ → List Entry
accepted_of kind bytes ends = accepted (kind_of kind) (patterns_of bytes ends)

-- a number of slots as the trie counts them; no list within the limits has as many states as the bound
abbrev pub counted : ℕ → ℕ
counted n = smaller n 4294967295

-- the tables hold the trie of the accepted patterns and its links, within the slots
pub record Grown (kind : ℕ) (bytes ends : List ℕ) (slots : ℕ) (trie owns notes : List (List ℕ)) (states count : ℕ) : Type 0 where
  pub made : Made (slots_of trie) (owns_of owns) states count (length owns) (accepted_of kind bytes ends)
  pub ready : Ready (kind_of kind) (accepted_of kind bytes ends) trie (length notes)
  pub linked : Linked (kind_of kind) (accepted_of kind bytes ends) (notes_of notes)
  pub fit : states ≤ slots

-- the tables hold it; or the states, root and dead counted, pass the slots
abbrev pub GrownOk : ℕ → List ℕ → List ℕ → ℕ → List (List ℕ) → List (List ℕ) → List (List ℕ) → Result Counts FewStates → Type 0
GrownOk kind bytes ends slots trie owns notes (Ok grown) = Grown kind bytes ends slots trie owns notes grown.states grown.accepted
GrownOk kind bytes ends slots trie owns notes (Err few) = slots < length (names alphabet (accepted_of kind bytes ends))
