-- The whole: what is asked of the tables of a build, and what they hold after the outputs are stored.
use Rattle.std.specs.Prelude.{◌≡◌, ℕ, ◌≤◌, ◌<◌, length, get_or, drop}
use mathlib.Core.List.{List, [], ◌++◌, Memᴰ}
use Rattle.paper.specs.Patterns.{Entry, Kind, Proper}
use Rattle.paper.specs.Automaton.{machine}
use Rattle.list.specs.Limits.{alphabet, most_listed, most_bytes}
use Rattle.zeros.specs.Rows.{field}
use Rattle.plan.specs.Names.{names}
use Rattle.plan.specs.Breadth.{Within}
use Rattle.plan.specs.Outputs.{Stored, store_all, nothing}
use Rattle.trie.specs.Trie.{slots_of}
use Rattle.trie.specs.Owned.{owns_of}
use Rattle.trie.specs.Made.{Made}
use Rattle.links.specs.Notes.{notes_of}
use Rattle.links.specs.Linked.{ordered, Linked}
use Rattle.outputs.specs.Rows.{out_rows}

-- what is stored for the accepted patterns, over the breadth-first order
abbrev pub all_stored : Kind → List Entry → Stored
all_stored kind es = store_all (machine kind es) nothing (ordered es)

-- the tables are those of the accepted patterns, and there are slots for their outputs
pub record Tabled (kind : Kind) (es : List Entry) (trie owns notes : List (List ℕ)) (values : List ℕ) (slots states : ℕ) : Type 0 where
  pub accepted : ℕ
  pub made : Made (slots_of trie) (owns_of owns) states accepted (length owns) es
  pub linked : Linked kind es (notes_of notes)
  pub proper : Proper es
  pub within : Within alphabet most_bytes es
  pub valued : (x : Entry) → Memᴰ x es → x.row < length values
  pub few : accepted ≤ most_listed
  pub own_room : accepted ≤ length owns
  pub out_room : accepted ≤ slots
  pub trie_room : states ≤ length trie
  pub note_room : states ≤ length notes

-- the tables are those of some accepted patterns
pub record TabledSome (trie owns notes : List (List ℕ)) (values : List ℕ) (slots states : ℕ) : Type 0 where
  pub kind : Kind
  pub es : List Entry
  pub tabled : Tabled kind es trie owns notes values slots states

-- the outputs stand first in their table, and each state's note has its place; the other fields of the notes are as they were
pub record Placed (kind : Kind) (es : List Entry) (values : List ℕ) (notes₀ notes outs₀ outs : List (List ℕ)) (count : ℕ) : Type 0 where
  pub count_is : count ≡ length es
  pub rows : outs ≡ out_rows values (all_stored kind es).outs ++ drop (length es) outs₀
  pub place : (k : ℕ) → k < length (names alphabet es) → (k ≡ 1 → ⊥)
      → field notes k 2 ≡ (all_stored kind es).place (get_or (names alphabet es) k [])
  pub dead : field notes 1 2 ≡ 0
  pub kept : (k f : ℕ) → f < 6 → (f ≡ 2 → ⊥) → field notes k f ≡ field notes₀ k f
