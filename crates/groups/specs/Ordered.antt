-- The order of the groups as a table. In a row of notes the group's field belongs to a place of the order, the stack's to a height.
use Rattle.std.specs.Prelude.{◌≡◌, List, [], ◌∷◌, ℕ, ◌≤◌, ◌<◌, length, get_or, set}
use Rattle.zeros.specs.Rows.{field}
use Rattle.paper.specs.Patterns.{Entry}
use Rattle.paper.specs.Automaton.{is_state}
use Rattle.list.specs.Limits.{alphabet, most_bytes}
use Rattle.plan.specs.Names.{names}
use Rattle.plan.specs.Breadth.{kid_bytes}
use Rattle.plan.specs.Groups.{Group, bytes_of, groups}
use Rattle.trie.specs.Stands.{Stands}
use Rattle.links.specs.Linked.{Named}

-- the rows with one field of row k anew: the state of the group at place k
abbrev pub with_group : List (List ℕ) → ℕ → ℕ → List (List ℕ)
with_group rows k v = set rows k (field rows k 0 ∷ field rows k 1 ∷ field rows k 2 ∷ v ∷ field rows k 4 ∷ field rows k 5 ∷ [])

-- the same of the state at height k of the stack
abbrev pub with_stacked : List (List ℕ) → ℕ → ℕ → List (List ℕ)
with_stacked rows k v = set rows k (field rows k 0 ∷ field rows k 1 ∷ field rows k 2 ∷ field rows k 3 ∷ v ∷ field rows k 5 ∷ [])

-- the groups of the accepted patterns, depth first
abbrev pub groups_of : List Entry → List Group
groups_of es = groups alphabet (is_state es) most_bytes

-- what is read where no group is
abbrev pub no_group : Group
no_group = record { parent = []; low = 0; more = [] }

-- the first places hold the states of these groups, in this order; the bytes of each are its state's child bytes
pub record Ordered (es : List Entry) (notes : List (List ℕ)) (count : ℕ) (gs : List Group) : Type 0 where
  pub count_is : count ≡ length gs
  pub room : count ≤ length notes
  pub named : (i : ℕ) → i < length gs → Named (names alphabet es) (field notes i 3) (get_or gs i no_group).parent
  pub bytes : (i : ℕ) → i < length gs → kid_bytes alphabet (is_state es) (get_or gs i no_group).parent ≡ bytes_of (get_or gs i no_group)

-- the groups of the accepted patterns stand in their order; the order of the states, their links and output places are as they were
pub record Grouped (es : List Entry) (notes₀ notes : List (List ℕ)) (count : ℕ) : Type 0 where
  pub ordered : Ordered es notes count (groups_of es)
  pub kept : (k f : ℕ) → f < 3 → field notes k f ≡ field notes₀ k f

-- the trie of some accepted patterns stands, and there is a row of notes for each state
pub record Groupable (es : List Entry) (trie : List (List ℕ)) (room : ℕ) : Type 0 where
  pub stands : Stands es trie
  pub notes_room : length (names alphabet es) ≤ room

-- some patterns for which this holds
pub record GroupableSome (trie : List (List ℕ)) (room : ℕ) : Type 0 where
  pub es : List Entry
  pub groupable : Groupable es trie room
