-- The stack of states in the notes: who stands at which height, and what a push leaves.
use Rattle.std.specs.Prelude.{◌≡◌, List, [], ◌∷◌, ◌++◌, reverse, ℕ, ◌≤◌, ◌<◌, length}
use Rattle.zeros.specs.Rows.{field}
use Rattle.paper.specs.Patterns.{Entry}
use Rattle.paper.specs.Automaton.{is_state}
use Rattle.list.specs.Limits.{alphabet}
use Rattle.plan.specs.Names.{names}
use Rattle.plan.specs.Breadth.{kids}
use Rattle.trie.specs.Stands.{Stands}
use Rattle.links.specs.Linked.{Named}

-- the notes hold these states as a stack, the top first: below the top stand as many as come after it
abbrev pub Stack : List (List ℕ) → List (List ℕ) → List (List ℕ) → Type 0
Stack ns notes [] = Unit {0}
Stack ns notes (s ∷ below) = Named ns (field notes (length below) 4) s × Stack ns notes below

-- the children of u pushed by rising byte, so that the highest byte's is on top
abbrev pub with_kids : List Entry → List ℕ → List (List ℕ) → List (List ℕ)
with_kids es u stack = reverse (kids alphabet (is_state es) u) ++ stack

-- s is the state u, and there is room for its children on this stack
pub record Pushable (es : List Entry) (trie notes : List (List ℕ)) (s height : ℕ) (u : List ℕ) (stack : List (List ℕ)) : Type 0 where
  pub stands : Stands es trie
  pub named : Named (names alphabet es) s u
  pub height_is : height ≡ length stack
  pub stack_is : Stack (names alphabet es) notes stack
  pub room : length (with_kids es u stack) ≤ length notes

-- they stand on it, and only the stack has changed
pub record Pushed (es : List Entry) (notes₀ notes : List (List ℕ)) (height : ℕ) (u : List ℕ) (stack : List (List ℕ)) : Type 0 where
  pub height_is : height ≡ length (with_kids es u stack)
  pub stack_is : Stack (names alphabet es) notes (with_kids es u stack)
  pub kept : (k f : ℕ) → f < 4 → field notes k f ≡ field notes₀ k f

-- some patterns, a state and a stack for which this holds
pub record PushableSome (trie notes : List (List ℕ)) (s height : ℕ) : Type 0 where
  pub es : List Entry
  pub state : List ℕ
  pub stack : List (List ℕ)
  pub pushable : Pushable es trie notes s height state stack
