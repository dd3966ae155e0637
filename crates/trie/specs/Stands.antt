-- The rows of a whole trie, for the callers that walk over it.
use Rattle.std.specs.Prelude.{List, ℕ, ◌≤◌, length}
use Rattle.paper.specs.Patterns.{Entry}
use Rattle.list.specs.Limits.{alphabet, most_bytes}
use Rattle.plan.specs.Names.{names}
use Rattle.plan.specs.Breadth.{Within}
use Rattle.trie.specs.Trie.{slots_of, Trie}

-- the rows hold the trie of the accepted patterns, which are within the limits
pub record Stands (es : List Entry) (rows : List (List ℕ)) : Type 0 where
  pub trie : Trie alphabet (slots_of rows) (names alphabet es)
  pub within : Within alphabet most_bytes es
  pub room : length (names alphabet es) ≤ length rows
