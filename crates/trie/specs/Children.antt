-- A walk along the children of a state, as the rows lead from one to the next.
use Rattle.std.specs.Prelude.{◌≡◌, List, ℕ, ◌-◌, ◌≤◌, eqb, length, Option, None, Some}
use Rattle.paper.specs.Lists.{pick}
use Rattle.list.specs.Limits.{alphabet}
use Rattle.trie.specs.Trie.{Slots, slots_of, Least, Trie}
use Rattle.trie.specs.declared.TrieId.{TrieId}
use Rattle.trie.specs.declared.Siblings.{Siblings}

-- the rows are those of some names, and t is the child of one of them with the least byte that is lo or more, 0 where there is none
pub record Walks (rows : List (List ℕ)) (t : ℕ) : Type 0 where
  pub names : List (List ℕ)
  pub trie : Trie alphabet (slots_of rows) names
  pub room : length names ≤ length rows
  pub parent : List ℕ
  pub lo : ℕ
  pub least : Least alphabet names parent lo t

-- what is left of the children at t, as a number that falls
abbrev pub rank : ℕ → Slots → ℕ → ℕ
rank a K t = pick (eqb t 0) 0 (a - K.label t)

-- a walk that stands at t gives t and stands at the next sibling then; at root it is over
abbrev pub Gives : List (List ℕ) → ℕ → Option TrieId → ℕ → Type 0
Gives rows t None next = (t ≡ 0) × (next ≡ 0)
Gives rows t (Some child) next = (t ≡ 0 → ⊥) × (child.0 ≡ t) × (next ≡ (slots_of rows).sibling t)

-- the walk along the children of s
pub record Begun (rows : List (List ℕ)) (s : ℕ) (walk : Siblings) : Type 0 where
  pub rows_are : walk.trie.now ≡ rows
  pub first : walk.next.0 ≡ (slots_of rows).first s
  pub walks : Walks walk.trie.now walk.next.0
