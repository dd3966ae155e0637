-- Trie numbers: the states in the order in which the patterns' bytes make them. State k is the k-th name; root is 0, dead is 1.
-- The number of letters is an argument, `a`: a byte is below it.
use Rattle.std.specs.Prelude.{◌≡◌, Bool, false, ◌||◌, List, [], ◌∷◌, ◌++◌, ℕ, ◌<◌, length, get_or}
use Rattle.paper.specs.Lists.{pick, same, snoc}
use Rattle.paper.specs.Patterns.{Entry}

-- the list has the string
unfoldable pub has : List (List ℕ) → List ℕ → Bool
has [] s = false
has (x ∷ xs) s = same s x || has xs s

-- a new state stands at the end, unless it is there
unfoldable pub made : List (List ℕ) → List ℕ → List (List ℕ)
made names s = pick (has names s) names (names ++ (s ∷ []))

-- the states of the bytes w below u
unfoldable pub along : List (List ℕ) → List ℕ → List ℕ → List (List ℕ)
along names u [] = names
along names u (c ∷ w) = along (made names (snoc u c)) (snoc u c) w

-- the states of the patterns, one pattern after the other
unfoldable pub names_from : List (List ℕ) → List Entry → List (List ℕ)
names_from names [] = names
names_from names (x ∷ es) = names_from (along names [] x.word) es

-- root, and dead, whose name is no string of bytes
unfoldable pub root_and_dead : ℕ → List (List ℕ)
root_and_dead a = [] ∷ (a ∷ []) ∷ []

-- the states of a list in creation order
unfoldable pub names : ℕ → List Entry → List (List ℕ)
names a es = names_from (root_and_dead a) es

-- no string stands twice
unfoldable pub Distinct : List (List ℕ) → Type 0
Distinct names = (i j : ℕ) → i < length names → j < length names → get_or names i [] ≡ get_or names j [] → i ≡ j
