-- Own outputs in the slots: whether a state has any, and which.
use Rattle.std.specs.Prelude.{◌≡◌, true, List, [], ◌∷◌, reverse, ℕ, suc, ◌≤◌, ◌<◌, eqb, ltb, length, get_or, set}
use Rattle.paper.specs.Lists.{pick, is_nil}
use Rattle.paper.specs.Patterns.{Entry}
use Rattle.paper.specs.Automaton.{is_state, own_of}
use Rattle.zeros.specs.Rows.{field}
use Rattle.plan.specs.Names.{has}
use Rattle.trie.specs.Trie.{Slots}

-- a state's slot tells whether it has own outputs; dead has none
pub record Owned (K : Slots) (names : List (List ℕ)) (es : List Entry) : Type 0 where
  pub tells : (k : ℕ) → k < length names → (k ≡ 1 → ⊥) → eqb (K.own k) 0 ≡ is_nil (own_of es (get_or names k []))
  pub dead : K.own 1 ≡ 0

-- every state of the entries is a name
abbrev pub Covers : List (List ℕ) → List Entry → Type 0
Covers names es = (s : List ℕ) → is_state es s ≡ true → has names s ≡ true

-- what the slots of outputs hold, by accepted pattern: its row, and the own output of the same state before it, counted from 1
pub record Owns : Type 0 where
  pub row : ℕ → ℕ
  pub before : ℕ → ℕ

-- the slots of a table of rows
abbrev pub owns_of : List (List ℕ) → Owns
owns_of rows = record { row = λ k. field rows k 0; before = λ k. field rows k 1 }

-- from the own output h on, the latest first, these entries lie below n
abbrev pub Pile : Owns → ℕ → ℕ → List Entry → Type 0
Pile O n h [] = h ≡ 0
Pile O n h (x ∷ xs) = (k : ℕ) × (h ≡ suc k) × (k < n) × (O.row k ≡ x.row) × (O.before k ≤ k) × Pile O n (O.before k) xs

-- each state's own outputs lie in the slots, the latest first
abbrev pub Piled : Slots → Owns → ℕ → List (List ℕ) → List Entry → Type 0
Piled K O n names es = (k : ℕ) → k < length names → (k ≡ 1 → ⊥) → Pile O n (K.own k) (reverse (own_of es (get_or names k [])))

-- the rows with the own output k anew, if there is a slot for it
abbrev pub owns_with : List (List ℕ) → ℕ → ℕ → ℕ → List (List ℕ)
owns_with rows k row before = pick (ltb k (length rows)) (set rows k (row ∷ before ∷ [])) rows
