-- What the build notes of each state after the trie stands, in rows of six: its place in the breadth-first order is the row's number there,
-- so the first field belongs to a place and the others to a state.
use Rattle.std.specs.Prelude.{List, [], ◌∷◌, ℕ, set}
use Rattle.zeros.specs.Rows.{field}

-- by place of the order: the state that stands there; by state: its link, and where its outputs begin
pub record Notes : Type 0 where
  pub order : ℕ → ℕ
  pub link : ℕ → ℕ
  pub place : ℕ → ℕ

-- the notes of a table of rows
abbrev pub notes_of : List (List ℕ) → Notes
notes_of rows = record { order = λ k. field rows k 0; link = λ k. field rows k 1; place = λ k. field rows k 2 }

-- the rows with one field of row k anew
abbrev pub with_order : List (List ℕ) → ℕ → ℕ → List (List ℕ)
with_order rows k v = set rows k (v ∷ field rows k 1 ∷ field rows k 2 ∷ field rows k 3 ∷ field rows k 4 ∷ field rows k 5 ∷ [])

-- the same of a state's link
abbrev pub with_link : List (List ℕ) → ℕ → ℕ → List (List ℕ)
with_link rows k v = set rows k (field rows k 0 ∷ v ∷ field rows k 2 ∷ field rows k 3 ∷ field rows k 4 ∷ field rows k 5 ∷ [])

-- the same of a state's place
abbrev pub with_place : List (List ℕ) → ℕ → ℕ → List (List ℕ)
with_place rows k v = set rows k (field rows k 0 ∷ field rows k 1 ∷ v ∷ field rows k 3 ∷ field rows k 4 ∷ field rows k 5 ∷ [])
