-- What is proved of the stored outputs: each claim with its English above it. The proofs stand in ../proofs; `claims` there has them all.
use Rattle.std.specs.Prelude.{◌≡◌, true, List, [], ◌∷◌, ℕ, ◌-◌, ◌≤◌, ◌<◌, length, get_or}
use Rattle.paper.specs.Patterns.{Entry, Kind, Proper}
use Rattle.paper.specs.Automaton.{machine, is_state, output}
use Rattle.list.specs.Limits.{alphabet, most_bytes}
use Rattle.zeros.specs.Rows.{field}
use Rattle.plan.specs.Names.{names}
use Rattle.plan.specs.Breadth.{Within}
use Rattle.plan.specs.Outputs.{no_out, Chained}
use Rattle.links.specs.Notes.{notes_of}
use Rattle.links.specs.Linked.{Linked}
use Rattle.outputs.specs.Placed.{all_stored, Tabled, Placed}

-- the row at place p is one of the first `count`, it has the entry's value and length, and the next one's place is below p
pub record RowShows (values : List ℕ) (outs : List (List ℕ)) (count p : ℕ) (x : Entry) : Type 0 where
  pub some_place : 0 < p
  pub within : p ≤ count
  pub value : field outs (p - 1) 0 ≡ get_or values x.row 0
  pub size : field outs (p - 1) 1 ≡ length x.word
  pub falls : field outs (p - 1) 2 < p

-- the chain of rows from a place tells these entries
abbrev pub RowsChained : List ℕ → List (List ℕ) → ℕ → ℕ → List Entry → Type 0
RowsChained values outs count p [] = p ≡ 0
RowsChained values outs count p (x ∷ xs) = RowShows values outs count p x × RowsChained values outs count (field outs (p - 1) 2) xs

-- what is stored for the accepted patterns
pub record StoredClaims (kind : Kind) (es : List Entry) : Type 0 where
  -- from a state's place the chain lists exactly what the automaton puts out there
  pub chained : (s : List ℕ) → is_state es s ≡ true
      → Chained (all_stored kind es).outs ((all_stored kind es).place s) (output (machine kind es) s)
  -- each next place is below its own: the output with k before it has place k + 1
  pub falls : (k : ℕ) → k < length (all_stored kind es).outs → (get_or (all_stored kind es).outs k no_out).next ≤ k
  -- there are as many outputs as accepted patterns
  pub counted : length (all_stored kind es).outs ≡ length es

-- what the tables hold then
pub record TableClaims (kind : Kind) (es : List Entry) (values : List ℕ) (notes outs : List (List ℕ)) (count : ℕ) : Type 0 where
  -- from a state's place the chain of rows tells exactly what the automaton puts out there; dead has none
  pub tells : (k : ℕ) → k < length (names alphabet es) → (k ≡ 1 → ⊥)
      → RowsChained values outs count (field notes k 2) (output (machine kind es) (get_or (names alphabet es) k []))
  -- the order and the links are still those of the patterns
  pub linked : Linked kind es (notes_of notes)

-- what is proved of the outputs, over the strings and of the tables
pub record OutputClaims : Type 0 where
  pub stored : (kind : Kind) (es : List Entry) → Proper es → Within alphabet most_bytes es → StoredClaims kind es
  pub tables : {kind : Kind} {es : List Entry} {trie owns notes₀ : List (List ℕ)} {values : List ℕ} {slots states : ℕ}
      {notes outs₀ outs : List (List ℕ)} {count : ℕ}
      → Tabled kind es trie owns notes₀ values slots states → Placed kind es values notes₀ notes outs₀ outs count
      → TableClaims kind es values notes outs count
