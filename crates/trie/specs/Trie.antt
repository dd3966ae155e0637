-- A trie in lent rows, tied to the names of its states: state k is the k-th name. No chain of siblings is spoken of: each slot says
-- which byte comes next. `a` is the number of letters.
use Rattle.std.specs.Prelude.{◌≡◌, false, List, [], ◌∷◌, ℕ, suc, ◌≤◌, ◌<◌, length, get_or, set}
use Rattle.paper.specs.Lists.{snoc}
use Rattle.zeros.specs.Rows.{field}
use Rattle.plan.specs.Names.{has, Distinct}

-- what the slots of states hold, by state: first child, next sibling, byte, depth, latest own output
pub record Slots : Type 0 where
  pub first : ℕ → ℕ
  pub sibling : ℕ → ℕ
  pub label : ℕ → ℕ
  pub depth : ℕ → ℕ
  pub own : ℕ → ℕ

-- the slots of a table of rows
abbrev pub slots_of : List (List ℕ) → Slots
slots_of rows =
    record {
      first = λ k. field rows k 0;
      sibling = λ k. field rows k 1;
      label = λ k. field rows k 2;
      depth = λ k. field rows k 3;
      own = λ k. field rows k 4;
    }

-- the rows with the first two anew: root and dead
abbrev pub with_root_and_dead : List (List ℕ) → List (List ℕ)
with_root_and_dead rows = set (set rows 0 (0 ∷ 0 ∷ 0 ∷ 0 ∷ 0 ∷ [])) 1 (0 ∷ 0 ∷ 0 ∷ 0 ∷ 0 ∷ [])

-- the rows with row k anew: a state with no child and no own output
abbrev pub with_new : List (List ℕ) → ℕ → ℕ → ℕ → ℕ → List (List ℕ)
with_new rows k next b d = set rows k (0 ∷ next ∷ b ∷ d ∷ 0 ∷ [])

-- the rows with one field of row k anew
abbrev pub with_first : List (List ℕ) → ℕ → ℕ → List (List ℕ)
with_first rows k v = set rows k (v ∷ field rows k 1 ∷ field rows k 2 ∷ field rows k 3 ∷ field rows k 4 ∷ [])

-- the same of the next sibling
abbrev pub with_sibling : List (List ℕ) → ℕ → ℕ → List (List ℕ)
with_sibling rows k v = set rows k (field rows k 0 ∷ v ∷ field rows k 2 ∷ field rows k 3 ∷ field rows k 4 ∷ [])

-- the same of the latest own output
abbrev pub with_own : List (List ℕ) → ℕ → ℕ → List (List ℕ)
with_own rows k v = set rows k (field rows k 0 ∷ field rows k 1 ∷ field rows k 2 ∷ field rows k 3 ∷ v ∷ [])

-- t is the state of u with the byte c after it
pub record Kid (a : ℕ) (names : List (List ℕ)) (u : List ℕ) (c t : ℕ) : Type 0 where
  pub above : 1 < t
  pub inside : t < length names
  pub byte : c < a
  pub named : get_or names t [] ≡ snoc u c

-- t is the child of u with the least byte that is lo or more, 0 where u has none
pub record Least (a : ℕ) (names : List (List ℕ)) (u : List ℕ) (lo t : ℕ) : Type 0 where
  pub stop : ℕ
  pub low : lo ≤ stop
  pub gap : (d : ℕ) → lo ≤ d → d < stop → has names (snoc u d) ≡ false
  pub none : t ≡ 0 → stop ≡ a
  pub some : (t ≡ 0 → ⊥) → Kid a names u stop t

-- k is a child of an earlier state
pub record Born (a : ℕ) (names : List (List ℕ)) (k : ℕ) : Type 0 where
  pub parent : ℕ
  pub byte : ℕ
  pub before : parent < k
  pub apart : parent ≡ 1 → ⊥
  pub small : byte < a
  pub is : get_or names k [] ≡ snoc (get_or names parent []) byte

-- the slots are those of the names: 0 is root, 1 is dead, each slot has the state's first child, next sibling, byte and depth
pub record Trie (a : ℕ) (K : Slots) (names : List (List ℕ)) : Type 0 where
  pub two : 2 ≤ length names
  pub root : get_or names 0 [] ≡ []
  pub dead : get_or names 1 [] ≡ a ∷ []
  pub distinct : Distinct names
  pub born : (k : ℕ) → 1 < k → k < length names → Born a names k
  pub child : (s : ℕ) → s < length names → Least a names (get_or names s []) 0 (K.first s)
  pub next : (k c : ℕ) (u : List ℕ) → k < length names → c < a → get_or names k [] ≡ snoc u c → Least a names u (suc c) (K.sibling k)
  pub labelled : (k c : ℕ) (u : List ℕ) → k < length names → c < a → get_or names k [] ≡ snoc u c → K.label k ≡ c
  pub deep : (k : ℕ) → k < length names → (k ≡ 1 → ⊥) → K.depth k ≡ length (get_or names k [])

-- where the new child of u on the byte b goes: `next` comes after it, and `prev` before it, 0 where there is none
pub record After (a : ℕ) (names : List (List ℕ)) (u : List ℕ) (lo prev : ℕ) : Type 0 where
  pub byte : ℕ
  pub lo_is : lo ≡ suc byte
  pub kid : Kid a names u byte prev

-- u has no child on b: after prev, before next
pub record Gap (a : ℕ) (names : List (List ℕ)) (u : List ℕ) (b prev next : ℕ) : Type 0 where
  pub absent : has names (snoc u b) ≡ false
  pub lo : ℕ
  pub lo_le : lo ≤ b
  pub least : Least a names u lo next
  pub later : b < least.stop
  pub front : prev ≡ 0 → lo ≡ 0
  pub after : (prev ≡ 0 → ⊥) → After a names u lo prev

-- the slots with the new state n: a child of s on the byte b at depth d, with no child and no own output
pub record Inserted (K L : Slots) (n s b d prev next : ℕ) : Type 0 where
  pub first_new : L.first n ≡ 0
  pub first_parent : prev ≡ 0 → L.first s ≡ n
  pub first_other : (k : ℕ) → (k ≡ n → ⊥) → (prev ≡ 0 → k ≡ s → ⊥) → L.first k ≡ K.first k
  pub sibling_new : L.sibling n ≡ next
  pub sibling_prev : (prev ≡ 0 → ⊥) → L.sibling prev ≡ n
  pub sibling_other : (k : ℕ) → (k ≡ n → ⊥) → ((prev ≡ 0 → ⊥) → k ≡ prev → ⊥) → L.sibling k ≡ K.sibling k
  pub label_new : L.label n ≡ b
  pub label_other : (k : ℕ) → (k ≡ n → ⊥) → L.label k ≡ K.label k
  pub depth_new : L.depth n ≡ d
  pub depth_other : (k : ℕ) → (k ≡ n → ⊥) → L.depth k ≡ K.depth k
  pub own_new : L.own n ≡ 0
  pub own_other : (k : ℕ) → (k ≡ n → ⊥) → L.own k ≡ K.own k
