-- What the trie's functions ask and answer, in the names of the states.
use Rattle.std.specs.Prelude.{◌≡◌, List, [], ℕ, ◌≤◌, ◌<◌, length, get_or, Result, Ok, Err}
use Rattle.list.specs.Limits.{alphabet}
use Rattle.plan.specs.Names.{along}
use Rattle.trie.specs.Trie.{Slots, slots_of, Kid, Trie, Gap}
use Rattle.trie.specs.declared.TrieId.{TrieId}
use Rattle.trie.specs.declared.Gap.{Gap as Neighbours}
use Rattle.trie.specs.declared.Added.{Added}
use Rattle.trie.specs.declared.FewStates.{FewStates}

-- the rows are those of some names, of which s is one
pub record Known (rows : List (List ℕ)) (s : ℕ) : Type 0 where
  pub names : List (List ℕ)
  pub trie : Trie alphabet (slots_of rows) names
  pub room : length names ≤ length rows
  pub inside : s < length names

-- the child on the byte, or the gap for it
abbrev pub Located : List (List ℕ) → ℕ → ℕ → Result TrieId Neighbours → Type 0
Located names s b (Ok t) = Kid alphabet names (get_or names s []) b t.0
Located names s b (Err gap) = Gap alphabet names (get_or names s []) b gap.prev.0 gap.next.0

-- the rows are those of n names
pub record Counted (rows : List (List ℕ)) (n : ℕ) : Type 0 where
  pub names : List (List ℕ)
  pub trie : Trie alphabet (slots_of rows) names
  pub room : length names ≤ length rows
  pub count : n ≡ length names

-- the names have grown by those of w, and the state is w's; own outputs stay, and new states have none
pub record Grown (K L : Slots) (names : List (List ℕ)) (w : List ℕ) (state states : ℕ) : Type 0 where
  pub trie : Trie alphabet L (along names [] w)
  pub count : states ≡ length (along names [] w)
  pub inside : state < states
  pub apart : state ≡ 1 → ⊥
  pub named : get_or (along names [] w) state [] ≡ w
  pub own_old : (k : ℕ) → k < length names → L.own k ≡ K.own k
  pub own_new : (k : ℕ) → length names ≤ k → k < states → L.own k ≡ 0

-- grown within the slots; or the names of w would pass them
abbrev pub AddedOk : ℕ → Slots → Slots → List (List ℕ) → List ℕ → Result Added FewStates → Type 0
AddedOk slots K L names w (Ok added) = Grown K L names w added.state.0 added.states × (added.states ≤ slots)
AddedOk slots K L names w (Err few) = slots < length (along names [] w)
