-- The queue of the breadth-first order while the links are made.
use Rattle.std.specs.Prelude.{◌≡◌, Bool, false, ℕ, suc, ◌≤◌, ◌<◌, length, get_or, take}
use mathlib.Core.List.{List, [], ◌∷◌, Memᴰ}
use Rattle.paper.specs.Patterns.{Entry, Kind, Proper}
use Rattle.paper.specs.Automaton.{Machine, machine, is_state, link}
use Rattle.list.specs.Limits.{alphabet, most_bytes}
use Rattle.plan.specs.Names.{names}
use Rattle.plan.specs.Breadth.{below, Within}
use Rattle.trie.specs.Trie.{slots_of, Trie}
use Rattle.trie.specs.Owned.{Owned}
use Rattle.links.specs.Notes.{Notes, notes_of}
use Rattle.links.specs.Linked.{Named, Leads, Step, ordered, is_leftmost}

module _ (kind : Kind) (es : List Entry) where
  -- the names of the states
  abbrev pub ns : List (List ℕ)
  ns = names alphabet es

  -- the automaton
  abbrev pub M : Machine
  M = machine kind es

  -- the states, breadth first
  abbrev pub B : List (List ℕ)
  B = ordered es

  -- the states that were put into the queue before the children of the one at h
  abbrev pub queued_before : ℕ → List (List ℕ)
  queued_before h = [] ∷ below alphabet (is_state es) (take h (ordered es))

  -- the link of each state of a list is noted
  abbrev pub Final : Notes → List (List ℕ) → Type 0
  Final N l = (k : ℕ) → k < length (names alphabet es) → (k ≡ 1 → ⊥) → Memᴰ (get_or (names alphabet es) k []) l
      → Leads (names alphabet es) (link (machine kind es) (get_or (names alphabet es) k [])) (N.link k)

  -- the same but for states that stop
  abbrev pub Hunted : Notes → List (List ℕ) → Type 0
  Hunted N l = (k : ℕ) → k < length (names alphabet es) → (k ≡ 1 → ⊥) → Memᴰ (get_or (names alphabet es) k []) l
      → (machine kind es).stops (get_or (names alphabet es) k []) ≡ false
      → Leads (names alphabet es) (link (machine kind es) (get_or (names alphabet es) k [])) (N.link k)

  -- the first n places of the order hold their states
  abbrev pub Ordered : Notes → ℕ → Type 0
  Ordered N n = (i : ℕ) → i < n → Named (names alphabet es) (N.order i) (get_or (ordered es) i [])

  -- before the state at h is taken from the queue
  pub record Queued (N : Notes) (h tail : ℕ) : Type 0 where
    pub count : tail ≡ length (queued_before h)
    pub order : Ordered N tail
    pub final : Final N (take h B)
    pub hunted : Hunted N (queued_before h)

-- the trie of the accepted patterns stands, and there is a row of notes for each state
pub record Ready (kind : Kind) (es : List Entry) (rows : List (List ℕ)) (room : ℕ) : Type 0 where
  pub trie : Trie alphabet (slots_of rows) (names alphabet es)
  pub owned : Owned (slots_of rows) (names alphabet es) es
  pub proper : Proper es
  pub within : Within alphabet most_bytes es
  pub trie_room : length (names alphabet es) ≤ length rows
  pub notes_room : length (names alphabet es) ≤ room

-- it is the turn of s, the state at place h of the order
pub record Turn (kind : Kind) (es : List Entry) (trie notes : List (List ℕ)) (s h tail : ℕ) : Type 0 where
  pub ready : Ready kind es trie (length notes)
  pub queued : Queued kind es (notes_of notes) h tail
  pub here : h < tail
  pub named : Named (names alphabet es) s (get_or (ordered es) h [])

-- its own link is noted, and that of all before it
pub record Poised (kind : Kind) (es : List Entry) (trie notes : List (List ℕ)) (s h tail : ℕ) : Type 0 where
  pub turn : Turn kind es trie notes s h tail
  pub final : Final kind es (notes_of notes) (take (suc h) (ordered es))

-- the notes with one child's link and its place in the queue anew
pub record Noted (N O : Notes) (t v end : ℕ) : Type 0 where
  pub link_new : O.link t ≡ v
  pub link_old : (k : ℕ) → (k ≡ t → ⊥) → O.link k ≡ N.link k
  pub order_new : O.order end ≡ t
  pub order_old : (i : ℕ) → (i ≡ end → ⊥) → O.order i ≡ N.order i

-- root's children by byte, 0 for none
abbrev pub Tops : List (List ℕ) → List ℕ → Type 0
Tops ns tops = (c : ℕ) → c < alphabet → Step alphabet ns [] c (get_or tops c 0)

-- some patterns and a place for which these hold
pub record TurnSome (trie notes : List (List ℕ)) (leftmost : Bool) (s tail : ℕ) : Type 0 where
  pub kind : Kind
  pub es : List Entry
  pub at : ℕ
  pub turn : Turn kind es trie notes s at tail
  pub mode : leftmost ≡ is_leftmost kind

-- the same for root, whose children link to it
pub record RootSome (trie notes : List (List ℕ)) : Type 0 where
  pub kind : Kind
  pub es : List Entry
  pub poised : Poised kind es trie notes 0 0 1

-- the same for another state, with root's children at hand
pub record PoisedSome (trie notes : List (List ℕ)) (tops : List ℕ) (s tail : ℕ) : Type 0 where
  pub kind : Kind
  pub es : List Entry
  pub at : ℕ
  pub poised : Poised kind es trie notes s at tail
  pub tops_are : Tops (names alphabet es) tops
  pub inner : s ≡ 0 → ⊥

-- the same for the whole
pub record ReadySome (trie : List (List ℕ)) (room : ℕ) (leftmost : Bool) : Type 0 where
  pub kind : Kind
  pub es : List Entry
  pub ready : Ready kind es trie room
  pub mode : leftmost ≡ is_leftmost kind
