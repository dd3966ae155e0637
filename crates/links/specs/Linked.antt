-- The breadth-first order and the links, in the names of the states.
use Rattle.std.specs.Prelude.{◌≡◌, Bool, true, false, List, [], ℕ, ◌<◌, length, get_or, Option, None, Some}
use Rattle.paper.specs.Lists.{snoc}
use Rattle.paper.specs.Patterns.{Entry, Kind, standard, leftmost}
use Rattle.paper.specs.Automaton.{machine, is_state, Link, dead, to, link}
use Rattle.list.specs.Limits.{alphabet, most_bytes}
use Rattle.plan.specs.Names.{has, names}
use Rattle.plan.specs.Breadth.{breadth}
use Rattle.trie.specs.Trie.{Kid}
use Rattle.trie.specs.declared.TrieId.{TrieId}
use Rattle.links.specs.Notes.{Notes}

-- t is the number of the state s; dead is no state
pub record Named (ns : List (List ℕ)) (t : ℕ) (s : List ℕ) : Type 0 where
  pub inside : t < length ns
  pub apart : t ≡ 1 → ⊥
  pub is : get_or ns t [] ≡ s

-- t is where a link leads: dead's number, or the state's
abbrev pub Leads : List (List ℕ) → Link → ℕ → Type 0
Leads ns dead t = t ≡ 1
Leads ns (to s) t = Named ns t s

-- t is the child of u on the byte c, 0 where there is none
pub record Step (a : ℕ) (ns : List (List ℕ)) (u : List ℕ) (c t : ℕ) : Type 0 where
  pub none : t ≡ 0 → has ns (snoc u c) ≡ false
  pub some : (t ≡ 0 → ⊥) → Kid a ns u c t

-- the child of u on the byte c, or that there is none
abbrev pub Stepped : ℕ → List (List ℕ) → List ℕ → ℕ → Option TrieId → Type 0
Stepped a ns u c None = has ns (snoc u c) ≡ false
Stepped a ns u c (Some t) = Kid a ns u c t.0

-- the states of the accepted patterns, breadth first
abbrev pub ordered : List Entry → List (List ℕ)
ordered es = breadth alphabet (is_state es) most_bytes

-- the whole: at each place of the order stands its state's number, and each state's note has its link
pub record Linked (kind : Kind) (es : List Entry) (N : Notes) : Type 0 where
  pub order : (i : ℕ) → i < length (ordered es) → Named (names alphabet es) (N.order i) (get_or (ordered es) i [])
  pub link : (k : ℕ) → k < length (names alphabet es) → (k ≡ 1 → ⊥)
      → Leads (names alphabet es) (link (machine kind es) (get_or (names alphabet es) k [])) (N.link k)

-- a leftmost kind
abbrev pub is_leftmost : Kind → Bool
is_leftmost standard = false
is_leftmost (leftmost c) = true
