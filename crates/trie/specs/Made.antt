-- The tables after some patterns were accepted.
use Rattle.std.specs.Prelude.{◌≡◌, Bool, true, false, ◌&&◌, List, [], ◌∷◌, ◌++◌, ℕ, ◌≤◌, ◌<◌, length, get_or, Result, Ok, Err}
use Rattle.paper.specs.Lists.{pick}
use Rattle.paper.specs.Patterns.{Entry, Kind, standard, leftmost, longest, first, barred}
use Rattle.list.specs.Limits.{alphabet, most_listed, most_bytes}
use Rattle.list.specs.Listed.{patterns_of}
use Rattle.list.specs.Claims.{SoundEnds}
use Rattle.plan.specs.Names.{names}
use Rattle.trie.specs.Trie.{Slots, slots_of, Trie}
use Rattle.trie.specs.Owned.{Owned, Owns, owns_of, Piled}
use Rattle.trie.specs.declared.Grown.{Grown}
use Rattle.trie.specs.declared.FewStates.{FewStates}

-- what is asked of a lent list: sound ends, not too many patterns, none too long
pub record Parted (bytes ends : List ℕ) : Type 0 where
  pub cut : SoundEnds bytes ends
  pub few : length ends ≤ most_listed
  pub short : (i : ℕ) → i < length ends → length (get_or (patterns_of bytes ends) i []) ≤ most_bytes

-- the trie of the accepted patterns, their number, and each state's own outputs as far as there are slots for them
pub record Made (K : Slots) (O : Owns) (states count room : ℕ) (es : List Entry) : Type 0 where
  pub trie : Trie alphabet K (names alphabet es)
  pub states_are : states ≡ length (names alphabet es)
  pub count_is : count ≡ length es
  pub owned : Owned K (names alphabet es) es
  pub piled : count ≤ room → Piled K O count (names alphabet es) es

-- the rows are those of some accepted patterns
pub record MadeSome (trie owns : List (List ℕ)) (states count : ℕ) : Type 0 where
  pub es : List Entry
  pub made : Made (slots_of trie) (owns_of owns) states count (length owns) es
  pub room : states ≤ length trie

-- the pattern of a row
abbrev pub entry : ℕ → List ℕ → Entry
entry row word = record { row = row; word = word }

-- the accepted patterns with one more, unless it is dropped
abbrev pub grown_by : Bool → List Entry → Entry → List Entry
grown_by drops es x = pick (drops && barred es x.word) es (es ++ (x ∷ []))

-- LeftmostFirst drops
abbrev pub drops_of : Kind → Bool
drops_of standard = false
drops_of (leftmost longest) = false
drops_of (leftmost first) = true

-- one pattern after the other
unfoldable pub accept_on : Bool → List Entry → List Entry → List Entry
accept_on drops es [] = es
accept_on drops es (x ∷ xs) = accept_on drops (grown_by drops es x) xs

-- the tables have grown within the slots; or the states would pass them
abbrev pub GrewOk : ℕ → Slots → Owns → ℕ → List Entry → Result Grown FewStates → Type 0
GrewOk slots K O room es (Ok grown) = Made K O grown.states grown.accepted room es × (grown.states ≤ slots)
GrewOk slots K O room es (Err few) = slots < length (names alphabet es)
