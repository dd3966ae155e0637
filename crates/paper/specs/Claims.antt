-- What is proved of the definitions: each claim with its English above it. The proofs stand in ../proofs; `claims` there has them all.
use Rattle.std.specs.Prelude.{◌≡◌, Bool, true, false, ◌↔◌, ℕ, suc, ◌*◌, ◌-◌, ◌≤◌, ◌<◌, length, take, drop}
use mathlib.Core.List.{List, map, Memᴰ}
use Rattle.paper.specs.Patterns.{Entry, Choice, Kind, standard, leftmost, first, rows, accepted, proper_prefix, Filled, Proper}
use Rattle.paper.specs.Matches.{Occurrence, Overlapping, Chosen, ByEnd, Leftmost, ending_at, overlapping, plain, leftmost_by}
use Rattle.paper.specs.Automaton.{machine, is_state, longest_state, Link, link, Rules, output, end_at, fresh, walk, never, says_all, says_plain, says_leftmost}

-- ---- the lists of matches meet their sentences, and no other list does

-- what is proved of the lists
pub record ListClaims : Type 1 where
  -- what a build accepts has rising rows and no empty pattern
  pub proper : (kind : Kind) (ps : List (List ℕ)) → Filled ps → Proper (accepted kind ps)
  -- overlapping: exactly the occurrences, each once, by end, then longer first, then row
  pub overlapping_is : (es : List Entry) (t : List ℕ) → Proper es → Overlapping es t (overlapping es t)
  pub overlapping_only : (es : List Entry) (t : List ℕ) (l m : List Occurrence) → Overlapping es t l → Overlapping es t m → l ≡ m
  -- plain: of the occurrences that start at p or later the smallest end, then the longest, then the earliest listed
  pub plain_is : (es : List Entry) (t : List ℕ) → Proper es → Chosen ByEnd es t 0 (plain es t)
  pub plain_only : (es : List Entry) (t : List ℕ) (p : ℕ) (l m : List Occurrence) → Chosen ByEnd es t p l → Chosen ByEnd es t p m → l ≡ m
  -- leftmost: of the occurrences that start at p or later the smallest start, then the longest or the earliest listed
  pub leftmost_is : (c : Choice) (es : List Entry) (t : List ℕ) → Proper es → Chosen (Leftmost c) es t 0 (leftmost_by c es t)
  pub leftmost_only : (c : Choice) (es : List Entry) (t : List ℕ) (p : ℕ) (l m : List Occurrence)
      → Chosen (Leftmost c) es t p l → Chosen (Leftmost c) es t p m → l ≡ m
  -- (F) LeftmostFirst drops a pattern exactly when an earlier listed pattern is a proper prefix of it
  pub acceptance : (ps : List (List ℕ)) (x : Entry)
      → Memᴰ x (accepted (leftmost first) ps)
      ↔ (Memᴰ x (rows ps) × ((y : Entry) → Memᴰ y (rows ps) → y.row < x.row → proper_prefix y.word x.word ≡ false))
  -- what LeftmostFirst drops changes no list of matches
  pub same_list : (c : Choice) (ps : List (List ℕ)) (t : List ℕ) → Filled ps
      → leftmost_by c (accepted (leftmost c) ps) t ≡ leftmost_by c (rows ps) t

-- ---- the automaton says these lists

-- the longest suffix that is a state: a suffix, a state, and no suffix that is a state is longer
pub record LongestSuffix (S : List ℕ → Bool) (u s : List ℕ) : Type 0 where
  pub offset : ℕ
  pub suffix : s ≡ drop offset u
  pub state : S s ≡ true
  pub longest : (k : ℕ) → S (drop k u) ≡ true → length (drop k u) ≤ length s

-- what is proved of the automaton
pub record AutomatonClaims : Type 0 where
  -- (A) after any text the walk of Standard is at the longest suffix that is a state
  pub walk_state : (es : List Entry) (t : List ℕ) → LongestSuffix (is_state es) t (walk (machine standard es) never fresh t).state
  -- (B) what the state after n bytes puts out is each occurrence that ends there, once, longer first, then in list order
  pub output_here : (es : List Entry) (t : List ℕ) (n : ℕ) → n ≤ length t
      → map (end_at n) (output (machine standard es) (longest_state (is_state es) (take n t))) ≡ ending_at es t n
  -- (B) so what the walk puts out over a text is the overlapping list
  pub says_overlapping : (es : List Entry) (t : List ℕ) → says_all (machine standard es) fresh 0 t ≡ overlapping es t
  -- (C) after n bytes at most 2n - 1 moves, none for n = 0, wherever the walk begins again at root
  pub moves : (kind : Kind) (es : List Entry) (again : List ℕ → Bool) (t : List ℕ) → (walk (machine kind es) again fresh t).moves ≤ 2 * length t - 1
  -- (D) begun again at root after each match, the walk gives the plain list
  pub says_plain_lem : (es : List Entry) (t : List ℕ) → says_plain (machine standard es) fresh 0 t ≡ plain es t
  -- (E) the leftmost walk gives the leftmost list of its kind, over the accepted patterns
  pub says_leftmost_lem : (c : Choice) (ps : List (List ℕ)) (t : List ℕ) → Filled ps
      → (says_leftmost (machine (leftmost c) (accepted (leftmost c) ps)) (suc (length t)) 0 0 t).matches ≡ leftmost_by c (accepted (leftmost c) ps) t
  -- (E) and over the listed ones
  pub says_listed : (c : Choice) (ps : List (List ℕ)) (t : List ℕ) → Filled ps
      → (says_leftmost (machine (leftmost c) (accepted (leftmost c) ps)) (suc (length t)) 0 0 t).matches ≡ leftmost_by c (rows ps) t
  -- (E) the closed form of links, dead ones among them, meets document 01's rules, and at the states nothing else does
  pub links_ruled : (kind : Kind) (es : List Entry) → Proper es → Rules (machine kind es) (link (machine kind es))
  pub links_only : (kind : Kind) (es : List Entry) → Proper es → (links : List ℕ → Link) → Rules (machine kind es) links
      → (s : List ℕ) → is_state es s ≡ true → links s ≡ link (machine kind es) s
