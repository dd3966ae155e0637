-- The pattern list and what is accepted of it. Nothing here knows of an automaton.
use Rattle.std.specs.Prelude.{Bool, false, ◌&&◌, ◌||◌, ℕ, suc, ◌<◌, ltb, length}
use mathlib.Core.List.{List, [], ◌∷◌, Memᴰ}
use Rattle.paper.specs.Lists.{pick, prefix, Sorted}

-- a pattern with its row in the list as given
pub record Entry : Type 0 where
  pub row : ℕ
  pub word : List ℕ

-- what decides among patterns that start together: the longest, or the first listed
pub data Choice : Type 0 where
  longest : Choice
  first : Choice

-- the kinds of a build: Standard, LeftmostLongest and LeftmostFirst
pub data Kind : Type 0 where
  standard : Kind
  leftmost : Choice → Kind

-- the list as given, with rows from i
unfoldable pub rows_from : ℕ → List (List ℕ) → List Entry
rows_from i [] = []
rows_from i (p ∷ ps) = record { row = i; word = p } ∷ rows_from (suc i) ps

-- the list as given, with rows from 0
abbrev pub rows : List (List ℕ) → List Entry
rows ps = rows_from 0 ps

-- p begins q and is shorter
abbrev pub proper_prefix : List ℕ → List ℕ → Bool
proper_prefix p q = prefix p q && ltb (length p) (length q)

-- a pattern of the list is a proper prefix of q
unfoldable pub barred : List Entry → List ℕ → Bool
barred [] q = false
barred (x ∷ xs) q = proper_prefix x.word q || barred xs q

-- each pattern in turn is dropped where one accepted before it is a proper prefix of it
unfoldable pub keep : List Entry → List Entry → List Entry
keep taken [] = []
keep taken (x ∷ xs) = let more = x ∷ keep (x ∷ taken) xs in let less = keep taken xs in pick (barred taken x.word) less more

-- the accepted patterns in list order: LeftmostFirst drops, the other kinds take all
unfoldable pub accepted : Kind → List (List ℕ) → List Entry
accepted standard ps = rows ps
accepted (leftmost longest) ps = rows ps
accepted (leftmost first) ps = keep [] (rows ps)

-- no pattern of the list is empty
abbrev pub Filled : List (List ℕ) → Type 0
Filled ps = (p : List ℕ) → Memᴰ p ps → 0 < length p

-- what the laws ask of a list of patterns: rows rise, and no pattern is empty
pub record Proper (es : List Entry) : Type 0 where
  pub rising : Sorted (λ x y. x.row < y.row) es
  pub filled : (x : Entry) → Memᴰ x es → 0 < length x.word
