-- The lists of matches by plain occurrence, and for each list the sentence that it must meet. Nothing here knows of an
-- automaton: a reader who has never seen one can check it.
use Rattle.std.specs.Prelude.{◌≡◌, Bool, true, ◌&&◌, ◌⊎◌, ◌↔◌, ℕ, ◌+◌, ◌-◌, ◌≤◌, ◌<◌, eqb, leb, length, drop}
use mathlib.Core.List.{List, [], ◌∷◌, map, Memᴰ}
use Rattle.paper.specs.Lists.{pick, prefix, those, each, Sorted}
use Rattle.paper.specs.Patterns.{Entry, Choice, longest, first}

-- pattern p occurs at s: the text's bytes from s are p
unfoldable pub occurs : List ℕ → List ℕ → ℕ → Bool
occurs p t s = prefix p (drop s t)

-- a match: where it starts, where it ends, and the row of its pattern
pub record Occurrence : Type 0 where
  pub start : ℕ
  pub end : ℕ
  pub row : ℕ

-- the match of an entry that starts at s
abbrev pub occurrence_at : ℕ → Entry → Occurrence
occurrence_at s x = record { start = s; end = s + length x.word; row = x.row }

-- a match with its payload instead of the row
pub record Match (X : Type 0) : Type 0 where
  pub start : ℕ
  pub end : ℕ
  pub payload : X

-- the last step: each row's payload (now its value) in the row's place
abbrev pub with_payloads : {X : Type 0} → (ℕ → X) → List Occurrence → List (Match X)
with_payloads {X} payload l = map {B = Match X} (λ f. record { start = f.start; end = f.end; payload = payload f.row }) l

-- ---- the occurrences, in three orders

-- those that start at s, in list order
unfoldable pub starting_at : List Entry → List ℕ → ℕ → List Occurrence
starting_at es t s = map (occurrence_at s) (those (λ x. occurs x.word t s) es)

-- those that start at s and end at e, in list order
unfoldable pub between : List Entry → List ℕ → ℕ → ℕ → List Occurrence
between es t s e = map (occurrence_at s) (those (λ x. occurs x.word t s && eqb (s + length x.word) e) es)

-- those that end at e: longer first, then by row
unfoldable pub ending_at : List Entry → List ℕ → ℕ → List Occurrence
ending_at es t e = each 0 e (λ s. between es t s e)

-- all by end, then longer first, then by row
unfoldable pub by_end : List Entry → List ℕ → List Occurrence
by_end es t = each 1 (length t) (λ e. ending_at es t e)

-- all by start, then longer first, then by row
unfoldable pub by_length : List Entry → List ℕ → List Occurrence
by_length es t = each 0 (length t) (λ s. each 0 (length t - s) (λ k. between es t s (length t - k)))

-- all by start, then by row
unfoldable pub by_row : List Entry → List ℕ → List Occurrence
by_row es t = each 0 (length t) (λ s. starting_at es t s)

-- ---- the lists of matches

-- the first that starts at p or later, then the first that starts at its end or later, and so on
unfoldable pub apart : ℕ → List Occurrence → List Occurrence
apart p [] = []
apart p (f ∷ l) = let taken = f ∷ apart f.end l in let passed = apart p l in pick (leb p f.start) taken passed

-- overlapping search: every occurrence
unfoldable pub overlapping : List Entry → List ℕ → List Occurrence
overlapping es t = by_end es t

-- plain search: from p on the smallest end, then the longest, then the earliest listed
unfoldable pub plain : List Entry → List ℕ → List Occurrence
plain es t = apart 0 (by_end es t)

-- leftmost search: from p on the smallest start, then the longest or the earliest listed
unfoldable pub leftmost_by : Choice → List Entry → List ℕ → List Occurrence
leftmost_by longest es t = apart 0 (by_length es t)
leftmost_by first es t = apart 0 (by_row es t)

-- ---- the sentences

-- f is an occurrence: some entry of the list has its row, occurs at its start and ends at its end
pub record Stands (es : List Entry) (t : List ℕ) (f : Occurrence) : Type 0 where
  pub entry : Entry
  pub listed : Memᴰ entry es
  pub occurring : occurs entry.word t f.start ≡ true
  pub is : f ≡ occurrence_at f.start entry

-- m is smaller than n; or they are equal, and R
abbrev pub Then : ℕ → ℕ → Type 0 → Type 0
Then m n R = (m < n) ⊎ ((m ≡ n) × R)

-- f ends before g; or with it and is longer; or is as long and of an earlier row
abbrev pub ByEnd : Occurrence → Occurrence → Type 0
ByEnd f g = Then f.end g.end (Then f.start g.start (f.row < g.row))

-- f starts before g; or with it and is longer; or is as long and of an earlier row
abbrev pub ByLength : Occurrence → Occurrence → Type 0
ByLength f g = Then f.start g.start (Then g.end f.end (f.row < g.row))

-- f starts before g; or with it and is of an earlier row
abbrev pub ByRow : Occurrence → Occurrence → Type 0
ByRow f g = Then f.start g.start (f.row < g.row)

-- which of two is better under a leftmost kind
abbrev pub Leftmost : Choice → Occurrence → Occurrence → Type 0
Leftmost longest f g = ByLength f g
Leftmost first f g = ByRow f g

-- overlapping: exactly the occurrences, no start and row twice, sorted by end, then longer first, then row
pub record Overlapping (es : List Entry) (t : List ℕ) (l : List Occurrence) : Type 0 where
  pub exact : (f : Occurrence) → Memᴰ f l ↔ Stands es t f
  pub once : Sorted (λ f g. (f.start ≡ g.start) × (f.row ≡ g.row) → ⊥) l
  pub sorted : Sorted ByEnd l

-- f is the best of all occurrences that start at p or later
pub record Best (Better : Occurrence → Occurrence → Type 0) (es : List Entry) (t : List ℕ) (p : ℕ) (f : Occurrence) : Type 0 where
  pub stands : Stands es t f
  pub from : p ≤ f.start
  pub best : (g : Occurrence) → Stands es t g → p ≤ g.start → (g ≡ f) ⊎ Better f g

-- plain and leftmost: each next match is the best of those that start at p or later, p becomes its end, and at the end there is none
abbrev pub Chosen : (Occurrence → Occurrence → Type 0) → List Entry → List ℕ → ℕ → List Occurrence → Type 0
Chosen Better es t p [] = (g : Occurrence) → Stands es t g → p ≤ g.start → ⊥
Chosen Better es t p (f ∷ l) = Best Better es t p f × Chosen Better es t f.end l
