-- What is proved of the answers, in the words of document 01. The proofs stand in ../proofs; `claims` there has them all.
use Rattle.std.specs.Prelude.{◌≡◌, List, ◌⊎◌, ◌↔◌, ℕ, ◌≤◌, ◌<◌, length}
use Rattle.list.specs.Limits.{most_text}
use Rattle.table.specs.Agrees.{Tables}
use Rattle.search.specs.declared.Search.{Search}
use Rattle.search.specs.declared.Match.{Match}
use Rattle.search.specs.declared.Answer.{Answer}
use Rattle.search.specs.Values.{Which, overlapping, plain, leftmost, root, gives, ends, refuses, answer}
use Rattle.search.specs.Searches.{next_of}
use Rattle.search.specs.Damage.{Damaged}

-- overlapping or plain search on a leftmost kind, or leftmost search on Standard
abbrev pub WrongKind : Which → ℕ → Type 0
WrongKind overlapping kind = (kind ≡ 1) ⊎ (kind ≡ 2)
WrongKind plain kind = (kind ≡ 1) ⊎ (kind ≡ 2)
WrongKind leftmost kind = kind ≡ 0

-- the state of leftmost search is root
abbrev pub RootIfLeftmost : Which → Search → Type 0
RootIfLeftmost overlapping u = Unit {0}
RootIfLeftmost plain u = Unit {0}
RootIfLeftmost leftmost u = u.state.0 ≡ root

-- a match with a byte or more, whose end lies between two places
pub record Lies (from to : ℕ) (m : Match) : Type 0 where
  pub not_empty : m.start < m.end
  pub ends_from_lem : from ≤ m.end
  pub ends_to : m.end ≤ to

-- plain and leftmost search go on at root with no output to give
abbrev pub RootAfterMatch : Which → Search → Type 0
RootAfterMatch overlapping u = Unit {0}
RootAfterMatch plain u = (u.state.0 ≡ root) × (u.output ≡ 0)
RootAfterMatch leftmost u = (u.state.0 ≡ root) × (u.output ≡ 0)

-- of the answer of a call
pub record SearchClaims (w : Which) (T : Tables) (kind : ℕ) (text : List ℕ) (v : Search) : Type 0 where
  -- no second answer could meet the promise
  pub one_answer : (r r' : Answer) → answer r ≡ next_of w T kind text v → answer r' ≡ next_of w T kind text v → r ≡ r'
  -- a refusal gives the value back unchanged, and its number is 9, 10 or 11
  pub unchanged : (n : ℕ) (u : Search) → next_of w T kind text v ≡ refuses n u → (u ≡ v) × ((n ≡ 9) ⊎ (n ≡ 10) ⊎ (n ≡ 11))
  -- 9: overlapping or plain search on a leftmost kind, or leftmost search on Standard
  pub nine : (next_of w T kind text v ≡ refuses 9 v) ↔ WrongKind w kind
  -- 10: it isn't so, and the text is above the limit
  pub ten : (next_of w T kind text v ≡ refuses 10 v) ↔ ((WrongKind w kind → ⊥) × (most_text < length text))
  -- 11: it isn't, and damage is met
  pub eleven : (next_of w T kind text v ≡ refuses 11 v) ↔ ((WrongKind w kind → ⊥) × (length text ≤ most_text) × Damaged w T kind text v)
  -- a match is a stretch of the text with a byte or more, which ends at the value's place or later
  pub match_lies : (m : Match) (u : Search) → next_of w T kind text v ≡ gives m u → Lies v.place (length text) m
  -- at a match the place is the match's end; plain and leftmost search are at root there with no output to give
  pub at_match : (m : Match) (u : Search) → next_of w T kind text v ≡ gives m u → (u.place ≡ m.end) × RootAfterMatch w u
  -- the end leaves the place at the text's end with no output to give, leftmost with state root
  pub at_end_lem : (u : Search) → next_of w T kind text v ≡ ends u → (u.place ≡ length text) × (u.output ≡ 0) × RootIfLeftmost w u
  -- a call on that value gives the end and the value again, unless it meets damage; so does every further one
  pub end_again : (u : Search) → next_of w T kind text v ≡ ends u → (next_of w T kind text u ≡ ends u) ⊎ (next_of w T kind text u ≡ refuses 11 u)

-- leftmost search reports no moves
pub record LeftmostClaims (T : Tables) (kind : ℕ) (text : List ℕ) (v : Search) : Type 0 where
  pub no_moves_given : (m : Match) (u : Search) → next_of leftmost T kind text v ≡ gives m u → u.moves ≡ 0
  pub no_moves_ended : (u : Search) → next_of leftmost T kind text v ≡ ends u → u.moves ≡ 0
