-- Search values, matches, and what a call answers.
use Rattle.std.specs.Prelude.{ℕ, ◌-◌}
use Rattle.table.specs.declared.CellId.{CellId}
use Rattle.table.specs.declared.Row.{Row}
use Rattle.search.specs.declared.Search.{Search}
use Rattle.search.specs.declared.Match.{Match}
use Rattle.search.specs.declared.Refusal.{Refusal}
use Rattle.search.specs.declared.Refusal.TheVariants as refusal
use Rattle.search.specs.declared.Answer.{Answer}
use Rattle.search.specs.declared.Answer.TheVariants as answers

-- the three searches
pub data Which : Type 0 where
  overlapping : Which
  plain : Which
  leftmost : Which

-- root's cell
abbrev pub root : ℕ
root = 0

-- dead's cell
abbrev pub dead : ℕ
dead = 1

-- the state in a cell
abbrev pub cell : ℕ → CellId
cell i = record { 0 = i }

-- the value of a search that has come to a state, with the output that is given next, the bytes taken and the moves
abbrev pub value_of : CellId → ℕ → ℕ → ℕ → Search
value_of state output place moves = record { state = state; output = output; place = place; moves = moves }

-- the value that a search begins with
abbrev pub begun : Search
begun = value_of (cell root) 0 0 0

-- the match of an output that ends there
abbrev pub match_of : Row → ℕ → Match
match_of row end = record { start = end - row.length; end = end; value = row.value }

-- what a call answers: a match and the next value, the end and the next value, or the number of a refusal and the value as it came in
pub data Outcome : Type 0 where
  gives : Match → Search → Outcome
  ends : Search → Outcome
  refuses : ℕ → Search → Outcome

-- each refusal in the numbers of document 01
abbrev pub number : Refusal → ℕ
number refusal.WrongKind = 9
number refusal.LongText = 10
number refusal.Damage = 11

-- each answer in them
abbrev pub answer : Answer → Outcome
answer (answers.Match m v) = gives m v
answer (answers.End v) = ends v
answer (answers.Refused why v) = refuses (number why) v
