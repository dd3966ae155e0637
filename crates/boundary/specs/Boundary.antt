-- How answers cross the boundary: as numbers, and what the caller's variables and tables then hold.
use Rattle.std.specs.Prelude.{◌≡◌, List, [], ◌∷◌, ℕ, length, Result}
use Rattle.table.specs.declared.Counts.{Counts}
use Rattle.search.specs.declared.Search.{Search}
use Rattle.search.specs.Values.{cell, value_of}
use Rattle.sheet.specs.Sheet.{Stop, full, ended, refused, Load, written}
use Rattle.build.specs.declared.Refusal.{Refusal}
use Rattle.build.specs.Lot.{Lot}
use Rattle.build.specs.Outcome as build
use Rattle.build.specs.Outcome.{Outcome, made}
use Rattle.build.specs.Promise.{Promise}

-- ---- a build

-- the number of a build's answer: 0 for a good build, else the refusal's
abbrev pub number_of : Outcome → ℕ
number_of (made counts) = 0
number_of (build.refused t) = t.number

-- the four numbers beside it: kind, accepted, states and cells of a good build; else the row that the refusal names, 0 for none, and zeros
abbrev pub beside : Outcome → List ℕ
beside (made counts) = counts.kind ∷ counts.accepted ∷ counts.states ∷ counts.cells ∷ []
beside (build.refused t) = t.index ∷ 0 ∷ 0 ∷ 0 ∷ []

-- what is promised of a build: the number and the four beside it are those of an answer that `build` promises, with every table as `build` leaves it
pub record BuildPromise (kind : ℕ) (bytes ends values : List ℕ) (before after : Lot) (counts : List ℕ) (r : ℕ) : Type 0 where
  pub built : Result Counts Refusal
  pub promised : Promise kind bytes ends values before after built
  pub numbered : r ≡ number_of (build.answer built)
  pub beside_is : counts ≡ beside (build.answer built)

-- ---- a search

-- the number of a stop: 0 for the end, 1 for a full sheet, else the refusal's
abbrev pub stop_number : Stop → ℕ
stop_number ended = 0
stop_number full = 1
stop_number (refused n) = n

-- what a search is told of the tables; it asks for no number of states
abbrev pub counts_of : ℕ → ℕ → ℕ → Counts
counts_of kind accepted cells = record { kind = kind; accepted = accepted; states = 0; cells = cells }

-- the value in four variables
abbrev pub held_in : ℕ → ℕ → ℕ → ℕ → Search
held_in state pending place moves = value_of (cell state) pending place moves

-- what is promised of a search, for what a call with a sheet comes to: the stop's number, the value in its variables, the count and the sheet
pub record SearchPromise (l : Load) (sheet₀ : List (List ℕ)) (state pending place moves : ℕ) (sheet : List (List ℕ)) (count r : ℕ) : Type 0 where
  pub numbered : r ≡ stop_number l.stop
  pub held : held_in state pending place moves ≡ l.value
  pub counted : count ≡ length l.records
  pub filled : sheet ≡ written l sheet₀
