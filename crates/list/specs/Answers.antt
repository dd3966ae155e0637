-- What the answers of the code say, in the terms of document 01.
use Rattle.std.proofs.Math.Option.{Option, none, some}
use Rattle.std.specs.Prelude.{◌≡◌, ℕ, ◌<◌, ◌≤◌, Result, Ok, Err, Option as Found, None, Some}
use Rattle.paper.specs.Patterns.{Kind as Search, standard, leftmost, longest, first}
use Rattle.list.specs.Limits.{last_kind}
use Rattle.list.specs.Kinds.{kind_of}
use Rattle.list.specs.Refusals.{Told}
use Rattle.list.specs.declared.Kind.{Kind}
use Rattle.list.specs.declared.Kind.TheVariants.{Standard, LeftmostLongest, LeftmostFirst}
use Rattle.list.specs.declared.Refusal.{Refusal}
use Rattle.list.specs.declared.Refusal.TheVariants.{BadKind, BadEnds, TooMany, Empty, TooLong}

-- the number of a refusal and its index
abbrev pub refused : ℕ → ℕ → Option Told
refused n i = some (record { number = n; index = i })

-- the number and the index of each answer; none for a list that is fine
abbrev pub told : {A : Type 0} → Result A Refusal → Option Told
told (Ok a) = none
told (Err BadKind) = refused 1 0
told (Err BadEnds) = refused 2 0
told (Err TooMany) = refused 3 0
told (Err (Empty i)) = refused 4 i
told (Err (TooLong i)) = refused 5 i

-- the kind of a search that a kind of the code names
abbrev pub kind_named : Kind → Search
kind_named Standard = standard
kind_named LeftmostLongest = leftmost longest
kind_named LeftmostFirst = leftmost first

-- a number up to the last is a kind's, and one above it is refused
abbrev pub Names : ℕ → Result Kind Refusal → Type 0
Names n (Ok kind) = (n ≤ last_kind) × (kind_named kind ≡ kind_of n)
Names n (Err why) = (last_kind < n) × (why ≡ BadKind)

-- the index that a search for a pattern found
abbrev pub placed : Found ℕ → Option ℕ
placed None = none
placed (Some i) = some i
