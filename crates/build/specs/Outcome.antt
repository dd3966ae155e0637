-- What a build answers: the lowest refusal of document 01's table that applies, or the counts of a good build.
use Rattle.std.specs.Prelude.{◌≡◌, List, ◌⊎◌, ℕ, ◌-◌, length, Result, Ok, Err}
use Rattle.std.proofs.Math.Option.{Option, none, some}
use Rattle.paper.specs.Patterns.{Entry}
use Rattle.list.specs.Refusals.{Told, lowest}
use Rattle.nfa.specs.Grown.{accepted_of}
use Rattle.whole.specs.Whole.{state_count, cell_count}
use Rattle.whole.specs.Refusing.{Lent, all_refusals}
use Rattle.table.specs.declared.Counts.{Counts}
use Rattle.list.specs.declared.Refusal.{Refusal as Unsound}
use Rattle.list.specs.declared.Refusal.TheVariants as list
use Rattle.build.specs.declared.Refusal.{Refusal}
use Rattle.build.specs.declared.Refusal.TheVariants.{BadKind, BadEnds, TooMany, Empty, TooLong, FewStates, FewCells, FewOutputs}

-- a refusal's number and index, or the counts of a good build
pub data Outcome : Type 0 where
  refused : Told → Outcome
  made : Counts → Outcome

-- a refusal that names no index
abbrev pub refusal : ℕ → Outcome
refusal n = refused (record { number = n; index = 0 })

-- each answer in the numbers of document 01
abbrev pub answer : Result Counts Refusal → Outcome
answer (Ok counts) = made counts
answer (Err BadKind) = refusal 1
answer (Err BadEnds) = refusal 2
answer (Err TooMany) = refusal 3
answer (Err (Empty i)) = refused (record { number = 4; index = i })
answer (Err (TooLong i)) = refused (record { number = 5; index = i })
answer (Err FewStates) = refusal 6
answer (Err FewCells) = refusal 7
answer (Err FewOutputs) = refusal 8

-- the refusal of a build that a refusal of the list is
abbrev pub of_list : Unsound → Refusal
of_list list.BadKind = BadKind
of_list list.BadEnds = BadEnds
of_list list.TooMany = TooMany
of_list (list.Empty i) = Empty i
of_list (list.TooLong i) = TooLong i

-- the one of the same name
abbrev pub SameName : Unsound → Refusal → Type 0
SameName unsound why = why ≡ of_list unsound

-- the counts of a good build; dead is not counted among the states
abbrev pub counts_of : ℕ → List Entry → Counts
counts_of kind es = record { kind = kind; accepted = length es; states = state_count es - 1; cells = cell_count es }

-- the refusal, if one applies
abbrev pub on_refusal : Option Told → Outcome → Outcome
on_refusal none good = good
on_refusal (some t) good = refused t

-- what a build answers
unfoldable pub outcome_of : ℕ → List ℕ → List ℕ → List ℕ → Lent → Outcome
outcome_of kind bytes ends values slots = on_refusal (lowest (all_refusals kind bytes ends values slots)) (made (counts_of kind (accepted_of kind bytes ends)))

-- the numbers of the refusals for lent tables
abbrev pub TableRefusal : ℕ → Type 0
TableRefusal n = (n ≡ 6) ⊎ (n ≡ 7) ⊎ (n ≡ 8)
