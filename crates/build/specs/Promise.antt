-- The promise of `build`: its answer and every lent table at exit, as equations over what was handed in.
use Rattle.std.specs.Prelude.{◌≡◌, List, ◌++◌, ℕ, ◌-◌, leb, length, replicate, Result}
use Rattle.zeros.specs.Rows.{zeros}
use Rattle.paper.specs.Lists.{pick}
use Rattle.paper.specs.Patterns.{Entry, Kind}
use Rattle.list.specs.Kinds.{kind_of}
use Rattle.cells.specs.Columns.{column}
use Rattle.nfa.specs.Grown.{accepted_of}
use Rattle.whole.specs.Whole.{cells_of, outputs_of}
use Rattle.build.specs.Lot.{Lot, slots_of}
use Rattle.build.specs.Outcome.{Outcome, refused, made, answer, outcome_of}
use Rattle.wipe.specs.Wiped.{blank, blank_rows}
use Rattle.table.specs.declared.Counts.{Counts}
use Rattle.build.specs.declared.Refusal.{Refusal}

-- a table at exit: as it was where 1 to 5 are told, zero where 6 to 8 are, and else what a good build leaves in it
abbrev pub left : {A : Type 0} → Outcome → A → A → A → A
left (refused t) was zero good = pick (leb t.number 5) was zero
left (made counts) was zero good = good

-- the outputs of a good build, and zero in the slots past them
abbrev pub output_rows : Kind → List Entry → List ℕ → ℕ → List (List ℕ)
output_rows kind es values slots = outputs_of kind es values ++ replicate (slots - length es) (zeros 3)

-- what is promised of the answer r and of the lots before and after; a good build leaves the working tables zero
pub record Promise (kind : ℕ) (bytes ends values : List ℕ) (before after : Lot) (r : Result Counts Refusal) : Type 0 where
  pub outcome : Outcome
  pub outcome_is : outcome ≡ outcome_of kind bytes ends values (slots_of before)
  pub answered : answer r ≡ outcome
  pub trie_left : after.trie ≡ left outcome before.trie (blank_rows 5 before.trie) (blank_rows 5 before.trie)
  pub owns_left : after.owns ≡ left outcome before.owns (blank_rows 2 before.owns) (blank_rows 2 before.owns)
  pub notes_left : after.notes ≡ left outcome before.notes (blank_rows 6 before.notes) (blank_rows 6 before.notes)
  pub spots_left : after.spots ≡ left outcome before.spots (blank_rows 2 before.spots) (blank_rows 2 before.spots)
  pub base_left_lem : after.base
      ≡ left outcome before.base (blank before.base) (column (λ x. x.base) (cells_of (kind_of kind) (accepted_of kind bytes ends)) (length before.base))
  pub link_left : after.link
      ≡ left outcome before.link (blank before.link) (column (λ x. x.link) (cells_of (kind_of kind) (accepted_of kind bytes ends)) (length before.link))
  pub output_left : after.output
      ≡ left outcome before.output (blank before.output) (column (λ x. x.output) (cells_of (kind_of kind) (accepted_of kind bytes ends)) (length before.output))
  pub check_left : after.check
      ≡ left outcome before.check (blank before.check) (column (λ x. x.check) (cells_of (kind_of kind) (accepted_of kind bytes ends)) (length before.check))
  pub depth_left : after.depth
      ≡ left outcome before.depth (blank before.depth) (column (λ x. x.depth) (cells_of (kind_of kind) (accepted_of kind bytes ends)) (length before.depth))
  pub outs_left : after.outs
      ≡ left outcome before.outs (blank_rows 3 before.outs) (output_rows (kind_of kind) (accepted_of kind bytes ends) values (length before.outs))
