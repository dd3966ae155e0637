-- The phases on blank tables: what is asked of each, and what it leaves.
use Rattle.std.specs.Prelude.{◌≡◌, List, ◌++◌, ◌⊎◌, ℕ, ◌*◌, ◌-◌, ◌/◌, ◌≤◌, ◌<◌, ltb, length, replicate, Result, Ok, Err}
use Rattle.zeros.specs.Rows.{zeros, field}
use Rattle.paper.specs.Lists.{pick}
use Rattle.paper.specs.Patterns.{Entry, Kind}
use Rattle.list.specs.Limits.{block, most_cells}
use Rattle.list.specs.Kinds.{kind_of}
use Rattle.groups.specs.Ordered.{Groupable}
use Rattle.outputs.specs.Placed.{Tabled}
use Rattle.placement.specs.Laid.{Laid}
use Rattle.placement.specs.declared.FewCells.{FewCells}
use Rattle.table.specs.declared.Counts.{Counts}
use Rattle.cells.specs.Columns.{Blanks, Written}
use Rattle.nfa.specs.Grown.{accepted_of}
use Rattle.whole.specs.Whole.{state_count, layout_of, cell_count, cells_of, outputs_of}
use Rattle.whole.specs.Refusing.{Lent, Suffices}
use Rattle.build.specs.Lot.{Lot, slots_of}
use Rattle.build.specs.Outcome.{TableRefusal, refusal, answer, counts_of}
use Rattle.wipe.specs.Wiped.{blank, blank_rows}
use Rattle.build.specs.declared.Refusal.{Refusal}

-- ---- the layout

-- the blocks that so many slots hold, within the limit
abbrev pub blocks_in : ℕ → ℕ
blocks_in slots = pick (ltb slots most_cells) (slots / block) (most_cells / block)

-- the trie stands, there is a row of notes for each state, and the cells are untouched
pub record Layable (es : List Entry) (trie : List (List ℕ)) (notes : ℕ) (spots : List (List ℕ)) (most : ℕ) : Type 0 where
  pub groupable : Groupable es trie notes
  pub blank_spots : spots ≡ blank_rows 2 spots
  pub room : most * block ≤ length spots
  pub few : most * block ≤ most_cells

-- some patterns for which this holds
pub record LayableSome (trie : List (List ℕ)) (notes : ℕ) (spots : List (List ℕ)) (most : ℕ) : Type 0 where
  pub es : List Entry
  pub layable : Layable es trie notes spots most

-- the layout stands in the tables; the order of the states, their links and output places are as they were
pub record LaidDown (es : List Entry) (notes₀ notes spots : List (List ℕ)) (most blocks : ℕ) : Type 0 where
  pub blocks_are : blocks ≡ (layout_of es).blocks
  pub enough : blocks ≤ most
  pub laid : Laid es notes spots (layout_of es)
  pub kept : (k f : ℕ) → f < 3 → field notes k f ≡ field notes₀ k f

-- the layout stands; or it needs more blocks than may be used
abbrev pub LaidBy : List Entry → List (List ℕ) → List (List ℕ) → List (List ℕ) → ℕ → Result ℕ FewCells → Type 0
LaidBy es notes₀ notes spots most (Ok blocks) = LaidDown es notes₀ notes spots most blocks
LaidBy es notes₀ notes spots most (Err few) = most < (layout_of es).blocks

-- ---- outputs and cells

-- the states are linked and placed, and the result tables are blank and have slots enough
pub record Fillable (kind : Kind) (es : List Entry) (values : List ℕ) (lot : Lot) (states blocks : ℕ) : Type 0 where
  pub tabled : Tabled kind es lot.trie lot.owns lot.notes values (length lot.outs) states
  pub laid : Laid es lot.notes lot.spots (layout_of es)
  pub blocks_are : blocks ≡ (layout_of es).blocks
  pub spots_room : blocks * block ≤ length lot.spots
  pub few : blocks * block ≤ most_cells
  pub blanks : Blanks lot.base lot.link lot.output lot.check lot.depth (blocks * block)
  pub blank_outs : lot.outs ≡ blank_rows 3 lot.outs

-- some patterns for which this holds
pub record FillableSome (values : List ℕ) (lot : Lot) (states blocks : ℕ) : Type 0 where
  pub kind : Kind
  pub es : List Entry
  pub fillable : Fillable kind es values lot states blocks

-- the result tables hold the cells and the outputs, and zero past them
pub record Filled (kind : Kind) (es : List Entry) (values : List ℕ) (before after : Lot) (count : ℕ) : Type 0 where
  pub count_is : count ≡ length es
  pub columns : Written (cells_of kind es) after.base after.link after.output after.check after.depth
      (length before.base) (length before.link) (length before.output) (length before.check) (length before.depth)
  pub rows : after.outs ≡ outputs_of kind es values ++ replicate (length before.outs - length es) (zeros 3)

-- ---- the whole

-- the chart and the result tables are blank
pub record Prepared (lot : Lot) : Type 0 where
  pub spots_blank : lot.spots ≡ blank_rows 2 lot.spots
  pub base_blank : lot.base ≡ blank lot.base
  pub link_blank : lot.link ≡ blank lot.link
  pub output_blank : lot.output ≡ blank lot.output
  pub check_blank : lot.check ≡ blank lot.check
  pub depth_blank : lot.depth ≡ blank lot.depth
  pub outs_blank : lot.outs ≡ blank_rows 3 lot.outs

-- all is done, and these are the counts
pub record AllDone (kind : ℕ) (bytes ends values : List ℕ) (before after : Lot) (counts : Counts) : Type 0 where
  pub fits : Suffices (accepted_of kind bytes ends) (slots_of before)
  pub counts_are : counts ≡ counts_of kind (accepted_of kind bytes ends)
  pub filled : Filled (kind_of kind) (accepted_of kind bytes ends) values before after counts.accepted

-- a refusal has its cause, and none before it has
pub record Caused (es : List Entry) (slots : Lent) (n : ℕ) : Type 0 where
  pub known : TableRefusal n
  pub six : n ≡ 6 → slots.states < state_count es
  pub seven : n ≡ 7 → (state_count es ≤ slots.states) × ((slots.cells < cell_count es) ⊎ (most_cells < cell_count es))
  pub eight : n ≡ 8 → (state_count es ≤ slots.states) × (cell_count es ≤ slots.cells) × (cell_count es ≤ most_cells) × (slots.outputs < length es)

-- what the phases answer: the counts, or a refusal by its number with its cause
abbrev pub PhasesOk : ℕ → List ℕ → List ℕ → List ℕ → Lot → Lot → Result Counts Refusal → Type 0
PhasesOk kind bytes ends values before after (Ok counts) = AllDone kind bytes ends values before after counts
PhasesOk kind bytes ends values before after (Err why) =
    (n : ℕ) × (answer (Err why) ≡ refusal n) × Caused (accepted_of kind bytes ends) (slots_of before) n
