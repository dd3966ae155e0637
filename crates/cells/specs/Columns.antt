-- The cells of a layout in columns: a column is one field of every cell.
use Rattle.std.specs.Prelude.{◌≡◌, List, [], ◌++◌, map, ℕ, ◌*◌, ◌-◌, ◌≤◌, ◌<◌, length, get_or, replicate}
use Rattle.zeros.specs.Rows.{field}
use Rattle.paper.specs.Patterns.{Entry}
use Rattle.paper.specs.Automaton.{is_state, Link, to}
use Rattle.list.specs.Limits.{alphabet, block, most_cells}
use Rattle.plan.specs.Names.{names}
use Rattle.plan.specs.Placement.{Layout}
use Rattle.plan.specs.Cells.{Cell, Full}
use Rattle.trie.specs.Stands.{Stands}
use Rattle.links.specs.Linked.{Leads}
use Rattle.placement.specs.Laid.{Laid}

-- one field of the cells, and 0 in the slots past them
abbrev pub column : (Cell → ℕ) → List Cell → ℕ → List ℕ
column part cs slots = map part cs ++ replicate (slots - length cs) 0

-- the tables of a build whose states are placed; where each state links to and where its outputs begin
pub record Writable (es : List Entry) (l : Layout) (link_of : List ℕ → Link) (place_of : List ℕ → ℕ) (trie notes spots : List (List ℕ)) (states blocks : ℕ) : Type 0 where
  pub stands : Stands es trie
  pub states_are : states ≡ length (names alphabet es)
  pub notes_room : states ≤ length notes
  pub laid : Laid es notes spots l
  pub full : Full alphabet (is_state es) l
  pub blocks_are : blocks ≡ l.blocks
  pub spots_room : blocks * block ≤ length spots
  pub few : blocks * block ≤ most_cells
  pub link : (k : ℕ) → k < length (names alphabet es) → (k ≡ 1 → ⊥)
      → Leads (names alphabet es) (link_of (get_or (names alphabet es) k [])) (field notes k 1)
  pub link_root : link_of [] ≡ to []
  pub place : (k : ℕ) → k < length (names alphabet es) → (k ≡ 1 → ⊥) → field notes k 2 ≡ place_of (get_or (names alphabet es) k [])

-- a column that is zero and has a slot for each of so many cells
pub record Blank (column : List ℕ) (cells : ℕ) : Type 0 where
  pub zero : column ≡ replicate (length column) 0
  pub room : cells ≤ length column

-- the five columns are blank
pub record Blanks (base link output check depth : List ℕ) (cells : ℕ) : Type 0 where
  pub base_blank : Blank base cells
  pub link_blank : Blank link cells
  pub output_blank : Blank output cells
  pub check_blank : Blank check cells
  pub depth_blank : Blank depth cells

-- some patterns, a layout, links and places for which these hold
pub record WritableSome (trie notes spots : List (List ℕ)) (base link output check depth : List ℕ) (states blocks : ℕ) : Type 0 where
  pub es : List Entry
  pub layout : Layout
  pub link_of : List ℕ → Link
  pub place_of : List ℕ → ℕ
  pub writable : Writable es layout link_of place_of trie notes spots states blocks
  pub blanks : Blanks base link output check depth (blocks * block)

-- the five columns hold the fields of these cells; the numbers are their slots
pub record Written (cs : List Cell) (base link output check depth : List ℕ) (base₀ link₀ output₀ check₀ depth₀ : ℕ) : Type 0 where
  pub bases : base ≡ column (λ x. x.base) cs base₀
  pub links : link ≡ column (λ x. x.link) cs link₀
  pub outputs : output ≡ column (λ x. x.output) cs output₀
  pub checks : check ≡ column (λ x. x.check) cs check₀
  pub depths : depth ≡ column (λ x. x.depth) cs depth₀
