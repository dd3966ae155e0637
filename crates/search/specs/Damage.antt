-- Document 01's list of damage, each line a named case: what the kind, the counts and the search value show, and what the walk meets.
use Rattle.std.specs.Prelude.{◌≡◌, Bool, true, false, List, ◌∷◌, ℕ, ◌-◌, ◌*◌, ◌≤◌, ◌<◌, length, get_or, None, Ok}
use Rattle.std.specs.Int.Bits.{bit_xor}
use Rattle.zeros.specs.Rows.{field}
use Rattle.list.specs.Limits.{last_kind}
use Rattle.table.specs.Agrees.{Tables, probe_in, link_in}
use Rattle.table.specs.declared.CellId.{CellId}
use Rattle.table.specs.declared.Row.{Row}
use Rattle.table.specs.Readers.{damage}
use Rattle.search.specs.declared.Search.{Search}
use Rattle.search.specs.declared.seek.Sought.TheVariants as sought
use Rattle.search.specs.Values.{Which, leftmost, root}
use Rattle.search.specs.Walk.{falls_at, step_of}
use Rattle.search.specs.Admission.{cell_slots}
use Rattle.search.specs.Searches.{seek_of, shown_at, rest, from, is_leftmost}

-- what shows before the walk, for a text of so many bytes
pub data ShowsAtFirst (T : Tables) (kind size : ℕ) (v : Search) : Type 0 where
  kind_above_two : last_kind < kind → ShowsAtFirst T kind size v
  accepted_above_slots : length T.outs < T.accepted → ShowsAtFirst T kind size v
  cells_above_slots : cell_slots T < T.cells → ShowsAtFirst T kind size v
  state_past_cells : T.cells ≤ v.state.0 → ShowsAtFirst T kind size v
  output_past_outputs : T.accepted < v.output → ShowsAtFirst T kind size v
  place_past_text : size < v.place → ShowsAtFirst T kind size v
  moves_above_twice_place : 2 * v.place < v.moves → ShowsAtFirst T kind size v

-- what a hunt meets on a byte, from a state on
pub data HuntMeets (falling : Bool) (T : Tables) (c : ℕ) : CellId → Type 0 where
  -- the base xor the byte is at or past the cells
  child_past_cells : (s : CellId) → (get_or T.base s.0 0 ≡ 0 → ⊥) → T.cells ≤ bit_xor (get_or T.base s.0 0) c → HuntMeets falling T c s
  -- the state has no such child, and its failure target is at or past the cells
  target_past_cells : (s : CellId) → probe_in T s.0 c ≡ Ok None → (s.0 ≡ root → ⊥) → T.cells ≤ get_or T.link s.0 0
      → HuntMeets falling T c s
  -- or the depth of its failure target isn't smaller
  target_not_smaller : (s : CellId) → probe_in T s.0 c ≡ Ok None → (s.0 ≡ root → ⊥)
      → get_or T.depth s.0 0 ≤ get_or T.depth (get_or T.link s.0 0) 0
      → HuntMeets falling T c s
  -- or the hunt goes on from its target, and meets damage there
  at_target : (s target : CellId) → probe_in T s.0 c ≡ Ok None → (s.0 ≡ root → ⊥) → link_in T s.0 ≡ Ok target
      → falls_at falling target ≡ false
      → HuntMeets falling T c target
      → HuntMeets falling T c s

-- what is wrong with the output at a place, for a match that ends at `end`
pub data OutputBroken (T : Tables) (place end : ℕ) : Type 0 where
  place_past_outputs : T.accepted < place → OutputBroken T place end
  next_not_below : (place ≡ 0 → ⊥) → place ≤ field T.outs (place - 1) 2 → OutputBroken T place end
  length_zero : (place ≡ 0 → ⊥) → field T.outs (place - 1) 1 ≡ 0 → OutputBroken T place end
  length_above_end : (place ≡ 0 → ⊥) → end < field T.outs (place - 1) 1 → OutputBroken T place end

-- what the walk up to the first output meets, from a value and the bytes left
pub data WalkMeets (falling : Bool) (T : Tables) : Search → List ℕ → Type 0 where
  -- the output that would be given is broken
  at_output_lem : (v : Search) (bytes : List ℕ) → OutputBroken T v.output v.place → WalkMeets falling T v bytes
  -- there is none, and the next byte's hunt meets damage
  in_hunt : (v : Search) (c : ℕ) (bytes : List ℕ) → v.output ≡ 0 → HuntMeets falling T c v.state → WalkMeets falling T v (c ∷ bytes)
  -- or the walk goes on from the value after that byte, and meets damage there
  after_byte : (v w : Search) (c : ℕ) (bytes : List ℕ) → v.output ≡ 0 → step_of falling T v c ≡ Ok w → WalkMeets falling T w bytes
      → WalkMeets falling T v (c ∷ bytes)

-- what a leftmost walk meets while it has a match in hand
pub data KeepMeets (T : Tables) : Search → List ℕ → Type 0 where
  -- the next byte's hunt meets damage
  keep_in_hunt : (v : Search) (c : ℕ) (bytes : List ℕ) → HuntMeets true T c v.state → KeepMeets T v (c ∷ bytes)
  -- the output that would be kept is broken
  keep_at_output : (v w : Search) (c : ℕ) (bytes : List ℕ) → step_of true T v c ≡ Ok w → (w.state.0 ≡ root → ⊥)
      → OutputBroken T w.output w.place
      → KeepMeets T v (c ∷ bytes)
  -- or the walk goes on from the value after that byte, and meets damage there
  keep_after_byte : (v w : Search) (c : ℕ) (bytes : List ℕ) → step_of true T v c ≡ Ok w → (w.state.0 ≡ root → ⊥)
      → (shown_at T w ≡ damage → ⊥)
      → KeepMeets T w bytes
      → KeepMeets T v (c ∷ bytes)

-- a line of the list holds: of the kind, the counts or the value, or of what the walk met
pub data Damaged (w : Which) (T : Tables) (kind : ℕ) (text : List ℕ) (v : Search) : Type 0 where
  shown_at_first : ShowsAtFirst T kind (length text) v → Damaged w T kind text v
  in_walk : WalkMeets (is_leftmost w) T (from w v) (rest text (from w v)) → Damaged w T kind text v
  with_match : (row : Row) (at : Search) → w ≡ leftmost → seek_of true T (from w v) (rest text (from w v)) ≡ Ok (sought.Given row at)
      → KeepMeets T at (rest text at)
      → Damaged w T kind text v
