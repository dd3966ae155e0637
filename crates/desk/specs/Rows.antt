-- The row of a line: mark, value and code.
use Rattle.std.specs.Prelude.{Bool, List, [], ◌∷◌, ℕ, suc, ◌≤◌, eqb, length, take, drop, Option, Some, None}
use Rattle.std.specs.Int.{from_bool}
use Rattle.paper.specs.Lists.{pick, is_nil}
use Rattle.desk.specs.Stretches.{ahead}
use Rattle.desk.specs.Numbers.{number_of}
use Rattle.desk.specs.declared.rows.Row.{Row}

-- stands before the code where a line has a value or a mark
abbrev pub tabulator : ℕ
tabulator = 9

-- `!`, the mark of a hazard
abbrev pub hazard_mark : ℕ
hazard_mark = 33

-- a row of the list: 1 for a hazard and else 0, its value, and the bytes to look for
pub record Listed : Type 0 where
  pub mark : ℕ
  pub value : ℕ
  pub code : List ℕ

-- what stands before the tabulator says: mark and value
pub record Told : Type 0 where
  pub mark : ℕ
  pub value : ℕ

-- a mark with a value, if there is one
abbrev pub marked : ℕ → Option ℕ → Option Told
marked m None = None
marked m (Some v) = Some (record { mark = m; value = v })

-- what stands before the tabulator of line k: a value; or the mark and a value, which is k where none is written
unfoldable pub head_of : ℕ → List ℕ → Option Told
head_of k [] = None
head_of k (b ∷ bs) = pick (eqb b hazard_mark) (marked 1 (pick (is_nil bs) (Some k) (number_of bs))) (marked 0 (number_of (b ∷ bs)))

-- a code with what stands before it
abbrev pub row_with : List ℕ → Option Told → Option Listed
row_with code None = None
row_with code (Some t) = Some (record { mark = t.mark; value = t.value; code = code })

-- the row of line k: without a tabulator the line is the code and k its value, else the code stands behind the first one; none where the value is bad
abbrev pub row_of : ℕ → List ℕ → Option Listed
row_of k line =
    pick (eqb (ahead tabulator line) (length line))
    (Some (record { mark = 0; value = k; code = line }))
    (row_with (drop (suc (ahead tabulator line)) line) (head_of k (take (ahead tabulator line) line)))

-- the answers of the code: mark and value of what stands before a tabulator
abbrev pub head_told : Option (Bool × ℕ) → Option Told
head_told None = None
head_told (Some p) = Some (record { mark = from_bool p.0; value = p.1 })

-- and the row of a line
abbrev pub row_told : Option Row → Option Listed
row_told None = None
row_told (Some r) = Some (record { mark = from_bool r.hazard; value = r.value; code = r.code.now })

-- the code of a row has no more bytes than its line
abbrev pub Within : ℕ → Option Row → Type 0
Within size None = Unit {0}
Within size (Some r) = length r.code.now ≤ size
