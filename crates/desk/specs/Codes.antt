-- The whole list: the rows of its lines, or the first line that is bad with its reason; and how the tables hold the rows.
use Rattle.std.specs.Prelude.{◌≡◌, List, [], ◌∷◌, ◌++◌, map, ℕ, suc, ◌+◌, leb, length, take, Option, Some, None, Result, Ok, Err}
use Rattle.paper.specs.Lists.{pick}
use Rattle.desk.specs.Stretches.{lines_of, bare}
use Rattle.desk.specs.Rows.{Listed, row_of}
use Rattle.desk.specs.declared.codes.Read.{Read}
use Rattle.desk.specs.declared.codes.Fault.{Fault}
use Rattle.desk.specs.declared.codes.Fault.TheVariants.{BadValue, TooMany}

-- what a list says: its rows; or the first line, from 0, whose value is bad; or that there are more lines than rows are taken
pub data Listing : Type 0 where
  rows : List Listed → Listing
  bad_value : ℕ → Listing
  too_many : Listing

-- rows in front of what the rest says
abbrev pub after : List Listed → Listing → Listing
after rs (rows more) = rows (rs ++ more)
after rs (bad_value k) = bad_value k
after rs too_many = too_many

-- a row, if its line has one, in front of what the rest says
abbrev pub first : ℕ → Option Listed → Listing → Listing
first k None rest = bad_value k
first k (Some r) rest = after (r ∷ []) rest

-- what the lines from line k on say, where so many rows are taken
unfoldable pub listing : ℕ → ℕ → List (List ℕ) → Listing
listing room k [] = rows []
listing room k (l ∷ ls) = pick (leb room k) too_many (first k (row_of k (bare l)) (listing room (suc k) ls))

-- what a list says, where so many rows are taken
abbrev pub codes : ℕ → List ℕ → Listing
codes room file = listing room 0 (lines_of file)

-- the codes of rows, one behind the other
unfoldable pub joined : List Listed → List ℕ
joined [] = []
joined (r ∷ rs) = r.code ++ joined rs

-- where each code ends, the first of which begins at a
unfoldable pub ends_from : ℕ → List Listed → List ℕ
ends_from a [] = []
ends_from a (r ∷ rs) = (a + length r.code) ∷ ends_from (a + length r.code) rs

-- the values of rows
abbrev pub values_of : List Listed → List ℕ
values_of rs = map (λ (r : Listed). r.value) rs

-- the marks of rows
abbrev pub marks_of : List Listed → List ℕ
marks_of rs = map (λ (r : Listed). r.mark) rs

-- the first slots of the tables hold these rows: count of them, their codes up to end
pub record Held (rs : List Listed) (count end : ℕ) (bytes ends values marks : List ℕ) : Type 0 where
  pub counted : length rs ≡ count
  pub sized : length (joined rs) ≡ end
  pub bytes_are : take end bytes ≡ joined rs
  pub ends_are : take count ends ≡ ends_from 0 rs
  pub values_are : take count values ≡ values_of rs
  pub marks_are : take count marks ≡ marks_of rs

-- the list says rows, and the tables hold them
pub record Taken (said : Listing) (count end : ℕ) (bytes ends values marks : List ℕ) : Type 0 where
  pub taken : List Listed
  pub says : said ≡ rows taken
  pub held : Held taken count end bytes ends values marks

-- the answer of the code, with the tables as it left them, is what the list says
abbrev pub Says : Listing → List ℕ → List ℕ → List ℕ → List ℕ → Result Read Fault → Type 0
Says said bytes ends values marks (Ok r) = Taken said r.rows r.end bytes ends values marks
Says said bytes ends values marks (Err (BadValue k)) = said ≡ bad_value k
Says said bytes ends values marks (Err TooMany) = said ≡ too_many
