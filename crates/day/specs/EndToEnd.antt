-- A day's work, from the pattern list to the matches: demands 2 and 3 (meaning/specs/Demands.antt) over the tables that a good build leaves. Build
-- and searches stand here by what their code promises; the lists of matches are those of plain occurrence in the listed patterns, and each is given
-- with the sentence that it meets. The proofs stand in ../proofs; `claims` there has them all.
use Rattle.std.specs.Prelude.{List, ℕ, ◌≤◌, length, Ok}
use Rattle.paper.specs.Patterns.{Entry, Choice, rows}
use Rattle.paper.specs.Matches.{overlapping, plain, leftmost_by, Overlapping, Chosen, ByEnd, Leftmost}
use Rattle.list.specs.Limits.{most_text}
use Rattle.list.specs.Listed.{patterns_of}
use Rattle.list.specs.Claims.{Bytes}
use Rattle.table.specs.Agrees.{Tables}
use Rattle.table.specs.declared.Counts.{Counts}
use Rattle.build.specs.Lot.{Lot, results_of}
use Rattle.build.specs.Promise.{Promise}
use Rattle.search.specs.declared.Search.{Search}
use Rattle.search.specs.Values.{Which, Outcome}
use Rattle.search.specs.Searches.{next_of}
use Rattle.meaning.specs.Demands.{kind_number, StandardDemands, LeftmostDemands}

-- ---- a build, and the searches after it

-- a good build of a list: any tables at entry, what they hold at exit, and the counts that were answered, as `build` promises them
pub record GoodBuild (kind : ℕ) (bytes ends values : List ℕ) : Type 0 where
  pub entry : Lot
  pub exit : Lot
  pub counts : Counts
  pub promised : Promise kind bytes ends values entry exit (Ok counts)

-- the tables that it leaves, as they are lent to a search
abbrev pub tables_left : {kind : ℕ} {bytes ends values : List ℕ} → GoodBuild kind bytes ends values → Tables
tables_left b = results_of b.exit b.counts

-- what the searches of a text answer over them
abbrev pub searches : {kind : ℕ} {bytes ends values : List ℕ} → GoodBuild kind bytes ends values → List ℕ → Which → Search → Outcome
searches b text w v = next_of w (tables_left b) b.counts.kind text v

-- the listed patterns with their rows
abbrev pub listed : List ℕ → List ℕ → List Entry
listed bytes ends = rows (patterns_of bytes ends)

-- ---- the statements

-- after a build of kind Standard
pub record StandardDay {bytes ends values : List ℕ} (b : GoodBuild 0 bytes ends values) (text : List ℕ) : Type 0 where
  -- demands 2 and 3 over the listed patterns with their values: what overlapping and plain search say, and the moves in every answer
  pub demands : StandardDemands (searches b text) (listed bytes ends) values text
  -- the overlapping list has exactly the occurrences, each once, by end, then longer first, then in list order
  pub overlapping_list : Overlapping (listed bytes ends) text (overlapping (listed bytes ends) text)
  -- the plain list has, of the occurrences that start at p or later, the smallest end, then the longest, then the earliest listed; p becomes its end
  pub plain_list : Chosen ByEnd (listed bytes ends) text 0 (plain (listed bytes ends) text)

-- after a build of a leftmost kind
pub record LeftmostDay (c : Choice) {bytes ends values : List ℕ} (b : GoodBuild (kind_number c) bytes ends values) (text : List ℕ) : Type 0 where
  -- demands 2 and 3 over all listed patterns, also over those that LeftmostFirst drops
  pub demands : LeftmostDemands (searches b text) c (listed bytes ends) values text
  -- the leftmost list has, of the occurrences that start at p or later, the smallest start, then the longest or the earliest listed; p becomes its end
  pub leftmost_list : Chosen (Leftmost c) (listed bytes ends) text 0 (leftmost_by c (listed bytes ends) text)

-- what is proved, for any pattern bytes, ends, values and tables at entry, and any text of bytes within the limit
pub record DayClaims : Type 0 where
  -- kind 0: overlapping and plain search, and their moves
  pub standard_day : (bytes ends values text : List ℕ) (b : GoodBuild 0 bytes ends values) → Bytes bytes → Bytes text → length text ≤ most_text → StandardDay b text
  -- kinds 1 and 2: leftmost search
  pub leftmost_day : (c : Choice) (bytes ends values text : List ℕ) (b : GoodBuild (kind_number c) bytes ends values) → Bytes bytes → Bytes text
      → length text ≤ most_text
      → LeftmostDay c b text
