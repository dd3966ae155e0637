-- Document 01's case table as one statement: what a build of each list answers with exactly the slots that it needs, and what a search says over the tables
-- that any good build of it left. Build and searches stand here by what their code promises. Its proof is `case_table` in ../proofs.
use Rattle.std.specs.Prelude.{◌≡◌, List, [], ◌∷◌, ◌++◌, map, ℕ, suc, ◌+◌, length, take, get_or, replicate, Result}
use Rattle.paper.specs.Lists.{each}
use Rattle.paper.specs.Matches.{Match}
use Rattle.paper.specs.Cases.{bytes, at, paper_list, list1, values3, short_first, long_first, twins}
use Rattle.plan.specs.Cells.{Cell}
use Rattle.plan.specs.PlacementCases.{cell}
use Rattle.table.specs.declared.Counts.{Counts}
use Rattle.whole.specs.Refusing.{Lent}
use Rattle.build.specs.Lot.{Lot, slots_of}
use Rattle.build.specs.Outcome as build
use Rattle.build.specs.Outcome.{made, refused, refusal}
use Rattle.build.specs.Promise.{Promise}
use Rattle.build.specs.declared.Refusal.{Refusal}
use Rattle.search.specs.Values.{Which, overlapping, plain, leftmost, Outcome, begun}
use Rattle.meaning.specs.Repeated.{match, end, handed_back, answers, said}
use Rattle.day.specs.EndToEnd.{GoodBuild, searches}

-- ---- what is handed to a build

-- a kind, patterns and their values
pub record Input : Type 0 where
  pub kind : ℕ
  pub patterns : List (List ℕ)
  pub values : List ℕ

-- these patterns with these values, under a kind
abbrev pub under : ℕ → List (List ℕ) → List ℕ → Input
under kind patterns values = record { kind = kind; patterns = patterns; values = values }

-- the bytes of patterns, one after the other
abbrev pub joined : List (List ℕ) → List ℕ
joined [] = []
joined (p ∷ ps) = p ++ joined ps

-- the end of each among them, if a bytes stand before the first
abbrev pub ends_from : ℕ → List (List ℕ) → List ℕ
ends_from a [] = []
ends_from a (p ∷ ps) = (a + length p) ∷ ends_from (a + length p) ps

-- so many slots of states, of cells and of outputs
abbrev pub slots : ℕ → ℕ → ℕ → Lent
slots states cells outputs = record { states = states; cells = cells; outputs = outputs }

-- ---- what is answered

-- a build of this input with so many slots answers this, whatever else the lent tables are
abbrev pub Builds : Input → Lent → build.Outcome → Type 0
Builds i lent o = (before after : Lot) (r : Result Counts Refusal) → slots_of before ≡ lent
    → Promise i.kind (joined i.patterns) (ends_from 0 i.patterns) i.values before after r
    → build.answer r ≡ o

-- a good one: so many accepted patterns, states and cells
abbrev pub good : Input → ℕ → ℕ → ℕ → build.Outcome
good i accepted states cells = made (record { kind = i.kind; accepted = accepted; states = states; cells = cells })

-- any good build of this input, with any tables at entry
abbrev pub BuildOf : Input → Type 0
BuildOf i = GoodBuild i.kind (joined i.patterns) (ends_from 0 i.patterns) i.values

-- the first n cells in the tables that it left
abbrev pub first_cells : (i : Input) → BuildOf i → ℕ → List Cell
first_cells i b n =
    each 0 n
    (λ j. cell (get_or b.exit.base j 0) (get_or b.exit.link j 0) (get_or b.exit.output j 0) (get_or b.exit.check j 0) (get_or b.exit.depth j 0) ∷ [])

-- the answers of so many calls of a search over the tables that it left, the first on a fresh value
abbrev pub calls : (i : Input) → BuildOf i → Which → List ℕ → ℕ → List Outcome
calls i b w text n = answers (searches b text w) n begun

-- the moves in the last of some answers
abbrev pub last_moves : List Outcome → ℕ
last_moves [] = 0
last_moves (o ∷ []) = (handed_back o).moves
last_moves (o ∷ p ∷ os) = last_moves (p ∷ os)

-- a case: its counts, the matches that a search says, and the moves at the end
pub record Case (w : Which) (i : Input) (text : List ℕ) (accepted states : ℕ) (matches : List (Match ℕ)) (moves : ℕ) : Type 0 where
  -- with exactly the slots that it needs, dead counted among the states, the build is good with these counts, in one block
  pub built : Builds i (slots (suc states) 256 accepted) (good i accepted states 256)
  -- so there is a good build of it
  pub some : BuildOf i
  -- over the tables that any good build of it left, the search says these matches and then the end
  pub says : (b : BuildOf i) → map said (calls i b w text (suc (length matches))) ≡ map match matches ++ (end ∷ [])
  -- and the end has these moves
  pub moved : (b : BuildOf i) → last_moves (calls i b w text (suc (length matches))) ≡ moves

-- ---- the table

-- bcd, ab, a
abbrev pub three : Input
three = under 0 list1 values3

-- P1 to P9, each with the accepted patterns, the states, the matches as (start, end, value), and the moves, which leftmost search reports as 0
pub record CaseTable : Type 0 where
  -- P1 bcd, ab, a: the counts; and the cells, as (base, failure, output, check, depth), and outputs in the tables that any good build of it left
  pub p1 : Builds three (slots 7 256 3) (good three 3 6 256)
  pub p1_cells : (b : BuildOf three) → first_cells three b 256
      ≡ cell 101 0 0 0 0
      ∷ cell 0 0 0 1 0
      ∷ cell 103 0 0 99 2
      ∷ cell 0 0 3 100 3
      ∷ cell 100 0 1 97 1
      ∷ cell 0 0 0 5 0
      ∷ cell 0 7 2 98 2
      ∷ cell 97 0 0 98 1
      ∷ each 8 248 (λ j. cell 0 0 0 j 0 ∷ [])
  pub p1_outputs : (b : BuildOf three) → take 3 b.exit.outs ≡ (2 ∷ 1 ∷ 0 ∷ []) ∷ (1 ∷ 2 ∷ 0 ∷ []) ∷ (0 ∷ 3 ∷ 0 ∷ []) ∷ []
  -- P2 the same, plain
  pub p2 : Case plain three (bytes "abcd") 3 6 (at 0 1 2 ∷ at 1 4 0 ∷ []) 4
  -- P3 the same, overlapping; the program `case3` prints it
  pub p3 : Case overlapping three (bytes "abcd") 3 6 (at 0 1 2 ∷ at 0 2 1 ∷ at 1 4 0 ∷ []) 5
  -- P4 he, she, his, hers
  pub p4 : Case overlapping (under 0 paper_list (0 ∷ 1 ∷ 2 ∷ 3 ∷ [])) (bytes "ushers") 4 10 (at 1 4 1 ∷ at 2 4 0 ∷ at 2 6 3 ∷ []) 7
  -- P5 aa: the bound for 3 bytes
  pub p5 : Case overlapping (under 0 (bytes "aa" ∷ []) (0 ∷ [])) (bytes "aax") 1 3 (at 0 2 0 ∷ []) 5
  -- P6 T10, T100
  pub p6_longest : Case leftmost (under 1 short_first (0 ∷ 1 ∷ [])) (bytes "T100") 2 5 (at 0 4 1 ∷ []) 0
  pub p6_first : Case leftmost (under 2 short_first (0 ∷ 1 ∷ [])) (bytes "T100") 1 4 (at 0 3 0 ∷ []) 0
  -- P7 T100, T10
  pub p7 : Case leftmost (under 2 long_first (0 ∷ 1 ∷ [])) (bytes "T100") 2 5 (at 0 4 0 ∷ []) 0
  -- P8 ab twice
  pub p8 : Case overlapping (under 0 twins (5 ∷ 7 ∷ [])) (bytes "ab") 2 3 (at 0 2 5 ∷ at 0 2 7 ∷ []) 2
  pub p8_longest : Case leftmost (under 1 twins (5 ∷ 7 ∷ [])) (bytes "ab") 2 3 (at 0 2 5 ∷ []) 0
  -- the same under LeftmostFirst: an equal pattern is not dropped
  pub p8_first : Case leftmost (under 2 twins (5 ∷ 7 ∷ [])) (bytes "ab") 2 3 (at 0 2 5 ∷ []) 0
  -- P9 no patterns, no text
  pub p9 : Case overlapping (under 0 [] []) [] 0 1 [] 0
  -- the edges that are refused, with more slots than any list needs but for the 255 cells: 65 bytes, 1,025 listed, 255 cells lent; the program
  -- `replay` runs them, and those that are accepted
  pub edge_bytes : Builds (under 0 (replicate 65 97 ∷ []) (0 ∷ [])) (slots 70000 70000 70000) (refused (record { number = 5; index = 0 }))
  pub edge_listed : Builds (under 0 (replicate 1025 (bytes "a")) (replicate 1025 0)) (slots 70000 70000 70000) (refusal 3)
  pub edge_cells : Builds three (slots 70000 255 70000) (refusal 7)
