-- Computed checks of the definitions: the paper's own example, and the lists and counts of document 01's case table, P2 to P9. (P1's
-- cells and the searches over them are checked where the tables are.)
use Rattle.std.specs.Prelude.{◌≡◌, List, [], ◌∷◌, map, ℕ, length, get_or}
use Prim.Native.Char.{code}
use Prim.Native.String.{String, [] as end, ◌∷◌ as ◌then◌}
use Rattle.paper.specs.Patterns.{standard, leftmost, longest, first, rows, accepted}
use Rattle.paper.specs.Matches.{Match, with_payloads, overlapping, plain, leftmost_by}
use Rattle.paper.specs.Automaton.{Machine, machine, is_state, failure, output, fresh, walk, never}

-- the bytes of a text
abbrev pub bytes : String → List ℕ
bytes end = []
bytes (c then s) = code c ∷ bytes s

-- a match as document 01 prints it: start, end, value
abbrev pub at : ℕ → ℕ → ℕ → Match ℕ
at s e v = record { start = s; end = e; payload = v }

-- the value of a row
abbrev pub value_of : List ℕ → ℕ → ℕ
value_of values row = get_or values row 0

-- ---- the paper's example: he, she, his, hers on ushers

-- the paper's patterns
abbrev pub paper_list : List (List ℕ)
paper_list = bytes "he" ∷ bytes "she" ∷ bytes "his" ∷ bytes "hers" ∷ []

-- their automaton
abbrev pub paper_machine : Machine
paper_machine = machine standard (rows paper_list)

-- the rows that a state puts out
abbrev pub rows_out : List ℕ → List ℕ
rows_out s = map (λ x. x.row) (output paper_machine s)

-- the state after a text
abbrev pub after : List ℕ → List ℕ
after t = (walk paper_machine never fresh t).state

-- the tables of the paper: failure f and output of the nine states, and the states on ushers
pub record PaperExample : Type 0 where
  pub fail_h : failure (is_state (rows paper_list)) (bytes "h") ≡ bytes ""
  pub fail_he : failure (is_state (rows paper_list)) (bytes "he") ≡ bytes ""
  pub fail_s : failure (is_state (rows paper_list)) (bytes "s") ≡ bytes ""
  pub fail_sh : failure (is_state (rows paper_list)) (bytes "sh") ≡ bytes "h"
  pub fail_she : failure (is_state (rows paper_list)) (bytes "she") ≡ bytes "he"
  pub fail_hi : failure (is_state (rows paper_list)) (bytes "hi") ≡ bytes ""
  pub fail_his : failure (is_state (rows paper_list)) (bytes "his") ≡ bytes "s"
  pub fail_her : failure (is_state (rows paper_list)) (bytes "her") ≡ bytes ""
  pub fail_hers : failure (is_state (rows paper_list)) (bytes "hers") ≡ bytes "s"
  pub out_he : rows_out (bytes "he") ≡ 0 ∷ []
  pub out_she : rows_out (bytes "she") ≡ 1 ∷ 0 ∷ []
  pub out_his : rows_out (bytes "his") ≡ 2 ∷ []
  pub out_hers : rows_out (bytes "hers") ≡ 3 ∷ []
  pub on_u : after (bytes "u") ≡ bytes ""
  pub on_us : after (bytes "us") ≡ bytes "s"
  pub on_ush : after (bytes "ush") ≡ bytes "sh"
  pub on_ushe : after (bytes "ushe") ≡ bytes "she"
  pub on_usher : after (bytes "usher") ≡ bytes "her"
  pub on_ushers : after (bytes "ushers") ≡ bytes "hers"

-- ---- document 01's case table

-- the list of P1 to P3
abbrev pub list1 : List (List ℕ)
list1 = bytes "bcd" ∷ bytes "ab" ∷ bytes "a" ∷ []

-- its values
abbrev pub values3 : List ℕ
values3 = 0 ∷ 1 ∷ 2 ∷ []

-- the short code listed first
abbrev pub short_first : List (List ℕ)
short_first = bytes "T10" ∷ bytes "T100" ∷ []

-- the long code listed first
abbrev pub long_first : List (List ℕ)
long_first = bytes "T100" ∷ bytes "T10" ∷ []

-- one pattern twice
abbrev pub twins : List (List ℕ)
twins = bytes "ab" ∷ bytes "ab" ∷ []

-- the moves of a standard search over a text, run to its end
abbrev pub moves_over : List (List ℕ) → List ℕ → ℕ
moves_over ps t = (walk (machine standard (rows ps)) never fresh t).moves

-- P2 to P9: the matches as (start, end, value), and the moves of the standard searches
pub record CaseLists : Type 0 where
  pub p2 : with_payloads (value_of values3) (plain (rows list1) (bytes "abcd")) ≡ at 0 1 2 ∷ at 1 4 0 ∷ []
  pub p3 : with_payloads (value_of values3) (overlapping (rows list1) (bytes "abcd")) ≡ at 0 1 2 ∷ at 0 2 1 ∷ at 1 4 0 ∷ []
  pub p3_moves : moves_over list1 (bytes "abcd") ≡ 5
  pub p4 : with_payloads (value_of (0 ∷ 1 ∷ 2 ∷ 3 ∷ [])) (overlapping (rows paper_list) (bytes "ushers")) ≡ at 1 4 1 ∷ at 2 4 0 ∷ at 2 6 3 ∷ []
  pub p4_moves : moves_over paper_list (bytes "ushers") ≡ 7
  pub p5_moves : moves_over (bytes "aa" ∷ []) (bytes "aax") ≡ 5
  pub p6_longest : with_payloads (value_of values3) (leftmost_by longest (accepted (leftmost longest) short_first) (bytes "T100")) ≡ at 0 4 1 ∷ []
  pub p6_accepted : length (accepted (leftmost first) short_first) ≡ 1
  pub p6_first : with_payloads (value_of values3) (leftmost_by first (accepted (leftmost first) short_first) (bytes "T100")) ≡ at 0 3 0 ∷ []
  pub p7_accepted : length (accepted (leftmost first) long_first) ≡ 2
  pub p7_first : with_payloads (value_of values3) (leftmost_by first (accepted (leftmost first) long_first) (bytes "T100")) ≡ at 0 4 0 ∷ []
  pub p8 : with_payloads (value_of (5 ∷ 7 ∷ [])) (overlapping (rows twins) (bytes "ab")) ≡ at 0 2 5 ∷ at 0 2 7 ∷ []
  pub p8_longest : with_payloads (value_of (5 ∷ 7 ∷ [])) (leftmost_by longest (accepted (leftmost longest) twins) (bytes "ab")) ≡ at 0 2 5 ∷ []
  pub p8_accepted : length (accepted (leftmost first) twins) ≡ 2
  pub p9 : overlapping (rows []) (bytes "") ≡ []
  pub p9_moves : moves_over [] (bytes "") ≡ 0
