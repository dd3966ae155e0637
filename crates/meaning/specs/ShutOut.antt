-- Wrong searches that document 01 wants shut out, each as a program on search values, on a small pattern and text. No such program meets the demands. The
-- last two say the right matches and then the end, keep the bound, and have the right count at the end: the count at the match alone shuts them out. The proofs stand in ../proofs.
use Rattle.std.specs.Prelude.{◌≡◌, List, [], ◌∷◌, map, ℕ, eqb, length}
use Rattle.paper.specs.Lists.{pick}
use Rattle.paper.specs.Patterns.{Entry, rows}
use Rattle.paper.specs.Matches.{with_payloads, overlapping}
use Rattle.paper.specs.Cases.{bytes}
use Rattle.search.specs.declared.Search.{Search}
use Rattle.search.specs.declared.Match.{Match}
use Rattle.search.specs.Values as search
use Rattle.search.specs.Values.{Which, root, cell, value_of, Outcome, gives, ends, begun}
use Rattle.meaning.specs.Repeated.{answers, said, then_end}
use Rattle.meaning.specs.Demands.{value_in, StandardDemands}

-- a list of one pattern, with the value 0
abbrev pub alone : List ℕ → List Entry
alone p = rows (p ∷ [])

-- the match of a pattern at the text's beginning
abbrev pub at_front : List ℕ → Match
at_front p = record { start = 0; end = length p; value = 0 }

-- a value at root that has taken so many bytes and made so many moves
abbrev pub having : ℕ → ℕ → Search
having place moves = value_of (cell root) 0 place moves

-- at once the end
abbrev pub at_once_the_end : Which → Search → Outcome
at_once_the_end w v = ends (having 1 1)

-- the match of a, again and again
abbrev pub always_one_match : Which → Search → Outcome
always_one_match w v = gives (at_front (bytes "a")) (having 1 1)

-- from a fresh value the match of a pattern with one value, from any other the end with another
abbrev pub once_with : List ℕ → Search → Search → Search → Outcome
once_with p given ended v = pick (eqb v.place 0) (gives (at_front p) given) (ends ended)

-- walks the whole of abcd in its first call, gives abc with the final place and count, and then the end; plain search, at root after abc, follows no link
abbrev pub whole_text_at_once : Which → Search → Outcome
whole_text_at_once search.overlapping = once_with (bytes "abc") (having 4 5) (having 4 5)
whole_text_at_once search.plain = once_with (bytes "abc") (having 4 4) (having 4 4)
whole_text_at_once search.leftmost = once_with (bytes "abc") (having 4 0) (having 4 0)

-- finds ab in ab with a count made up under 2n, which is right again at the end
abbrev pub made_up_count : Which → Search → Outcome
made_up_count w = once_with (bytes "ab") (having 2 3) (having 2 2)

-- overlapping search by this program says what it should of a pattern in a text
abbrev pub SaysRight : (Which → Search → Outcome) → List ℕ → List ℕ → Type 0
SaysRight next p text =
    (n : ℕ) → map said (answers (next search.overlapping) n begun) ≡ then_end n (with_payloads (value_in (0 ∷ [])) (overlapping (alone p) text))

-- what is proved
pub record ShutOut : Type 0 where
  pub at_once_the_end_lem : StandardDemands at_once_the_end (alone (bytes "a")) (0 ∷ []) (bytes "a") → ⊥
  pub always_one_match_lem : StandardDemands always_one_match (alone (bytes "a")) (0 ∷ []) (bytes "a") → ⊥
  pub whole_text_says : SaysRight whole_text_at_once (bytes "abc") (bytes "abcd")
  pub whole_text_at_once_lem : StandardDemands whole_text_at_once (alone (bytes "abc")) (0 ∷ []) (bytes "abcd") → ⊥
  pub made_up_says : SaysRight made_up_count (bytes "ab") (bytes "ab")
  pub made_up_count_lem : StandardDemands made_up_count (alone (bytes "ab")) (0 ∷ []) (bytes "ab") → ⊥
