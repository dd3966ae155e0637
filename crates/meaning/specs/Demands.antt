-- Demands 2 and 3: what the answers of repeated calls are. They are stated of any searches, so that a wrong program can be held to them too
-- (ShutOut.antt), and proved of ours over any tables that agree with the accepted patterns. The proofs stand in ../proofs.
use Rattle.std.specs.Prelude.{◌≡◌, ℕ, ◌*◌, ◌-◌, ◌≤◌, length, take, get_or}
use mathlib.Core.List.{List, map, Memᴰ}
use Rattle.paper.specs.Patterns.{Entry, Choice, longest, first, standard, leftmost, accepted, Filled}
use Rattle.paper.specs.Matches.{with_payloads, overlapping, plain, leftmost_by}
use Rattle.paper.specs.Automaton.{machine, walk, fresh, never, putting_out}
use Rattle.list.specs.Limits.{most_text}
use Rattle.list.specs.Claims.{Bytes}
use Rattle.table.specs.Agrees.{Tables, Agrees}
use Rattle.search.specs.declared.Search.{Search}
use Rattle.search.specs.Values as search
use Rattle.search.specs.Values.{Which, Outcome, gives, ends, refuses, begun}
use Rattle.search.specs.Searches.{next_of}
use Rattle.meaning.specs.Repeated.{answers, said, then_end}

-- the value of a row
abbrev pub value_in : List ℕ → ℕ → ℕ
value_in values row = get_or values row 0

-- the number of a leftmost kind
abbrev pub kind_number : Choice → ℕ
kind_number longest = 1
kind_number first = 2

-- ---- moves

-- the moves of the paper's walk over some bytes
abbrev pub walk_moves : List Entry → List ℕ → ℕ
walk_moves es bytes = (walk (machine standard es) never fresh bytes).moves

-- those of the walk that begins again at root after each match
abbrev pub plain_moves : List Entry → List ℕ → ℕ
plain_moves es bytes = (walk (machine standard es) (putting_out (machine standard es)) fresh bytes).moves

-- leftmost search reports none
abbrev pub no_moves : List ℕ → ℕ
no_moves bytes = 0

-- the value in an answer has taken the bytes up to the match's end, or at the end the whole text, and has made the moves over just these bytes
abbrev pub HasTaken : (List ℕ → ℕ) → List ℕ → Outcome → Type 0
HasTaken moves text (gives m u) = (u.place ≡ m.end) × (u.moves ≡ moves (take m.end text))
HasTaken moves text (ends u) = (u.place ≡ length text) × (u.moves ≡ moves text)
HasTaken moves text (refuses n u) = ⊥

-- with n bytes up to the match's end, or in the whole text, there are at most 2n - 1 moves, none for n = 0
abbrev pub FewMoves : List ℕ → Outcome → Type 0
FewMoves text (gives m u) = (m.end ≤ length text) × (u.moves ≤ 2 * m.end - 1)
FewMoves text (ends u) = u.moves ≤ 2 * length text - 1
FewMoves text (refuses n u) = ⊥

-- ---- the demands

-- of the standard searches of a text, each called again and again from a fresh value; `next` is what they answer on a value
pub record StandardDemands (next : Which → Search → Outcome) (es : List Entry) (values text : List ℕ) : Type 0 where
  -- demand 2: overlapping search gives the overlapping list and then the end: no refusal ever
  pub overlapping_says : (n : ℕ)
      → map said (answers (next search.overlapping) n begun) ≡ then_end n (with_payloads (value_in values) (overlapping es text))
  -- plain search gives the plain list and then the end
  pub plain_says : (n : ℕ) → map said (answers (next search.plain) n begun) ≡ then_end n (with_payloads (value_in values) (plain es text))
  -- demand 3: the moves in every answer of overlapping search are those of the paper's walk over the bytes up to that match, at the end over the whole text
  pub overlapping_moves : (n : ℕ) (o : Outcome) → Memᴰ o (answers (next search.overlapping) n begun) → HasTaken (walk_moves es) text o
  -- in plain search, of the walk that begins again at root after each match
  pub plain_moves_lem : (n : ℕ) (o : Outcome) → Memᴰ o (answers (next search.plain) n begun) → HasTaken (plain_moves es) text o
  -- so they are at most 2n - 1 after n bytes
  pub overlapping_bound : (n : ℕ) (o : Outcome) → Memᴰ o (answers (next search.overlapping) n begun) → FewMoves text o
  pub plain_bound : (n : ℕ) (o : Outcome) → Memᴰ o (answers (next search.plain) n begun) → FewMoves text o

-- of leftmost search of a text
pub record LeftmostDemands (next : Which → Search → Outcome) (c : Choice) (es : List Entry) (values text : List ℕ) : Type 0 where
  -- demand 2: it gives the leftmost list of its kind and then the end
  pub leftmost_says : (n : ℕ)
      → map said (answers (next search.leftmost) n begun) ≡ then_end n (with_payloads (value_in values) (leftmost_by c es text))
  -- the place in every answer, and no moves
  pub leftmost_moves : (n : ℕ) (o : Outcome) → Memᴰ o (answers (next search.leftmost) n begun) → HasTaken no_moves text o

-- what is proved, for a text of bytes within the limit
pub record MeaningClaims : Type 0 where
  -- over tables of kind Standard that agree with a list
  pub standard_holds : (T : Tables) (es : List Entry) (values text : List ℕ) → Agrees T standard es values → Bytes text → length text ≤ most_text
      → StandardDemands (λ w. next_of w T 0 text) es values text
  -- over tables of a leftmost kind that agree with what it accepts of a list
  pub leftmost_holds : (T : Tables) (c : Choice) (ps : List (List ℕ)) (values text : List ℕ) → Filled ps
      → Agrees T (leftmost c) (accepted (leftmost c) ps) values
      → Bytes text
      → length text ≤ most_text
      → LeftmostDemands (λ w. next_of w T (kind_number c) text) c (accepted (leftmost c) ps) values text
