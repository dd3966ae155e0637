-- What is tested first in each call.
use Rattle.std.specs.Prelude.{Bool, true, false, not, ◌&&◌, ◌||◌, List, [], ◌∷◌, ℕ, ◌*◌, eqb, leb, ltb, length, Result, Ok, Err}
use Rattle.std.proofs.Math.Option.{Option, none, some}
use Rattle.list.specs.Limits.{last_kind, most_text}
use Rattle.list.specs.Refusals.{Refusal, Told, plainly}
use Rattle.table.specs.Slots.{column_slots}
use Rattle.table.specs.Agrees.{Tables}
use Rattle.search.specs.declared.Search.{Search}
use Rattle.search.specs.declared.Refusal as declared
use Rattle.search.specs.Values.{number}

-- the kind is one that another search is for: a leftmost kind for the standard searches, Standard for leftmost search
abbrev pub other_kind : Bool → ℕ → Bool
other_kind true kind = eqb kind 0
other_kind false kind = not (eqb kind 0) && leb kind last_kind

-- the slots of the cells
abbrev pub cell_slots : Tables → ℕ
cell_slots T = column_slots (length T.base) (length T.link) (length T.output) (length T.check) (length T.depth)

-- the counts are above the slots: the accepted patterns above those of the outputs, or the cells above those of the cells
abbrev pub counts_broken : Tables → Bool
counts_broken T = ltb (length T.outs) T.accepted || ltb (cell_slots T) T.cells

-- the value has a state at or past the cells, an output place past the outputs, a place past the text, or moves above twice its place
abbrev pub value_broken : ℕ → ℕ → ℕ → Search → Bool
value_broken cells accepted size v =
    leb cells v.state.0 || (ltb accepted v.output || (ltb size v.place || ltb (2 * v.place) v.moves))

-- the refusals that show before the walk, in their order: for a kind, a text of that many bytes, and a value
abbrev pub at_first : Bool → Tables → ℕ → ℕ → Search → List Refusal
at_first leftmost T kind size v =
    plainly 9 (other_kind leftmost kind)
    ∷ plainly 10 (ltb most_text size)
    ∷ plainly 11 (ltb last_kind kind || (counts_broken T || value_broken T.cells T.accepted size v))
    ∷ []

-- what an admission tells
abbrev pub told : Result (Unit {0}) declared.Refusal → Option Told
told (Ok _) = none
told (Err why) = some (record { number = number why; index = 0 })
