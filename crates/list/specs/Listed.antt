-- The pattern list as it is lent (bytes, one end and one value for each pattern), and refusals 1 to 5 of document 01.
use Rattle.std.specs.Prelude.{Bool, false, not, ◌&&◌, ◌||◌, List, [], ◌∷◌, ℕ, suc, ◌-◌, eqb, leb, ltb, length, take, drop, get_or}
use Rattle.std.proofs.Math.Option.{Option, none, some}
use Rattle.paper.specs.Lists.{pick}
use Rattle.list.specs.Limits.{last_kind, most_listed, most_bytes}
use Rattle.list.specs.Refusals.{Refusal, plainly, naming}

-- ---- the patterns

-- the bytes from a up to the first end, then from there up to the next, and so on
unfoldable pub patterns_from : ℕ → List ℕ → List ℕ → List (List ℕ)
patterns_from a bytes [] = []
patterns_from a bytes (e ∷ es) = take (e - a) (drop a bytes) ∷ patterns_from e bytes es

-- the listed patterns
abbrev pub patterns_of : List ℕ → List ℕ → List (List ℕ)
patterns_of bytes ends = patterns_from 0 bytes ends

-- where pattern i starts: at the end before it, the first at 0
abbrev pub start_of : List ℕ → ℕ → ℕ
start_of ends i = get_or (0 ∷ ends) i 0

-- where pattern i ends
abbrev pub end_of : List ℕ → ℕ → ℕ
end_of ends i = get_or ends i 0

-- ---- the conditions, in the words of document 01's table

-- 1: the kind is above the last
abbrev pub kind_above : ℕ → ℕ → Bool
kind_above last kind = ltb last kind

-- an end is below the one before it; a is before the first
unfoldable pub falls : ℕ → List ℕ → Bool
falls a [] = false
falls a (e ∷ es) = ltb e a || falls e es

-- the last end, a for no patterns
unfoldable pub last_from : ℕ → List ℕ → ℕ
last_from a [] = a
last_from a (e ∷ es) = last_from e es

-- an end is below the one before it, or the last end is not the byte count
abbrev pub ends_wrong : ℕ → ℕ → List ℕ → Bool
ends_wrong a count ends = falls a ends || not (eqb (last_from a ends) count)

-- 2: counts of ends and values differ; or an end is below the one before; or the last end (0 for no patterns) is not the byte count
abbrev pub ends_bad : List ℕ → List ℕ → List ℕ → Bool
ends_bad bytes ends values = not (eqb (length ends) (length values)) || ends_wrong 0 (length bytes) ends

-- 3: more than the most are listed
abbrev pub more_listed : ℕ → List ℕ → Bool
more_listed most ends = ltb most (length ends)

-- 4: a pattern is empty
abbrev pub is_empty : List ℕ → Bool
is_empty p = eqb (length p) 0

-- 5: a pattern exceeds the most bytes
abbrev pub exceeds : ℕ → List ℕ → Bool
exceeds most p = ltb most (length p)

-- a pattern has from least to most bytes
abbrev pub sized : ℕ → ℕ → List ℕ → Bool
sized least most p = leb least (length p) && leb (length p) most

-- an index one further on
abbrev pub further : Option ℕ → Option ℕ
further none = none
further (some i) = some (suc i)

-- the lowest index of an element that passes a test
unfoldable pub first_where : {A : Type 0} → (A → Bool) → List A → Option ℕ
first_where test [] = none
first_where test (x ∷ xs) = pick (test x) (some 0) (further (first_where test xs))

-- ---- the refusals in their order; 4 and 5 name the lowest index

-- document 01's table, 1 to 5
unfoldable pub refusals : ℕ → List ℕ → List ℕ → List ℕ → List Refusal
refusals kind bytes ends values =
    plainly 1 (kind_above last_kind kind)
    ∷ plainly 2 (ends_bad bytes ends values)
    ∷ plainly 3 (more_listed most_listed ends)
    ∷ naming 4 (first_where is_empty (patterns_of bytes ends))
    ∷ naming 5 (first_where (exceeds most_bytes) (patterns_of bytes ends))
    ∷ []
