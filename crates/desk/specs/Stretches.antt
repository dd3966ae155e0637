-- Stretches of bytes: up to a byte, in lines, without the return at their end.
use Rattle.std.specs.Prelude.{List, [], ◌∷◌, ℕ, suc, ◌-◌, eqb, length, take, get_or}
use Rattle.paper.specs.Lists.{pick}

-- ends a line
abbrev pub line_feed : ℕ
line_feed = 10

-- may stand before the line feed
abbrev pub carriage_return : ℕ
carriage_return = 13

-- how many bytes stand before the first b; all of them where there is none
unfoldable pub ahead : ℕ → List ℕ → ℕ
ahead b [] = 0
ahead b (x ∷ xs) = pick (eqb x b) 0 (suc (ahead b xs))

-- a byte in front of the first line; it is a line of its own where there is none
abbrev pub on_first : ℕ → List (List ℕ) → List (List ℕ)
on_first x [] = (x ∷ []) ∷ []
on_first x (l ∷ ls) = (x ∷ l) ∷ ls

-- the lines of a file: a line feed ends one, the last may lack it, and after a final one no further line begins
unfoldable pub lines_of : List ℕ → List (List ℕ)
lines_of [] = []
lines_of (x ∷ xs) = pick (eqb x line_feed) ([] ∷ lines_of xs) (on_first x (lines_of xs))

-- how many bytes a line has without one carriage return at its end
abbrev pub bare_length : List ℕ → ℕ
bare_length line = pick (eqb (get_or line (length line - 1) 0) carriage_return) (length line - 1) (length line)

-- a line without one carriage return at its end
abbrev pub bare : List ℕ → List ℕ
bare line = take (bare_length line) line
