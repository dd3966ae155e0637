-- The numbers of document 01. Every other file has them from here; src/limits.rt has the same for the code.
use Rattle.std.specs.Prelude.{ℕ, ltb}
use Rattle.paper.specs.Lists.{pick}

-- the highest kind: 0 is Standard, 1 LeftmostLongest, 2 LeftmostFirst
abbrev pub last_kind : ℕ
last_kind = 2

-- the values of a byte
abbrev pub alphabet : ℕ
alphabet = 256

-- the most listed patterns
abbrev pub most_listed : ℕ
most_listed = 1024

-- the most bytes of a pattern
abbrev pub most_bytes : ℕ
most_bytes = 64

-- the most cells
abbrev pub most_cells : ℕ
most_cells = 65536

-- the most bytes of a text
abbrev pub most_text : ℕ
most_text = 65536

-- the cells of a block
abbrev pub block : ℕ
block = 256

-- the blocks, counted from the last, in which a place is looked for
abbrev pub window_blocks : ℕ
window_blocks = 16

-- the smaller of two: where slots lie in several slices, the shortest counts
abbrev pub smaller : ℕ → ℕ → ℕ
smaller a b = pick (ltb a b) a b
