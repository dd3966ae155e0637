-- Line and column of a place in a sheet, both from 1.
use Rattle.std.specs.Prelude.{List, [], ◌∷◌, ℕ, suc, eqb, take}
use Rattle.paper.specs.Lists.{pick}
use Rattle.desk.specs.Stretches.{line_feed}

-- n and the line feeds among bytes
unfoldable pub feeds_from : ℕ → List ℕ → ℕ
feeds_from n [] = n
feeds_from n (b ∷ bs) = feeds_from (pick (eqb b line_feed) (suc n) n) bs

-- the bytes behind the last line feed; with n before them where there is none
unfoldable pub since_feed : ℕ → List ℕ → ℕ
since_feed n [] = n
since_feed n (b ∷ bs) = since_feed (pick (eqb b line_feed) 0 (suc n)) bs

-- the line: one more than the line feeds before the place
abbrev pub line_at : List ℕ → ℕ → ℕ
line_at sheet at = suc (feeds_from 0 (take at sheet))

-- the column: one more than the bytes since the last line feed before the place
abbrev pub column_at : List ℕ → ℕ → ℕ
column_at sheet at = suc (since_feed 0 (take at sheet))
