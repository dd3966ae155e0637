-- When a match is a hazard.
use Rattle.std.specs.Prelude.{Bool, false, ◌&&◌, ◌||◌, List, [], ◌∷◌, ℕ, eqb}
use Rattle.paper.specs.Lists.{same}
use Rattle.desk.specs.Rows.{Listed}

-- the bytes are those of a marked row: of a code whose mark is 1
unfoldable pub hazard : List (List ℕ) → List ℕ → List ℕ → Bool
hazard [] marks bytes = false
hazard (p ∷ ps) [] bytes = false
hazard (p ∷ ps) (m ∷ ms) bytes = (eqb m 1 && same p bytes) || hazard ps ms bytes

-- a row is marked and has these bytes
unfoldable pub warned : List Listed → List ℕ → Bool
warned [] bytes = false
warned (r ∷ rs) bytes = (eqb r.mark 1 && same r.code bytes) || warned rs bytes
