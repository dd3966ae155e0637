-- The word that ends the options is no other option.
use mathlib.Core.Path.{◌≡◌, refl}
use mathlib.Core.Bool.{Bool, true, false, ◌||◌}
use mathlib.Core.List.{List}
use Prim.Native.Nat.{ℕ}
use Rattle.paper.specs.Lists.{same}
use Rattle.desk.specs.Words.{ends_options, asks_search}

pub kept : (over choosing : Bool) → (true ≡ over || true) × (choosing ≡ choosing || false)
kept true true = (refl, refl)
kept true false = (refl, refl)
kept false true = (refl, refl)
kept false false = (refl, refl)

-- two hyphens end the options, and ask for no search
pub ended : (over choosing : Bool) (word : List ℕ) → word ≡ ends_options
    → (true ≡ over || same word ends_options) × (choosing ≡ choosing || same word asks_search)
unfolding same
ended over choosing word e = rw e (kept over choosing)
