-- What is tested first, by the ways through the code.
use mathlib.Core.Path.{◌≡◌}
use mathlib.Core.Bool.{Bool, true, false, ◌||◌}
use mathlib.Core.Option.{Option, none, some}
use Prim.Native.Nat.{ℕ, ◌≤◌, ◌<◌}
use lib.Dec.{ltb}
use Rattle.std.proofs.lemmas.Bool.{lt-ltb, le-ltb}
use Rattle.list.specs.Limits.{last_kind, most_text}
use Rattle.list.specs.Refusals.{Told, lowest}
use Rattle.table.specs.Agrees.{Tables}
use Rattle.search.specs.declared.Search.{Search}
use Rattle.search.specs.Admission.{other_kind, counts_broken, value_broken, at_first}

-- a refusal by its number
abbrev pub tells : ℕ → Option Told
tells n = some (record { number = n; index = 0 })

module _ (l : Bool) (T : Tables) (kind size : ℕ) (v : Search) where
  pub told_other : other_kind l kind ≡ true → tells 9 ≡ lowest (at_first l T kind size v)
  unfolding lowest
  told_other e = rw e

  pub told_long : other_kind l kind ≡ false → most_text < size → tells 10 ≡ lowest (at_first l T kind size v)
  unfolding lowest
  told_long e h = rw (e, lt-ltb most_text size h)

  pub told_damage : other_kind l kind ≡ false → size ≤ most_text
      → (ltb last_kind kind || (counts_broken T || value_broken T.cells T.accepted size v)) ≡ true
      → tells 11 ≡ lowest (at_first l T kind size v)
  unfolding lowest
  told_damage e h b = rw (e, le-ltb most_text size h, b)

  pub told_none : other_kind l kind ≡ false → size ≤ most_text
      → (ltb last_kind kind || (counts_broken T || value_broken T.cells T.accepted size v)) ≡ false
      → none ≡ lowest (at_first l T kind size v)
  unfolding lowest
  told_none e h b = rw (e, le-ltb most_text size h, b)
