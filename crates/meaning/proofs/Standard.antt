-- Demands 2 and 3 of the standard searches.
use mathlib.Core.List.{List}
use Prim.Native.Nat.{ℕ, ◌≤◌}
use lib.ListN.{length}
use Rattle.paper.specs.Patterns.{Entry, standard}
use Rattle.list.specs.Limits.{most_text}
use Rattle.list.specs.Claims.{Bytes}
use Rattle.table.specs.Agrees.{Tables, Agrees}
use Rattle.search.specs.Searches.{next_of}
use Rattle.meaning.specs.Demands.{StandardDemands}
use Rattle.meaning.proofs.Overlapping as overlapping
use Rattle.meaning.proofs.Plain as plain

-- over tables of kind Standard that agree with a list, for a text of bytes within the limit
pub standard_holds : (T : Tables) (es : List Entry) (values text : List ℕ) → Agrees T standard es values → Bytes text → length text ≤ most_text
    → StandardDemands (λ w. next_of w T 0 text) es values text
standard_holds T es values text A bytes short =
    record {
      overlapping_says = overlapping.says T es values text A bytes short;
      plain_says = plain.says T es values text A bytes short;
      overlapping_moves = overlapping.moves T es values text A bytes short;
      plain_moves_lem = plain.moves T es values text A bytes short;
      overlapping_bound = overlapping.bound T es values text A bytes short;
      plain_bound = plain.bound T es values text A bytes short;
    }
