-- Refusals in the order in which they are tried. The order is that of a list, and nothing else says it.
use Rattle.std.specs.Prelude.{◌≡◌, Bool, true, false, not, ◌&&◌, ◌||◌, List, [], ◌∷◌, ℕ, eqb, take, get_or}
use Rattle.std.proofs.Math.Option
use Rattle.std.proofs.Math.Option.{Option, none, some}
use Rattle.paper.specs.Lists.{pick}

-- an entry of document 01's table: its number, whether it applies, and the index that it names, 0 where it names none
pub record Refusal : Type 0 where
  pub number : ℕ
  pub holds : Bool
  pub index : ℕ

-- what an answer tells of a refusal: its number and its index
pub record Told : Type 0 where
  pub number : ℕ
  pub index : ℕ

-- what is told of an entry
abbrev pub tells : Refusal → Told
tells r = record { number = r.number; index = r.index }

-- an index was found
abbrev pub is_found : Option ℕ → Bool
is_found none = false
is_found (some i) = true

-- an entry that names no index
abbrev pub plainly : ℕ → Bool → Refusal
plainly n holds = record { number = n; holds = holds; index = 0 }

-- an entry that applies where an index is found, and names it
abbrev pub naming : ℕ → Option ℕ → Refusal
naming n found = record { number = n; holds = is_found found; index = Option.get_or found 0 }

-- the lowest refusal that applies: the first entry of the list whose condition holds
unfoldable pub lowest : List Refusal → Option Told
lowest [] = none
lowest (r ∷ rs) = pick r.holds (some (tells r)) (lowest rs)

-- the condition of an entry holds
unfoldable pub any_holds : List Refusal → Bool
any_holds [] = false
any_holds (r ∷ rs) = r.holds || any_holds rs

-- no entry has the number n
unfoldable pub without : ℕ → List Refusal → Bool
without n [] = true
without n (r ∷ rs) = not (eqb r.number n) && without n rs

-- no two entries have one number
unfoldable pub distinct : List Refusal → Bool
distinct [] = true
distinct (r ∷ rs) = without r.number rs && distinct rs

-- entry k of a list, one that never applies past the end
abbrev pub entry : List Refusal → ℕ → Refusal
entry rs k = get_or rs k (plainly 0 false)

-- entry k is told exactly when its condition holds and that of no entry before it does
pub record Exactly (rs : List Refusal) (k : ℕ) : Type 0 where
  pub when : (entry rs k).holds ≡ true → any_holds (take k rs) ≡ false → lowest rs ≡ some (tells (entry rs k))
  pub only : (i : ℕ) → lowest rs ≡ some (record { number = (entry rs k).number; index = i })
      → ((entry rs k).holds ≡ true) × (any_holds (take k rs) ≡ false) × (i ≡ (entry rs k).index)
