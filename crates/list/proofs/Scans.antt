-- What the loops over the ends keep and what they end with.
use mathlib.Core.Path.{◌≡◌, refl, sym, ap, ◌∙◌}
use mathlib.Core.Bool.{Bool, true, false, not, ◌&&◌}
use mathlib.Core.List.{List, []}
use mathlib.Core.Option.{none, some}
use Prim.Native.Nat.{ℕ, zero, suc, ◌+◌, ◌-◌, ◌≤◌, ◌<◌}
use native.Mathlib.Numerals.{add-one, unary_clauses}
use native.Mathlib.Omega.{arith}
use lib.Dec.{eqb, leb}
use lib.ListN.{length, drop, get_or, drop_of_length-le}
use lib.Seq.{drop-cons}
use Rattle.std.proofs.lemmas.Bool.{lt-ltb, le-ltb}
use Rattle.list.specs.Listed.{patterns_of, start_of, end_of, falls, last_from, ends_wrong, sized, first_where}
use Rattle.list.specs.Claims.{SoundEnds}
use Rattle.list.proofs.First.{first_only}
use Rattle.list.proofs.Patterns.{patterns_length, standing}

-- ---- the start of a pattern after the first

pub start_before : (ends : List ℕ) (i : ℕ) → (i ≡ 0 → ⊥) → end_of ends (i - 1) ≡ start_of ends i
start_before ends zero h = absurd (h refl)
start_before ends (suc i) h = simp unary_clauses

-- ---- `ends_wrong` of the ends that are left, where e is the next of them

module _ (count previous : ℕ) (ends : List ℕ) (i e : ℕ) (inside : i < length ends) (next : e ≡ end_of ends i) where
  pub wrong_here : e < previous → ends_wrong previous count (drop i ends) ≡ true
  unfolding falls
  wrong_here h = rw (drop-cons ends i 0 inside, ← next, lt-ltb e previous h)

  pub wrong_next : previous ≤ e → ends_wrong e count (drop (i + 1) ends) ≡ ends_wrong previous count (drop i ends)
  unfolding falls last_from
  wrong_next h = rw (add-one i, drop-cons ends i 0 inside, ← next, le-ltb e previous h)

pub wrong_last : (count previous : ℕ) (ends : List ℕ) (i : ℕ) → length ends ≤ i → ends_wrong previous count (drop i ends) ≡ not (eqb previous count)
unfolding falls last_from
wrong_last count previous ends i l = rw (drop_of_length-le ends l)

-- ---- the first pattern with from least to most bytes

-- a number lies from least to most
abbrev pub fits : ℕ → ℕ → ℕ → Bool
fits least most n = leb least n && leb n most

-- the bytes of pattern i, by its start and end
abbrev pub size_at : List ℕ → ℕ → ℕ
size_at ends i = end_of ends i - start_of ends i

module _ (least most : ℕ) (ends : List ℕ) where
  sized_is : (bytes : List ℕ) → SoundEnds bytes ends → (i : ℕ) → i < length ends
      → fits least most (size_at ends i) ≡ sized least most (get_or (patterns_of bytes ends) i [])
  sized_is bytes s i l = ap (λ (n : ℕ). fits least most n) (sym (standing bytes ends s i l).size)

  -- what a test of the size said, by the start and the end that were read
  pub tested : (i s e : ℕ) (b : Bool) → e ≡ end_of ends i → s ≡ start_of ends i → fits least most (e - s) ≡ b → fits least most (size_at ends i) ≡ b
  tested i s e b p q h = rw (← p, ← q) h

  -- no pattern before i is of the size
  abbrev pub Passed : ℕ → Type 0
  Passed i = (j : ℕ) → j < i → fits least most (size_at ends j) ≡ false

  pub sized_found : (i : ℕ) → i < length ends → fits least most (size_at ends i) ≡ true → Passed i → (bytes : List ℕ) → SoundEnds bytes ends
      → some i ≡ first_where (sized least most) (patterns_of bytes ends)
  sized_found i l h p bytes s =
      first_only [] (sized least most) (patterns_of bytes ends) (some i)
      (omega (arith, patterns_length bytes ends), sym (sized_is bytes s i l) ∙ h, λ j k. sym (sized_is bytes s j (omega arith)) ∙ p j k)

  pub sized_missing : (i : ℕ) → length ends ≤ i → Passed i → (bytes : List ℕ) → SoundEnds bytes ends
      → none ≡ first_where (sized least most) (patterns_of bytes ends)
  sized_missing i l p bytes s =
      first_only [] (sized least most) (patterns_of bytes ends) none
      (λ j k. let m : j < length ends = omega (arith, patterns_length bytes ends) in sym (sized_is bytes s j m) ∙ p j (omega arith))
