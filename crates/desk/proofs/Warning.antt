-- Laws of hazards.
use mathlib.Core.Path.{◌≡◌, refl, ap}
use mathlib.Core.Bool.{Bool, true, false, ◌&&◌}
use mathlib.Core.List.{List, [], ◌∷◌}
use Prim.Native.Nat.{ℕ, ◌+◌, ◌-◌, ◌≤◌, ◌<◌}
use native.Mathlib.Numerals.{add-one}
use native.Mathlib.Omega.{arith}
use lib.Dec.{eqb}
use lib.ListN.{length, take, drop, get_or, drop_of_length-le}
use lib.Seq.{drop-cons}
use Rattle.paper.specs.Lists.{same}
use Rattle.list.specs.Listed.{patterns_of, start_of, end_of}
use Rattle.list.specs.Claims.{SoundEnds}
use Rattle.list.proofs.Patterns.{standing}
use Rattle.desk.specs.Hazards.{hazard}

-- ---- the code of a row, read by its start and end

module _ (bytes ends code : List ℕ) (i start end : ℕ) (s : start ≡ start_of ends i) (e : end ≡ end_of ends i) (l : i < length ends) where
  pub row_part : SoundEnds bytes ends → same (take (end - start) (drop start bytes)) code ≡ same (get_or (patterns_of bytes ends) i []) code
  row_part h = rw (s, e) (ap (λ (p : List ℕ). same p code) (standing bytes ends h i l).part)

  pub row_ordered : SoundEnds bytes ends → start ≤ end
  row_ordered h = omega (arith, (standing bytes ends h i l).ordered)

  pub row_within : SoundEnds bytes ends → end ≤ length bytes
  row_within h = omega (arith, (standing bytes ends h i l).within)

-- ---- the rows that are left from i on

module _ (ps : List (List ℕ)) (marks code : List ℕ) (i : ℕ) where
  pub hazard_here : i < length ps → i < length marks → (w : Bool) → w ≡ (eqb (get_or marks i 0) 1 && same (get_or ps i []) code) → w ≡ true
      → hazard (drop i ps) (drop i marks) code ≡ true
  unfolding hazard
  hazard_here l m w e t = rw (drop-cons ps i [] l, drop-cons marks i 0 m, ← e, t)

  pub hazard_next : i < length ps → i < length marks → (w : Bool) → w ≡ (eqb (get_or marks i 0) 1 && same (get_or ps i []) code) → w ≡ false
      → hazard (drop (i + 1) ps) (drop (i + 1) marks) code ≡ hazard (drop i ps) (drop i marks) code
  unfolding hazard
  hazard_next l m w e t = rw (add-one i, drop-cons ps i [] l, drop-cons marks i 0 m, ← e, t)

  pub hazard_ends : length ps ≤ i → hazard (drop i ps) (drop i marks) code ≡ false
  unfolding hazard
  hazard_ends l = rw (drop_of_length-le ps l)

without_marks : (ps : List (List ℕ)) (code : List ℕ) → hazard ps [] code ≡ false
unfolding hazard
without_marks [] code = refl
without_marks (p ∷ ps) code = refl

pub hazard_unmarked : (ps : List (List ℕ)) (marks code : List ℕ) (i : ℕ) → length marks ≤ i → hazard (drop i ps) (drop i marks) code ≡ false
hazard_unmarked ps marks code i l = rw (drop_of_length-le marks l) (without_marks (drop i ps) code)
