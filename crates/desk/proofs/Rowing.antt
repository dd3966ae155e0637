-- Laws of what stands before a tabulator.
use mathlib.Core.Path.{◌≡◌, refl, ap}
use mathlib.Core.Bool.{Bool, true, false, ◌&&◌, false≢true}
use mathlib.Core.List.{List, [], ◌∷◌}
use lib.Dec.{eqb}
use Prim.Native.Nat.{ℕ}
use lib.ListN.{length, take, drop}
use Rattle.std.specs.Prelude.{Some, nat_eq}
use Rattle.std.specs.Cmp.Lexicographic.{pointwise}
use Rattle.paper.proofs.Tests.{test, clash}
use Rattle.desk.proofs.Spelling.{nil_of, filled}
use Rattle.desk.specs.Numbers.{number_of}
use Rattle.desk.specs.Rows.{hazard_mark, marked, head_of}

-- ---- what stands before a tabulator

-- the library's test for a mark in front
abbrev begins : List ℕ → Bool
begins head = pointwise nat_eq (take 1 head) (hazard_mark ∷ [])

module _ (k : ℕ) where
  pub head_plain : (head : List ℕ) → begins head ≡ false → marked 0 (number_of head) ≡ head_of k head
  unfolding head_of
  head_plain [] e = refl
  head_plain (b ∷ bs) e = test (eqb b hazard_mark) (λ m. clash (ap (λ (x : Bool). x && true) m) e) (λ m. rw m)

  pub head_mark : (head digits : List ℕ) → begins head ≡ true → digits ≡ drop 1 head → nat_eq (length digits) 0 ≡ true
      → Some (record { mark = 1; value = k }) ≡ head_of k head
  unfolding head_of
  head_mark [] ds e d n = absurd (false≢true e)
  head_mark (b ∷ bs) ds e d n = test (eqb b hazard_mark) (λ m. rw (m, nil_of bs (rw d at n))) (λ m. clash e (ap (λ (x : Bool). x && true) m))

  pub head_valued : (head digits : List ℕ) → begins head ≡ true → digits ≡ drop 1 head → nat_eq (length digits) 0 ≡ false
      → marked 1 (number_of digits) ≡ head_of k head
  unfolding head_of
  head_valued [] ds e d n = absurd (false≢true e)
  head_valued (b ∷ bs) ds e d n =
      let f : ds ≡ bs = d in
      test (eqb b hazard_mark) (λ m. rw (f, m, filled bs (rw f at n))) (λ m. clash e (ap (λ (x : Bool). x && true) m))
