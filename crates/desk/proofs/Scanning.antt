-- Laws of stretches of bytes: what the loops over them keep and end with.
use mathlib.Core.Path.{◌≡◌, refl, sym, ap, ◌∙◌}
use mathlib.Core.Bool.{Bool, true, false, ◌&&◌, false≢true}
use mathlib.Core.List.{List, [], ◌∷◌}
use Prim.Native.Nat.{ℕ, suc, ◌+◌, ◌-◌, ◌≤◌, ◌<◌, min}
use native.Mathlib.Nat.{not-suc-le-zero}
use native.Mathlib.Omega.{arith}
use lib.Dec.{eqb}
use lib.ListN.{length, take, drop, drop_of_length-le, length-drop}
use lib.Seq.{take_all}
use Rattle.paper.specs.Lists.{same}
use Rattle.std.proofs.lemmas.Bool.{ltb-false, ltb-true, ne_eqb}
use Rattle.paper.proofs.Tests.{test, clash}
use Rattle.std.specs.Prelude.{position, unwrap_or, nat_eq, nat_lt, cond, Some, None}
use Rattle.std.specs.List.{position_or_len}
use Rattle.std.specs.Cmp.Lexicographic.{pointwise}
use Rattle.desk.specs.Stretches.{line_feed, ahead, on_first, lines_of}

-- ---- up to a byte

module _ (b : ℕ) where
  ahead_len : (xs : List ℕ) → position_or_len (λ x. nat_eq x b) xs ≡ ahead b xs
  unfolding ahead
  ahead_len [] = refl
  ahead_len (x ∷ xs) = test (eqb x b) (λ e. rw e) (λ e. rw (e, ahead_len xs) (omega arith))

  pub ahead_most : (xs : List ℕ) → ahead b xs ≤ length xs
  unfolding ahead
  ahead_most [] = omega arith
  ahead_most (x ∷ xs) = test (eqb x b) (λ e. rw e (omega arith)) (λ e. rw e (omega (arith, ahead_most xs)))

  pub ahead_position : (xs : List ℕ) → unwrap_or (position (λ x. nat_eq x b) xs) (length xs) ≡ ahead b xs
  ahead_position xs = rw (ahead_len xs) (by (ahead b xs) (length xs) (ahead_most xs)) where
    by : (n m : ℕ) → n ≤ m → unwrap_or (cond (nat_lt n m) (Some n) None) m ≡ n
    by n m l = test (nat_lt n m) (λ e. rw e) (λ e. rw e (omega (arith, l, ltb-false n m e)))

-- ---- the same bytes, by the library's word

pub same_pointwise : (xs ys : List ℕ) → pointwise nat_eq xs ys ≡ same xs ys
unfolding same
same_pointwise [] [] = refl
same_pointwise [] (y ∷ ys) = refl
same_pointwise (x ∷ xs) [] = refl
same_pointwise (x ∷ xs) (y ∷ ys) = ap (λ (rest : Bool). eqb x y && rest) (same_pointwise xs ys)

-- ---- the first line and the others

pub first_line : (xs : List ℕ) → 0 < length xs → lines_of xs ≡ take (ahead line_feed xs) xs ∷ lines_of (drop (suc (ahead line_feed xs)) xs)
unfolding lines_of ahead
first_line [] l = absurd (not-suc-le-zero l)
first_line (x ∷ []) l = test (eqb x line_feed) (λ e. rw e) (λ e. rw e)
first_line (x ∷ y ∷ ys) l =
    let rest : lines_of (y ∷ ys) ≡ take (ahead line_feed (y ∷ ys)) (y ∷ ys) ∷ lines_of (drop (suc (ahead line_feed (y ∷ ys))) (y ∷ ys)) =
    first_line (y ∷ ys) (omega arith) in
    test (eqb x line_feed) (λ e. rw e) (λ e. rw e (ap (on_first x) rest))

pub no_line : (xs : List ℕ) → nat_eq (length xs) 0 ≡ true → lines_of xs ≡ []
unfolding lines_of
no_line [] e = refl
no_line (x ∷ xs) e = clash e (ne_eqb (length (x ∷ xs)) 0 (λ q. omega arith))

-- the first line, and the rest behind its line feed
pub line_and_rest : (xs : List ℕ) (size next : ℕ) → nat_eq (length xs) 0 ≡ false → size ≡ ahead line_feed xs → next ≡ min (size + 1) (length xs)
    → lines_of xs ≡ take size xs ∷ lines_of (take (length xs - next) (drop next xs))
line_and_rest xs size next e s n =
    let full : 0 < length xs = some_bytes xs e in
    let rest : take (length xs - next) (drop next xs) ≡ drop (suc size) xs = test (nat_lt size (length xs)) (λ l. below (ltb-true size (length xs) l)) (λ l. past (ltb-false size (length xs) l)) in
    first_line xs full ∙ rw (← s, rest) refl where
      some_bytes : (ys : List ℕ) → nat_eq (length ys) 0 ≡ false → 0 < length ys
      some_bytes [] h = absurd (false≢true (sym h))
      some_bytes (y ∷ ys) h = omega arith

      whole : (k : ℕ) → take (length xs - k) (drop k xs) ≡ drop k xs
      whole k = take_all (length xs - k) (drop k xs) (omega (arith, length-drop k xs))

      below : size < length xs → take (length xs - next) (drop next xs) ≡ drop (suc size) xs
      below l = let k : next ≡ suc size = omega (arith, n) in rw k (whole (suc size))

      past : length xs ≤ size → take (length xs - next) (drop next xs) ≡ drop (suc size) xs
      past l =
          let k : next ≡ length xs = omega (arith, n) in
          let m : length xs ≤ suc size = omega (arith, l) in
          rw k (whole (length xs) ∙ drop_of_length-le xs (omega arith) ∙ sym (drop_of_length-le xs m))
