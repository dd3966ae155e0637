-- Laws of the number that digits spell.
use mathlib.Core.Path.{◌≡◌, refl, sym, ◌∙◌}
use mathlib.Core.Bool.{Bool, true, false, not, ◌&&◌}
use mathlib.Core.List.{List, [], ◌∷◌}
use Prim.Native.Nat.{ℕ, ◌+◌, ◌-◌, ◌*◌, ◌≤◌, ◌<◌}
use native.Mathlib.Numerals.{add-one}
use native.Mathlib.Omega.{arith}
use lib.Dec.{leb}
use lib.ListN.{length, drop, get_or, drop_of_length-le}
use lib.Seq.{drop-cons}
use Rattle.std.specs.Prelude.{Some, None, nat_eq}
use Rattle.paper.specs.Lists.{pick, is_nil}
use Rattle.std.proofs.lemmas.Bool.{ne_eqb, le-leb, lt-leb}
use Rattle.paper.proofs.Tests.{clash}
use Rattle.desk.specs.Numbers.{most_value, is_digit, all_digits, decimal_from, number_of}

-- further digits make a number no smaller
pub grows : (n : ℕ) (bs : List ℕ) → n ≤ decimal_from n bs
unfolding decimal_from
grows n [] = omega arith
grows n (b ∷ bs) = omega (arith, grows (n * 10 + (b - 48)) bs)

-- ---- the digits that are left from i on

module _ (bs : List ℕ) (i : ℕ) where
  pub digits_not : i < length bs → is_digit (get_or bs i 0) ≡ false → all_digits (drop i bs) ≡ false
  unfolding all_digits
  digits_not l e = rw (drop-cons bs i 0 l, e)

  pub digits_next : i < length bs → is_digit (get_or bs i 0) ≡ true → all_digits (drop (i + 1) bs) ≡ all_digits (drop i bs)
  unfolding all_digits
  digits_next l e = rw (add-one i, drop-cons bs i 0 l, e)

  pub digits_end : length bs ≤ i → all_digits (drop i bs) ≡ true
  unfolding all_digits
  digits_end l = rw (drop_of_length-le bs l)

  pub decimal_next : (n : ℕ) → i < length bs → decimal_from (n * 10 + (get_or bs i 0 - 48)) (drop (i + 1) bs) ≡ decimal_from n (drop i bs)
  unfolding decimal_from
  decimal_next n l = rw (add-one i, drop-cons bs i 0 l)

  pub decimal_end : (n : ℕ) → length bs ≤ i → decimal_from n (drop i bs) ≡ n
  unfolding decimal_from
  decimal_end n l = rw (drop_of_length-le bs l)

-- ---- the ways out

never_first : (a b : Bool) (n : ℕ) → pick (a && (false && b)) (Some n) None ≡ None
never_first true b n = refl
never_first false b n = refl

never_last : (a b : Bool) (n : ℕ) → pick (a && (b && false)) (Some n) None ≡ None
never_last true true n = refl
never_last true false n = refl
never_last false b n = refl

pub nil_of : (bs : List ℕ) → nat_eq (length bs) 0 ≡ true → is_nil bs ≡ true
nil_of [] e = refl
nil_of (b ∷ bs) e = clash e (ne_eqb (length (b ∷ bs)) 0 (λ q. omega arith))

pub filled : (bs : List ℕ) → nat_eq (length bs) 0 ≡ false → is_nil bs ≡ false
filled [] e = e
filled (b ∷ bs) e = refl

module _ (bs : List ℕ) where
  pub no_digits : all_digits bs ≡ false → None ≡ number_of bs
  no_digits e = rw e (sym (never_first (not (is_nil bs)) (leb (decimal_from 0 bs) most_value) (decimal_from 0 bs)))

  pub too_large : most_value < decimal_from 0 bs → None ≡ number_of bs
  too_large l = rw (lt-leb (decimal_from 0 bs) most_value l) (sym (never_last (not (is_nil bs)) (all_digits bs) (decimal_from 0 bs)))

  pub a_number : (n : ℕ) → nat_eq (length bs) 0 ≡ false → all_digits bs ≡ true → decimal_from 0 bs ≡ n → n ≤ most_value → Some n ≡ number_of bs
  a_number n h a e l = rw (filled bs h, a, e, le-leb n most_value l)

-- one digit more makes the number too large: so it is with all of them
pub grown_large : (bs : List ℕ) (i n : ℕ) → i < length bs → decimal_from n (drop i bs) ≡ decimal_from 0 bs
    → most_value < n * 10 + (get_or bs i 0 - 48) → None ≡ number_of bs
grown_large bs i n l same h =
    let g : n * 10 + (get_or bs i 0 - 48) ≤ decimal_from (n * 10 + (get_or bs i 0 - 48)) (drop (i + 1) bs) = grows (n * 10 + (get_or bs i 0 - 48)) (drop (i + 1) bs) in
    let s : decimal_from (n * 10 + (get_or bs i 0 - 48)) (drop (i + 1) bs) ≡ decimal_from 0 bs = decimal_next bs i n l ∙ same in
    too_large bs (omega (arith, g, s))
