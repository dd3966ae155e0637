-- Laws of lines: what fits of a part, and lines without control bytes.
use mathlib.Core.Path.{◌≡◌, sym, ap, ◌∙◌}
use mathlib.Core.Bool.{false}
use mathlib.Core.List.{List, [], ◌++◌, append_assoc, append-nil}
use Prim.Native.Nat.{ℕ, ◌≤◌, ◌<◌, ◌+◌, ◌-◌, min}
use native.Mathlib.Omega.{arith}
use lib.ListN.{length, take, drop}
use Rattle.std.proofs.Math.Seq.{take-append-add}
use Rattle.std.proofs.lemmas.List.{take_min, take-take, take-append-drop, ext_get_or, length-take-le, length-drop, get_or-take, get_or-drop}
use Rattle.std.proofs.lemmas.List.Elements.{All-append, All-from_get_or}
use Rattle.desk.specs.Shown.{is_control, Clean, CleanFrom}

-- the front of a part that fits where n bytes may stand
pub front_fits : (xs ys : List ℕ) (n k : ℕ) → length xs ≤ n → k ≡ min (length ys) (n - length xs) → xs ++ take k ys ≡ take n (xs ++ ys)
front_fits xs ys n k le e =
    let fits : k ≡ min (n - length xs) (length ys) = omega (arith, e) in
    let all : length xs + (n - length xs) ≡ n = omega (arith, le) in
    ap (λ (j : ℕ). xs ++ take j ys) fits
    ∙ ap (λ (zs : List ℕ). xs ++ zs) (take_min (n - length xs) ys)
    ∙ sym (take-append-add xs ys (n - length xs))
    ∙ ap (λ (m : ℕ). take m (xs ++ ys)) all

-- nothing put
pub clean_none : (line : List ℕ) → Clean line line
clean_none line = record { shown = []; goes_on = sym (append-nil line); clean = λ k d l. absurd (omega arith) }

-- one part after the other
pub clean_both : (x y z : List ℕ) → Clean x y → Clean y z → Clean x z
clean_both x y z p q =
    record {
      shown = p.shown ++ q.shown;
      goes_on = q.goes_on ∙ (rw (p.goes_on) (append_assoc x p.shown q.shown));
      clean = All-append (λ (b : ℕ). is_control b ≡ false) p.shown q.shown p.clean q.clean;
    }

-- what a line holds up to where it ends now goes on, by no control byte, from what it held up to where it ended then
pub clean_front : (x y : List ℕ) (a b : ℕ) → a ≤ length x → b ≤ length y → CleanFrom x y a b → Clean (take a x) (take b y)
clean_front x y a b l m c =
    let kept : take a y ≡ take a x = ext_get_or 0 _ _ (grind (arith, length-take-le)) (λ k n. grind (arith, get_or-take, length-take-le, c.kept)) in
    let shown = drop a (take b y) in
    record {
      shown = shown;
      goes_on = sym (take-append-drop a (take b y)) ∙ ap (λ (front : List ℕ). front ++ shown) (take-take a b y c.grown ∙ kept);
      clean = All-from_get_or (λ (z : ℕ). is_control z ≡ false) shown 0 (λ k n.
          let within : a + k < b = omega (arith, length-drop a (take b y), length-take-le b y m) in
          rw (get_or-drop, get_or-take) (c.clean (a + k) (omega arith) within));
    }
