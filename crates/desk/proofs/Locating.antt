-- Laws of line and column.
use mathlib.Core.Path.{◌≡◌, refl, ap, ◌∙◌}
use mathlib.Core.List.{List, [], ◌∷◌, ◌++◌}
use Prim.Native.Nat.{ℕ, suc, ◌+◌, ◌≤◌, ◌<◌}
use native.Mathlib.Numerals.{add-one}
use native.Mathlib.Omega.{arith}
use lib.Dec.{eqb}
use lib.ListN.{length, take, get_or}
use lib.Seq.{take-suc, length-take-le}
use Rattle.paper.specs.Lists.{pick}
use Rattle.std.proofs.lemmas.Bool.{eq-eqb, ne_eqb}
use Rattle.paper.proofs.Tests.{test}
use Rattle.desk.specs.Stretches.{line_feed}
use Rattle.desk.specs.Places.{feeds_from, since_feed, line_at, column_at}

-- ---- one byte more

feeds_last : (n : ℕ) (xs : List ℕ) (b : ℕ) → feeds_from n (xs ++ (b ∷ [])) ≡ pick (eqb b line_feed) (suc (feeds_from n xs)) (feeds_from n xs)
unfolding feeds_from
feeds_last n [] b = refl
feeds_last n (x ∷ xs) b = feeds_last (pick (eqb x line_feed) (suc n) n) xs b

since_last : (n : ℕ) (xs : List ℕ) (b : ℕ) → since_feed n (xs ++ (b ∷ [])) ≡ pick (eqb b line_feed) 0 (suc (since_feed n xs))
unfolding since_feed
since_last n [] b = refl
since_last n (x ∷ xs) b = since_last (pick (eqb x line_feed) 0 (suc n)) xs b

-- ---- neither is more than the bytes

feeds_most : (n : ℕ) (xs : List ℕ) → feeds_from n xs ≤ n + length xs
unfolding feeds_from
feeds_most n [] = omega arith
feeds_most n (x ∷ xs) = test (eqb x line_feed) (λ e. rw e (omega (arith, feeds_most (suc n) xs))) (λ e. rw e (omega (arith, feeds_most n xs)))

since_most : (n : ℕ) (xs : List ℕ) → since_feed n xs ≤ n + length xs
unfolding since_feed
since_most n [] = omega arith
since_most n (x ∷ xs) = test (eqb x line_feed) (λ e. rw e (omega (arith, since_most 0 xs))) (λ e. rw e (omega (arith, since_most (suc n) xs)))

-- ---- the first place, and the next

pub line_first : (sheet : List ℕ) → 1 ≡ line_at sheet 0
unfolding feeds_from
line_first sheet = refl

pub column_first : (sheet : List ℕ) → 1 ≡ column_at sheet 0
unfolding since_feed
column_first sheet = refl

module _ (sheet : List ℕ) (at : ℕ) (inside : at < length sheet) where
  one_more : take (at + 1) sheet ≡ take at sheet ++ (get_or sheet at 0 ∷ [])
  one_more = rw (add-one at) (take-suc sheet at 0 inside)

  size_before : length (take at sheet) ≡ at
  size_before = length-take-le at sheet (omega (arith, inside))

  module _ (line : ℕ) (is : line ≡ line_at sheet at) where
    pub line_most : line ≤ length sheet
    line_most = omega (arith, is, feeds_most 0 (take at sheet), size_before, inside)

    pub line_feed_next : get_or sheet at 0 ≡ line_feed → line + 1 ≡ line_at sheet (at + 1)
    line_feed_next f = rw (one_more, feeds_last 0 (take at sheet) (get_or sheet at 0), eq-eqb (get_or sheet at 0) line_feed f) (add-one line ∙ ap suc is)

    pub line_byte_next : (get_or sheet at 0 ≡ line_feed → ⊥) → line ≡ line_at sheet (at + 1)
    line_byte_next f = rw (one_more, feeds_last 0 (take at sheet) (get_or sheet at 0), ne_eqb (get_or sheet at 0) line_feed f) is

  module _ (column : ℕ) (is : column ≡ column_at sheet at) where
    pub column_most : column ≤ length sheet
    column_most = omega (arith, is, since_most 0 (take at sheet), size_before, inside)

    pub column_byte_next : (get_or sheet at 0 ≡ line_feed → ⊥) → column + 1 ≡ column_at sheet (at + 1)
    column_byte_next f = rw (one_more, since_last 0 (take at sheet) (get_or sheet at 0), ne_eqb (get_or sheet at 0) line_feed f) (add-one column ∙ ap suc is)

  pub column_feed_next : get_or sheet at 0 ≡ line_feed → 1 ≡ column_at sheet (at + 1)
  column_feed_next f = rw (one_more, since_last 0 (take at sheet) (get_or sheet at 0), eq-eqb (get_or sheet at 0) line_feed f)
