-- The ways out of `List::check`: each gives the lowest refusal of the list.
use mathlib.Core.Path.{◌≡◌, refl}
use mathlib.Core.Bool.{Bool, true, false, not, ◌&&◌}
use mathlib.Core.List.{List, []}
use mathlib.Core.Option.{none, some}
use mathlib.Core.Logic.{◌≢◌}
use Prim.Native.Nat.{ℕ, ◌+◌, ◌≤◌, ◌<◌}
use native.Mathlib.Omega.{arith}
use lib.Dec.{eqb, leb, ltb}
use lib.ListN.{length, drop, get_or}
use Rattle.std.proofs.lemmas.Bool.{eqb-true, eq-eqb, ne_eqb, leb-true, le-leb, ltb-true, lt-ltb, le-ltb, and_from, not-false, and_parts, or_parts}
use Rattle.paper.proofs.Tests.{true_both}
use Rattle.list.specs.Limits.{last_kind, most_listed, most_bytes}
use Rattle.list.specs.Refusals.{lowest}
use Rattle.list.specs.Listed.{patterns_of, falls, last_from, ends_wrong, is_empty, exceeds, sized, first_where, refusals}
use Rattle.list.specs.Answers.{refused}
use Rattle.list.specs.Claims.{SoundEnds}
use Rattle.list.proofs.First.{first_same, first_below}
use Rattle.list.proofs.Patterns.{patterns_length, standing}

-- ---- the two tests of a size are the two conditions

empty_size : (n : ℕ) → eqb n 0 ≡ (leb 0 n && leb n 0)
empty_size n =
    true_both (eqb n 0) (leb 0 n && leb n 0)
    (λ h. let e = eqb-true n 0 h in and_from (leb 0 n) (leb n 0) (le-leb 0 n (omega arith)) (le-leb n 0 (omega arith)))
    (λ h. let l = leb-true n 0 (and_parts (leb 0 n) (leb n 0) h).1 in eq-eqb n 0 (omega arith))

long_size : (most all n : ℕ) → n ≤ all → ltb most n ≡ (leb (most + 1) n && leb n all)
long_size most all n k =
    true_both (ltb most n) (leb (most + 1) n && leb n all)
    (λ h. let l = ltb-true most n h in and_from (leb (most + 1) n) (leb n all) (le-leb (most + 1) n (omega arith)) (le-leb n all k))
    (λ h. let l = leb-true (most + 1) n (and_parts (leb (most + 1) n) (leb n all) h).0 in lt-ltb most n (omega arith))

-- ends that are not wrong are sound
pub ends_sound : (bytes ends : List ℕ) → ends_wrong 0 (length bytes) ends ≡ false → SoundEnds bytes ends
ends_sound bytes ends h =
    let whole : not (eqb (last_from 0 ends) (length bytes)) ≡ false = (or_parts (falls 0 ends) (not (eqb (last_from 0 ends) (length bytes))) h).1 in
    record {
      rising = (or_parts (falls 0 ends) (not (eqb (last_from 0 ends) (length bytes))) h).0;
      whole = eqb-true (last_from 0 ends) (length bytes) (not-false (eqb (last_from 0 ends) (length bytes)) whole);
    }

pub sound_right : (bytes ends : List ℕ) → SoundEnds bytes ends → ends_wrong 0 (length bytes) ends ≡ false
sound_right bytes ends s = rw (s.rising, s.whole, eq-eqb (length bytes) (length bytes) refl)

pub empty_same : (bytes ends : List ℕ) → first_where is_empty (patterns_of bytes ends) ≡ first_where (sized 0 0) (patterns_of bytes ends)
empty_same bytes ends = first_same [] is_empty (sized 0 0) (patterns_of bytes ends) (λ j k. empty_size (length (get_or (patterns_of bytes ends) j [])))

pub long_same : (most : ℕ) (bytes ends : List ℕ) → SoundEnds bytes ends
    → first_where (exceeds most) (patterns_of bytes ends) ≡ first_where (sized (most + 1) (length bytes)) (patterns_of bytes ends)
long_same most bytes ends s =
    first_same [] (exceeds most) (sized (most + 1) (length bytes)) (patterns_of bytes ends)
    (λ j k.
    let l : j < length ends = omega (arith, patterns_length bytes ends) in
    let t = standing bytes ends s j l in
    long_size most (length bytes) (length (get_or (patterns_of bytes ends) j [])) (omega (arith, t.size, t.within)))

-- ---- the ways out

-- refusals 1 to 3 do not apply
pub record Counted (kind : ℕ) (bytes ends values : List ℕ) : Type 0 where
  pub known : kind ≤ last_kind
  pub paired : length ends ≡ length values
  pub right : ends_wrong 0 (length bytes) ends ≡ false
  pub few : length ends ≤ most_listed

module _ (kind : ℕ) (bytes ends values : List ℕ) where
  pub gives_kind : last_kind < kind → refused 1 0 ≡ lowest (refusals kind bytes ends values)
  unfolding lowest refusals
  gives_kind h = simp (lt-ltb last_kind kind h)

  pub gives_counts : kind ≤ last_kind → length ends ≢ length values → refused 2 0 ≡ lowest (refusals kind bytes ends values)
  unfolding lowest refusals
  gives_counts k h = simp (le-ltb last_kind kind k, ne_eqb (length ends) (length values) h)

  pub gives_ends : kind ≤ last_kind → length ends ≡ length values → ends_wrong 0 (length bytes) ends ≡ true
      → refused 2 0 ≡ lowest (refusals kind bytes ends values)
  unfolding lowest refusals
  gives_ends k p h = simp (le-ltb last_kind kind k, eq-eqb (length ends) (length values) p, h)

  pub gives_many : kind ≤ last_kind → length ends ≡ length values → ends_wrong 0 (length bytes) ends ≡ false → most_listed < length ends
      → refused 3 0 ≡ lowest (refusals kind bytes ends values)
  unfolding lowest refusals
  gives_many k p h m = simp (le-ltb last_kind kind k, eq-eqb (length ends) (length values) p, h, lt-ltb most_listed (length ends) m)

  module _ (c : Counted kind bytes ends values) where
    pub sound_ends : SoundEnds bytes ends
    sound_ends = ends_sound bytes ends c.right

    pub index_small : (test : List ℕ → Bool) (i : ℕ) → first_where test (patterns_of bytes ends) ≡ some i → i < most_listed
    index_small test i e = omega (arith, c.few, first_below [] test (patterns_of bytes ends) i e, patterns_length bytes ends)

    -- what is told is what the rest of the list tells
    past_three : lowest (refusals kind bytes ends values) ≡ lowest (drop 3 (refusals kind bytes ends values))
    unfolding lowest refusals
    past_three = simp (le-ltb last_kind kind c.known, eq-eqb (length ends) (length values) c.paired, c.right, le-ltb most_listed (length ends) c.few)

    pub gives_empty : (i : ℕ) → first_where is_empty (patterns_of bytes ends) ≡ some i → refused 4 i ≡ lowest (refusals kind bytes ends values)
    unfolding lowest refusals
    gives_empty i e = rw (past_three, e)

    pub gives_long : (i : ℕ) → first_where is_empty (patterns_of bytes ends) ≡ none → first_where (exceeds most_bytes) (patterns_of bytes ends) ≡ some i
        → refused 5 i ≡ lowest (refusals kind bytes ends values)
    unfolding lowest refusals
    gives_long i n e = rw (past_three, n, e)

    pub gives_fine : first_where is_empty (patterns_of bytes ends) ≡ none → first_where (exceeds most_bytes) (patterns_of bytes ends) ≡ none
        → none ≡ lowest (refusals kind bytes ends values)
    unfolding lowest refusals
    gives_fine n e = rw (past_three, n, e)
