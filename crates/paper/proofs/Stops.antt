-- What the tests of the leftmost kinds say: where stopping strings lie in a string, and which of them its chain puts out first.
use mathlib.Core.Path.{◌≡◌, refl, sym, ap, ◌∙◌, subst}
use mathlib.Core.Bool.{Bool, true, false, not}
use mathlib.Core.List.{List, [], ◌∷◌, ◌++◌, nil≢cons, cons≢nil, head-eq_of_cons-eq}
use mathlib.Core.Logic.{⊎_elim}
use Prim.Native.Nat.{ℕ, zero, suc, ◌+◌, ◌≤◌, ◌<◌}
use native.Mathlib.Nat.{not-suc-le-zero}
use native.Mathlib.Omega.{arith}
use lib.ListN.{length, drop}
use lib.Seq.{drop-nil}
use Rattle.paper.specs.Lists.{pick, prefix, snoc, is_nil}
use Rattle.paper.specs.Patterns.{Entry}
use Rattle.paper.specs.Matches.{occurs}
use Rattle.paper.specs.Automaton.{Machine, longest_state, begins, starts, before}
use Rattle.std.proofs.lemmas.Bool.{or_left, or_right, or_cases}
use Rattle.paper.proofs.Tests.{test, clash}
use Rattle.paper.proofs.Strings.{prefix_refl, prefix_trans, prefix_snoc, prefix_cases, prefix_same, by_snoc}
use Rattle.paper.proofs.Longest.{longest_length}
use Rattle.paper.proofs.Links.{starts_snoc}
use Rattle.paper.proofs.Outputs.{endings}

-- a stopping string begins w
pub record Begun (stops : List ℕ → Bool) (w : List ℕ) : Type 0 where
  pub word : List ℕ
  pub prefixed : prefix word w ≡ true
  pub stopping : stops word ≡ true

module _ (stops : List ℕ → Bool) where
  begun_snoc : (w : List ℕ) (c : ℕ) → (starts stops w ≡ true → Begun stops w) → starts stops (snoc w c) ≡ true → Begun stops (snoc w c)
  begun_snoc w c ih h =
      ⊎_elim
      (λ k. let b = ih k in record { word = b.word; prefixed = prefix_trans b.word w (snoc w c) b.prefixed (prefix_snoc w c); stopping = b.stopping })
      (λ k. record { word = snoc w c; prefixed = prefix_refl (snoc w c); stopping = k })
      (or_cases (starts stops w) (stops (snoc w c)) (sym (starts_snoc stops w c) ∙ h))

  begun_root : starts stops [] ≡ true → Begun stops []
  unfolding begins
  begun_root h = record { word = []; prefixed = prefix_refl []; stopping = h }

  pub starts_begun : (w : List ℕ) → starts stops w ≡ true → Begun stops w
  starts_begun w = by_snoc (λ u. starts stops u ≡ true → Begun stops u) begun_root begun_snoc w

  root_starts : (v : List ℕ) → prefix v [] ≡ true → stops v ≡ true → starts stops [] ≡ true
  unfolding begins
  root_starts v h k = rw (prefix_same v [] h (omega arith)) at k

  pub begun_starts : (w v : List ℕ) → prefix v w ≡ true → stops v ≡ true → starts stops w ≡ true
  begun_starts w v h k =
      by_snoc (λ u. prefix v u ≡ true → starts stops u ≡ true) (λ p. root_starts v p k)
      (λ u c ih p. starts_snoc stops u c ∙
      ⊎_elim (λ q. or_left (starts stops u) (stops (snoc u c)) (ih q))
      (λ q. or_right (starts stops u) (stops (snoc u c)) (subst (λ (l : List ℕ). stops l ≡ true) q k))
      (prefix_cases v u c p))
      w h

-- a stopping string that lies in u and starts before the longest suffix that is a state
pub record Sooner (M : Machine) (u : List ℕ) : Type 0 where
  pub offset : ℕ
  pub word : List ℕ
  pub lies : occurs word u offset ≡ true
  pub stopping : M.stops word ≡ true
  pub sooner : offset + length (longest_state M.is_state u) < length u

module _ (M : Machine) where
  abbrev S : List ℕ → Bool
  S = M.is_state

  -- a suffix that is a state is no longer than the longest
  pub longest_most : (u : List ℕ) (o : ℕ) → S (drop o u) ≡ true → length (drop o u) ≤ length (longest_state S u)
  unfolding longest_state
  longest_most [] o h = rw drop-nil (omega arith)
  longest_most (x ∷ xs) zero h = rw h (omega arith)
  longest_most (x ∷ xs) (suc o) h =
      test (S (x ∷ xs)) (λ e. rw e (omega (arith, longest_most xs o h, longest_length S xs))) (λ e. rw e (longest_most xs o h))

  pub before_sooner : (u : List ℕ) → before S M.stops u ≡ true → Sooner M u
  unfolding before longest_state occurs
  before_sooner [] h = clash refl (sym h)
  before_sooner (x ∷ xs) h =
      test (S (x ∷ xs)) (λ e. clash refl (sym h ∙ rw e))
      (λ e. test (starts M.stops (x ∷ xs))
      (λ q. let b = starts_begun M.stops (x ∷ xs) q in
      record { offset = 0; word = b.word; lies = b.prefixed; stopping = b.stopping; sooner = rw e (omega (arith, longest_length S xs)) })
      (λ q. let r = before_sooner xs (rw (e, q) at h) in
      record { offset = suc r.offset; word = r.word; lies = r.lies; stopping = r.stopping; sooner = rw e (omega (arith, r.sooner)) }))

-- the suffix that puts out first: own outputs there, and no stopping string starts earlier
pub record Leading (M : Machine) (u : List ℕ) (x : Entry) : Type 0 where
  pub offset : ℕ
  pub inside : offset < length u
  pub others : List Entry
  pub own : M.own (drop offset u) ≡ x ∷ others
  pub none_sooner : (o : ℕ) → o < offset → starts M.stops (drop o u) ≡ false

-- a stopping string starts before the suffix at o, at a suffix without own outputs
pub record Covered (M : Machine) (u : List ℕ) (o : ℕ) : Type 0 where
  pub offset : ℕ
  pub sooner : offset < o
  pub starting : starts M.stops (drop offset u) ≡ true
  pub own : M.own (drop offset u) ≡ []

module _ (M : Machine) (stops-own : (s : List ℕ) → M.stops s ≡ not (is_nil (M.own s))) where
  -- what leads in a tail leads in the whole, unless something starts at the whole's head
  leading_tail : (c : ℕ) (u : List ℕ) (x : Entry) → starts M.stops (c ∷ u) ≡ false → Leading M u x → Leading M (c ∷ u) x
  leading_tail c u x h r =
      record { offset = suc r.offset; inside = omega (arith, r.inside); others = r.others; own = r.own; none_sooner = sooner }
    where
      sooner : (o : ℕ) → o < suc r.offset → starts M.stops (drop o (c ∷ u)) ≡ false
      sooner zero k = h
      sooner (suc o) k = r.none_sooner o (omega arith)

  pub endings_leading : (u : List ℕ) (x : Entry) (xs : List Entry) → endings M u ≡ x ∷ xs → Leading M u x
  unfolding endings
  endings_leading [] x xs e = absurd (nil≢cons e)
  endings_leading (c ∷ u) x xs e = go (λ h. endings_leading u x xs h) (M.own (c ∷ u)) refl e
    where
      go : (endings M u ≡ x ∷ xs → Leading M u x) → (l : List Entry) → M.own (c ∷ u) ≡ l
          → l ++ pick (starts M.stops (c ∷ u)) [] (endings M u) ≡ x ∷ xs → Leading M (c ∷ u) x
      go tail [] h k =
          test (starts M.stops (c ∷ u)) (λ q. absurd (nil≢cons (rw q at k))) (λ q. leading_tail c u x q (tail (rw q at k)))
      go tail (y ∷ ys) h k =
          record {
            offset = 0;
            inside = omega arith;
            others = ys;
            own = h ∙ ap (λ (z : Entry). z ∷ ys) (head-eq_of_cons-eq k);
            none_sooner = λ o l. absurd (not-suc-le-zero l);
          }

  covered_tail : (c : ℕ) (u : List ℕ) (o : ℕ) → Covered M u o → Covered M (c ∷ u) (suc o)
  covered_tail c u o r =
      record { offset = suc r.offset; sooner = omega (arith, r.sooner); starting = r.starting; own = r.own }

  -- where nothing is put out, a suffix that is a pattern has a stopping string before it
  pub endings_covered : (u : List ℕ) (o : ℕ) → endings M u ≡ [] → o < length u → M.stops (drop o u) ≡ true → Covered M u o
  unfolding endings
  endings_covered [] o e h k = absurd (not-suc-le-zero h)
  endings_covered (c ∷ u) o e h k = go (λ i l m q. endings_covered u i l m q) (M.own (c ∷ u)) refl o e h k
    where
      go : ((i : ℕ) → endings M u ≡ [] → i < length u → M.stops (drop i u) ≡ true → Covered M u i)
          → (l : List Entry) → M.own (c ∷ u) ≡ l → (i : ℕ) → l ++ pick (starts M.stops (c ∷ u)) [] (endings M u) ≡ []
          → i < suc (length u) → M.stops (drop i (c ∷ u)) ≡ true → Covered M (c ∷ u) i
      go tail (y ∷ ys) q i a b d = absurd (cons≢nil a)
      go tail [] q zero a b d = clash d (stops-own (c ∷ u) ∙ rw q)
      go tail [] q (suc i) a b d =
          test (starts M.stops (c ∷ u))
          (λ s. record { offset = 0; sooner = omega arith; starting = s; own = q })
          (λ s. covered_tail c u i (tail i (rw s at a) (omega arith) d))
