-- The tables of no patterns: root and dead.
use mathlib.Core.Path.{◌≡◌, refl}
use mathlib.Core.Bool.{false}
use mathlib.Core.List.{List, [], ◌∷◌}
use Prim.Native.Nat.{ℕ, zero, suc, ◌≤◌, ◌<◌}
use native.Mathlib.Omega.{arith}
use lib.ListN.{length, get_or}
use Rattle.paper.specs.Lists.{same, snoc, those}
use Rattle.paper.specs.Automaton.{own_of}
use Rattle.std.proofs.lemmas.Bool.{ne_eqb, eq-eqb}
use Rattle.paper.proofs.Strings.{snoc_byte}
use Rattle.list.specs.Limits.{alphabet}
use Rattle.zeros.specs.Rows.{field}
use Rattle.zeros.proofs.Rows.{get_or_zeros}
use Rattle.plan.specs.Names.{has, names_from, root_and_dead, names, Distinct}
use Rattle.trie.specs.Trie.{Slots, slots_of, with_root_and_dead, Least, Trie}
use Rattle.trie.specs.Owned.{Owns}
use Rattle.trie.specs.Made.{Made}
use Rattle.trie.proofs.Growing.{nil_snoc}

module _ (a : ℕ) where
  no_root_child : (d : ℕ) → d < a → has (root_and_dead a) (snoc [] d) ≡ false
  unfolding root_and_dead has same
  no_root_child d h = rw (ne_eqb d a (λ e. omega arith))

  no_dead_child : (d : ℕ) → has (root_and_dead a) (snoc (a ∷ []) d) ≡ false
  unfolding root_and_dead has same
  no_dead_child d = rw (eq-eqb a a refl)

  leaf : (u : List ℕ) (t : ℕ) → t ≡ 0 → ((d : ℕ) → d < a → has (root_and_dead a) (snoc u d) ≡ false) → Least a (root_and_dead a) u 0 t
  leaf u t z h = record { stop = a; low = omega arith; gap = λ d l b. h d b; none = λ e. refl; some = λ nz. absurd (nz z) }

  no_snoc : (k c : ℕ) (u : List ℕ) → k < 2 → c < a → get_or (root_and_dead a) k [] ≡ snoc u c → ⊥
  unfolding root_and_dead
  no_snoc zero c u h b e = nil_snoc u c e
  no_snoc (suc zero) c u h b e = omega (arith, snoc_byte [] u a c e)
  no_snoc (suc (suc k)) c u h b e = omega arith

  two_apart : (i j : ℕ) → i < 2 → j < 2 → get_or (root_and_dead a) i [] ≡ get_or (root_and_dead a) j [] → i ≡ j
  unfolding root_and_dead
  two_apart zero zero p q e = refl
  two_apart zero (suc zero) p q e = cc
  two_apart (suc zero) zero p q e = cc
  two_apart (suc zero) (suc zero) p q e = refl
  two_apart (suc (suc i)) j p q e = absurd (omega arith)
  two_apart zero (suc (suc j)) p q e = absurd (omega arith)
  two_apart (suc zero) (suc (suc j)) p q e = absurd (omega arith)

  module _ (K : Slots) (root : K.first 0 ≡ 0) (dead : K.first 1 ≡ 0) (depth : K.depth 0 ≡ 0) where
    first_at : (s : ℕ) → s < 2 → Least a (root_and_dead a) (get_or (root_and_dead a) s []) 0 (K.first s)
    unfolding root_and_dead
    first_at zero h = leaf [] (K.first 0) root no_root_child
    first_at (suc zero) h = leaf (a ∷ []) (K.first 1) dead (λ d b. no_dead_child d)
    first_at (suc (suc s)) h = absurd (omega arith)

    deep_at : (k : ℕ) → k < 2 → (k ≡ 1 → ⊥) → K.depth k ≡ length (get_or (root_and_dead a) k [])
    unfolding root_and_dead
    deep_at zero h z = depth
    deep_at (suc zero) h z = absurd (z refl)
    deep_at (suc (suc k)) h z = absurd (omega arith)

    trie_start : Trie a K (root_and_dead a)
    unfolding root_and_dead Distinct
    trie_start =
        record {
          two = omega arith;
          root = refl;
          dead = refl;
          distinct = two_apart;
          born = λ k l h. absurd (omega arith);
          child = first_at;
          next = λ k c u h b e. absurd (no_snoc k c u h b e);
          labelled = λ k c u h b e. absurd (no_snoc k c u h b e);
          deep = deep_at;
        }

no_own : (s : List ℕ) → own_of [] s ≡ []
unfolding own_of those
no_own s = refl

-- every field of the first two rows is 0
begun_zero : (rows : List (List ℕ)) (k j : ℕ) → 2 ≤ length rows → k < 2 → field (with_root_and_dead rows) k j ≡ 0
begun_zero [] k j h l = absurd (omega arith)
begun_zero (r ∷ []) k j h l = absurd (omega arith)
begun_zero (r ∷ q ∷ rows) zero j h l = get_or_zeros 5 j
begun_zero (r ∷ q ∷ rows) (suc zero) j h l = get_or_zeros 5 j
begun_zero (r ∷ q ∷ rows) (suc (suc k)) j h l = absurd (omega arith)

pub made_none : (rows : List (List ℕ)) (O : Owns) (room : ℕ) → 2 ≤ length rows → Made (slots_of (with_root_and_dead rows)) O 2 0 room []
unfolding names names_from root_and_dead
made_none rows O room h =
    let zero_at : (k j : ℕ) → k < 2 → field (with_root_and_dead rows) k j ≡ 0 = λ k j l. begun_zero rows k j h l in
    record {
      trie = trie_start alphabet (slots_of (with_root_and_dead rows)) (zero_at 0 0 (omega arith)) (zero_at 1 0 (omega arith)) (zero_at 0 3 (omega arith));
      states_are = refl;
      count_is = refl;
      owned = record { tells = λ k l z. rw (zero_at k 4 l, no_own (get_or (root_and_dead alphabet) k [])); dead = zero_at 1 4 (omega arith) };
      piled = λ r k l z. rw (no_own (get_or (root_and_dead alphabet) k [])) (zero_at k 4 l);
    }
