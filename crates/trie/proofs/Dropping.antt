-- When a pattern is dropped: the walk down the trie meets an own output before its last byte exactly if an entry is a proper prefix of it.
use mathlib.Core.Path.{◌≡◌, refl, sym, ap, ◌∙◌, subst}
use mathlib.Core.Bool.{true, false, not}
use mathlib.Core.List.Memᴰ
use mathlib.Core.List.{List, [], ◌∷◌, Memᴰ}
use mathlib.Core.Logic.{⊎_elim}
use Prim.Native.Nat.{ℕ, suc, ◌+◌, ◌<◌}
use native.Mathlib.Decide.{dec_lt}
use native.Mathlib.Numerals.{add-one}
use native.Mathlib.Omega.{arith}
use lib.Dec.{ltb}
use lib.ListN.{length, get_or, take, drop, take-append-drop}
use lib.Seq.{take-suc, length-take-le}
use Rattle.paper.specs.Lists.{prefix, snoc, is_nil}
use Rattle.paper.specs.Patterns.{Entry, barred, proper_prefix}
use Rattle.paper.specs.Automaton.{is_state, own_of}
use Rattle.std.proofs.lemmas.Bool.{false_from_ne_true, or_left, or_right, and_from, lt-ltb, ltb-true, ne_eqb, and_parts}
use Rattle.paper.proofs.Tests.{clash}
use Rattle.paper.proofs.Strings.{prefix_append, prefix_of, prefix_same, prefix_length, snoc_is}
use Rattle.paper.proofs.Leftmost.{own_entry, own_some, to_own, entry_state}
use Rattle.plan.specs.Names.{has}
use Rattle.trie.specs.Trie.{Slots, Kid, Trie}
use Rattle.trie.specs.Owned.{Owned, Covers}

-- ---- barred, by members

pub barred_in : (es : List Entry) (q : List ℕ) (x : Entry) → Memᴰ x es → proper_prefix x.word q ≡ true → barred es q ≡ true
unfolding barred
barred_in [] q x m h = absurd (Memᴰ.not-nil m)
barred_in (y ∷ es) q x m h =
    ⊎_elim (λ e. or_left (proper_prefix y.word q) (barred es q) (subst (λ (z : Entry). proper_prefix z.word q ≡ true) e h))
    (λ k. or_right (proper_prefix y.word q) (barred es q) (barred_in es q x k h))
    (Memᴰ.cases_cons m)

pub barred_out : (es : List Entry) (q : List ℕ) → ((x : Entry) → Memᴰ x es → proper_prefix x.word q ≡ true → ⊥) → barred es q ≡ false
unfolding barred
barred_out [] q h = refl
barred_out (y ∷ es) q h =
    rw (false_from_ne_true (proper_prefix y.word q) (λ e. h y (Memᴰ.head refl) e)) (barred_out es q (λ x m e. h x (Memᴰ.tail m) e))

-- ---- prefixes by length

take_prefix : (w : List ℕ) (i : ℕ) → prefix (take i w) w ≡ true
take_prefix w i = subst (λ (l : List ℕ). prefix (take i w) l ≡ true) (take-append-drop i w) (prefix_append (take i w) (drop i w))

-- a prefix is what its length takes
prefix_take : (p w : List ℕ) → prefix p w ≡ true → p ≡ take (length p) w
prefix_take p w h =
    let l = length-take-le (length p) w (prefix_length p w h) in
    prefix_same p (take (length p) w) (prefix_of p (take (length p) w) w h (take_prefix w (length p)) (omega (arith, l))) (omega (arith, l))

take_snoc : (w : List ℕ) (i : ℕ) → i < length w → take (i + 1) w ≡ snoc (take i w) (get_or w i 0)
take_snoc w i h = rw (add-one, take-suc w i 0) (sym (snoc_is (take i w) (get_or w i 0)))

-- ---- the walk: at the state s of the first i bytes, and no entry is shorter than i and begins w

pub record Walking (a : ℕ) (K : Slots) (names : List (List ℕ)) (es : List Entry) (w : List ℕ) (s i : ℕ) : Type 0 where
  pub inside : s < length names
  pub apart : s ≡ 1 → ⊥
  pub named : get_or names s [] ≡ take i w
  pub none : (x : Entry) → Memᴰ x es → prefix x.word w ≡ true → length x.word < i → ⊥

module _ {a : ℕ} {K : Slots} {names : List (List ℕ)} {es : List Entry} (I : Trie a K names) (O : Owned K names es) (C : Covers names es) where
  pub walking : (w : List ℕ) → Walking a K names es w 0 0
  walking w = record { inside = omega (arith, I.two); apart = λ z. omega arith; named = I.root; none = λ x m h l. omega arith }

  module _ {w : List ℕ} {s i : ℕ} (W : Walking a K names es w s i) (h : i < length w) where
    -- an own output here is an entry that is a proper prefix
    pub met : (K.own s ≡ 0 → ⊥) → barred es w ≡ true
    met nz =
        let some : not (is_nil (own_of es (get_or names s []))) ≡ true = rw (← O.tells s W.inside W.apart, ne_eqb (K.own s) 0 nz) in
        let e = own_entry es (get_or names s []) (own_of es (get_or names s [])) refl some in
        let word : e.0.word ≡ take i w = e.2 ∙ W.named in
        barred_in es w e.0 e.1
        (rw word (and_from (prefix (take i w) w) (ltb (length (take i w)) (length w)) (take_prefix w i)
        (lt-ltb (length (take i w)) (length w) (omega (arith, length-take-le i w (omega arith))))))

    -- none here: no entry of this length either
    pub passed : K.own s ≡ 0 → (x : Entry) → Memᴰ x es → prefix x.word w ≡ true → length x.word < suc i → ⊥
    passed z x m p l =
        elim (dec_lt (length x.word) i) [
          | yes k ↦ W.none x m p k
          | no k ↦
              let long : length x.word ≡ i = omega arith in
              let same : x.word ≡ get_or names s [] = prefix_take x.word w p ∙ ap (λ (j : ℕ). take j w) long ∙ sym W.named in
              let some : not (is_nil (own_of es x.word)) ≡ true = own_some es (own_of es x.word) (to_own es x m) in
              clash some (rw (same, ← O.tells s W.inside W.apart, z))
        ]

    -- no child on the next byte: no longer entry begins w
    pub missing : K.own s ≡ 0 → has names (snoc (get_or names s []) (get_or w i 0)) ≡ false → barred es w ≡ false
    missing z g =
        barred_out es w (λ x m p.
        let begins = (and_parts (prefix x.word w) (ltb (length x.word) (length w)) p).0 in
        elim (dec_lt (length x.word) (suc i)) [
          | yes k ↦ passed z x m begins k
          | no k ↦
              let next : take (i + 1) w ≡ snoc (get_or names s []) (get_or w i 0) = take_snoc w i h ∙ ap (λ (u : List ℕ). snoc u (get_or w i 0)) (sym W.named) in
              let l = length-take-le (i + 1) w (omega arith) in
              let state : is_state es (take (i + 1) w) ≡ true
              = entry_state es x (take (i + 1) w) m (prefix_of (take (i + 1) w) x.word w (take_prefix w (i + 1)) begins (omega (arith, l))) in
              clash (subst (λ (u : List ℕ). has names u ≡ true) next (C (take (i + 1) w) state)) g
        ])

    pub onward : (t : ℕ) → K.own s ≡ 0 → Kid a names (get_or names s []) (get_or w i 0) t → Walking a K names es w t (i + 1)
    onward t z k =
        record {
          inside = k.inside;
          apart = λ e. omega (arith, k.above);
          named = k.named ∙ ap (λ (u : List ℕ). snoc u (get_or w i 0)) W.named ∙ sym (take_snoc w i h);
          none = λ x m p l. passed z x m p (omega arith);
        }

  pub through : {w : List ℕ} {s i : ℕ} → Walking a K names es w s i → i ≡ length w → barred es w ≡ false
  through {w} {s} {i} W e =
      barred_out es w (λ x m p. W.none x m (and_parts (prefix x.word w) (ltb (length x.word) (length w)) p).0
      (omega (arith, ltb-true (length x.word) (length w) (and_parts (prefix x.word w) (ltb (length x.word) (length w)) p).1)))
