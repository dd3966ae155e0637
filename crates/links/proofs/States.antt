-- Numbers and strings: what the names, the states and the trie's children say of each other.
use mathlib.Core.Path.{◌≡◌, sym, ap, ◌∙◌, subst}
use mathlib.Core.Bool.{true}
use mathlib.Core.List.{List, [], ◌∷◌}
use Prim.Native.Nat.{ℕ, ◌<◌}
use native.Mathlib.Omega.{arith}
use lib.ListN.{length, get_or}
use Rattle.paper.specs.Lists.{same, snoc}
use Rattle.paper.specs.Patterns.{Entry}
use Rattle.paper.specs.Automaton.{is_state}
use Rattle.std.proofs.lemmas.Bool.{false_from_ne_true}
use Rattle.paper.proofs.Strings.{same_eq}
use Rattle.list.specs.Limits.{alphabet, most_bytes}
use Rattle.plan.specs.Names.{names, Distinct}
use Rattle.plan.specs.Breadth.{Bounded}
use Rattle.plan.proofs.Names.{index, has_at, has_names}
use Rattle.trie.specs.Trie.{Slots, Kid, Trie}
use Rattle.trie.proofs.Making.{names_cover}
use Rattle.links.specs.Linked.{Named}

module _ (es : List Entry) (K : Slots) (I : Trie alphabet K (names alphabet es)) (L : Bounded alphabet most_bytes (is_state es)) where
  abbrev ns : List (List ℕ)
  ns = names alphabet es

  dead_no_state : is_state es (alphabet ∷ []) ≡ true → ⊥
  dead_no_state h = omega (arith, L.byte [] alphabet h)

  -- every state has a number
  pub number : (s : List ℕ) → is_state es s ≡ true → (t : ℕ) × Named ns t s
  number s h =
      let i = index ns s (names_cover alphabet es s h) in (
        i.at,
        record {
          inside = i.inside;
          apart = λ e. dead_no_state (subst (λ (w : List ℕ). is_state es w ≡ true) (sym i.is ∙ ap (λ (k : ℕ). get_or ns k []) e ∙ I.dead) h);
          is = i.is;
        },
      )

  -- every number but dead's is a state's
  pub numbered : (k : ℕ) → k < length ns → (k ≡ 1 → ⊥) → is_state es (get_or ns k []) ≡ true
  unfolding Distinct
  numbered k h z =
      sym (has_names alphabet es (get_or ns k []) (false_from_ne_true (same (get_or ns k []) (alphabet ∷ []))
      (λ e. z (I.distinct k 1 h (omega (arith, I.two)) (same_eq (get_or ns k []) (alphabet ∷ []) e ∙ sym I.dead)))))
      ∙ has_at ns k h

  pub kid_state : {u : List ℕ} {c t : ℕ} → Kid alphabet ns u c t → is_state es (snoc u c) ≡ true
  kid_state {u} {c} {t} k = subst (λ (s : List ℕ). is_state es s ≡ true) k.named (numbered t k.inside (λ e. omega (arith, k.above)))

  pub kid_named : {u : List ℕ} {c t : ℕ} → Kid alphabet ns u c t → Named ns t (snoc u c)
  kid_named k = record { inside = k.inside; apart = λ e. omega (arith, k.above); is = k.named }

  -- two numbers of one state are one
  pub named_once : {s : List ℕ} {j k : ℕ} → Named ns j s → Named ns k s → j ≡ k
  unfolding Distinct
  named_once {s} {j} {k} p q = I.distinct j k p.inside q.inside (p.is ∙ sym q.is)

  pub root_named : Named ns 0 []
  root_named = record { inside = omega (arith, I.two); apart = λ e. omega arith; is = I.root }

  -- only 0 is root's number
  pub named_root : {k : ℕ} → Named ns k [] → k ≡ 0
  named_root p = named_once p root_named
