-- The breadth-first order has every state, that is, every name but dead's.
use mathlib.Core.Path.{◌≡◌, sym, ◌∙◌, subst}
use mathlib.Core.Bool.{true, false}
use mathlib.Core.List.{List, [], ◌∷◌, Memᴰ}
use mathlib.Core.Logic.{◌⊎◌, inl, inr}
use Prim.Native.Nat.{ℕ, suc, ◌<◌}
use native.Mathlib.Omega.{arith}
use lib.ListN.{length, get_or}
use Rattle.paper.specs.Lists.{same, Sorted}
use Rattle.paper.specs.Patterns.{Entry}
use Rattle.paper.specs.Automaton.{is_state}
use Rattle.std.proofs.lemmas.Bool.{false_from_ne_true}
use Rattle.paper.proofs.Tests.{test}
use Rattle.paper.proofs.Strings.{same_eq}
use Rattle.list.specs.Limits.{alphabet, most_bytes}
use Rattle.plan.specs.Names.{names, Distinct}
use Rattle.plan.specs.Breadth.{Within, Bounded, Apart, Listing}
use Rattle.plan.proofs.Names.{has_at, index, has_names}
use Rattle.plan.proofs.Lists.{get_member, member_at}
use Rattle.plan.proofs.Breadth.{breadth_listing, breadth_and_one}
use Rattle.plan.proofs.Machines.{machine_bounded}
use Rattle.trie.specs.Trie.{Slots, Trie}
use Rattle.trie.proofs.Making.{names_cover}
use Rattle.links.specs.Linked.{ordered}

-- names that stand at one place only stand once
distinct_once : (ns : List (List ℕ)) → Distinct ns → Sorted Apart ns
unfolding Distinct
distinct_once [] d = tt
distinct_once (x ∷ ns) d = (
  λ y m e. let r = member_at ns [] m in omega (arith, d 0 (suc r.0) (omega arith) (omega (arith, r.1)) (e ∙ sym r.2)),
  distinct_once ns (λ i j a b e. omega (arith, d (suc i) (suc j) (omega arith) (omega arith) e)),
)

module _ (es : List Entry) (W : Within alphabet most_bytes es) where
  bounded : Bounded alphabet most_bytes (is_state es)
  bounded = machine_bounded alphabet most_bytes es W

  pub listing : Listing (is_state es) (ordered es)
  listing = breadth_listing alphabet most_bytes (is_state es) bounded

  dead_no_state : is_state es (alphabet ∷ []) ≡ false
  dead_no_state = false_from_ne_true (is_state es (alphabet ∷ [])) (λ e. omega (arith, bounded.byte [] alphabet e))

  -- a name is dead's or a state
  name_cases : (k : ℕ) → k < length (names alphabet es)
      → (get_or (names alphabet es) k [] ≡ alphabet ∷ []) ⊎ (is_state es (get_or (names alphabet es) k []) ≡ true)
  name_cases k h =
      let s : List ℕ = get_or (names alphabet es) k [] in
      test (same s (alphabet ∷ [])) (λ e. inl (same_eq s (alphabet ∷ []) e))
      (λ e. inr (sym (has_names alphabet es s e) ∙ has_at (names alphabet es) k h))

  module _ {K : Slots} (I : Trie alphabet K (names alphabet es)) where
    -- so a number that is not dead's is a state's, and stands in the order
    pub in_order : (k : ℕ) → k < length (names alphabet es) → (k ≡ 1 → ⊥) → Memᴰ (get_or (names alphabet es) k []) (ordered es)
    unfolding Distinct
    in_order k h z = go (name_cases k h)
      where
        go : (get_or (names alphabet es) k [] ≡ alphabet ∷ []) ⊎ (is_state es (get_or (names alphabet es) k []) ≡ true)
            → Memᴰ (get_or (names alphabet es) k []) (ordered es)
        go (inl e) = absurd (z (I.distinct k 1 h (omega (arith, I.two)) (e ∙ sym I.dead)))
        go (inr e) = (listing.exact (get_or (names alphabet es) k [])).1 e

    -- the order has one state fewer than there are names
    pub order_length : length (names alphabet es) ≡ suc (length (ordered es))
    order_length =
        breadth_and_one alphabet most_bytes (is_state es) bounded (names alphabet es) (alphabet ∷ [])
        (distinct_once (names alphabet es) I.distinct) only all
        (rw (← I.dead) (get_member (names alphabet es) 1 [] (omega (arith, I.two)))) dead_no_state
      where
        only : (x : List ℕ) → Memᴰ x (names alphabet es) → (x ≡ alphabet ∷ []) ⊎ (is_state es x ≡ true)
        only x m =
            let r = member_at (names alphabet es) [] m in
            subst (λ (w : List ℕ). (w ≡ alphabet ∷ []) ⊎ (is_state es w ≡ true)) r.2 (name_cases r.0 r.1)

        all : (s : List ℕ) → is_state es s ≡ true → Memᴰ s (names alphabet es)
        all s h =
            let i = index (names alphabet es) s (names_cover alphabet es s h) in
            subst (λ (w : List ℕ). Memᴰ w (names alphabet es)) i.is (get_member (names alphabet es) i.at [] i.inside)
