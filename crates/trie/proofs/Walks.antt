-- A walk along the children of a state, as the rows lead from one to the next: the bytes that are left are those of the children left.
use mathlib.Core.Path.{◌≡◌, refl, sym, ap, ◌∙◌, subst}
use mathlib.Core.Bool.{true, false}
use mathlib.Core.List.{List, [], ◌∷◌}
use Prim.Native.Nat.{ℕ, suc, ◌<◌}
use native.Mathlib.Omega.{arith}
use lib.ListN.{length, get_or}
use Rattle.paper.specs.Lists.{same, snoc}
use Rattle.paper.specs.Patterns.{Entry}
use Rattle.paper.specs.Automaton.{is_state}
use Rattle.std.proofs.lemmas.Bool.{false_from_ne_true}
use Rattle.paper.proofs.Strings.{same_eq, snoc_byte}
use Rattle.list.specs.Limits.{alphabet}
use Rattle.plan.specs.Names.{has, names}
use Rattle.plan.specs.Breadth.{kid_bytes}
use Rattle.plan.proofs.Names.{has_at, has_names}
use Rattle.trie.specs.Trie.{slots_of, Kid, Least}
use Rattle.trie.specs.Stands.{Stands}
use Rattle.trie.proofs.Kids.{bytes_on, bytes_all, bytes_none, bytes_some}
use Rattle.trie.proofs.Seeking.{least_label, least_kid, least_next}

-- a string that ends in a byte is not dead's name
not_dead : (a : ℕ) (u : List ℕ) (c : ℕ) → c < a → same (snoc u c) (a ∷ []) ≡ false
not_dead a u c h = false_from_ne_true (same (snoc u c) (a ∷ [])) (λ e. omega (arith, snoc_byte u [] c a (same_eq (snoc u c) (a ∷ []) e)))

-- among strings that end in a byte the names are the states
pub agree : (es : List Entry) (u : List ℕ) (c : ℕ) → c < alphabet → has (names alphabet es) (snoc u c) ≡ is_state es (snoc u c)
agree es u c h = has_names alphabet es (snoc u c) (not_dead alphabet u c h)

-- t is the child of u with the first of the bytes that are left, 0 where none is
pub record Walk (es : List Entry) (u left : List ℕ) (t : ℕ) : Type 0 where
  pub low : ℕ
  pub least : Least alphabet (names alphabet es) u low t
  pub bytes : bytes_on alphabet (is_state es) u low ≡ left

module _ {es : List Entry} {rows : List (List ℕ)} (T : Stands es rows) where
  -- at the first child all bytes are left
  pub walk_begin : (s : ℕ) → s < length (names alphabet es)
      → Walk es (get_or (names alphabet es) s []) (kid_bytes alphabet (is_state es) (get_or (names alphabet es) s [])) ((slots_of rows).first s)
  walk_begin s h = record { low = 0; least = T.trie.child s h; bytes = sym (bytes_all alphabet (is_state es) (get_or (names alphabet es) s [])) }

  pub begin_low : (s : ℕ) (h : s < length (names alphabet es)) → (walk_begin s h).low ≡ 0
  unfolding walk_begin
  begin_low s h = refl

  module _ {u left : List ℕ} {t : ℕ} (W : Walk es u left t) where
    pub walk_end : t ≡ 0 → left ≡ []
    walk_end z = sym W.bytes ∙ bytes_none alphabet (is_state es) (names alphabet es) (agree es) W.least z

    module _ (nz : t ≡ 0 → ⊥) where
      pub walk_kid : Kid alphabet (names alphabet es) u ((slots_of rows).label t) t
      walk_kid = least_kid T.trie W.least nz

      kid_state : is_state es (snoc u W.least.stop) ≡ true
      kid_state =
          let k = W.least.some nz in
          sym (agree es u W.least.stop k.byte)
          ∙ subst (λ (s : List ℕ). has (names alphabet es) s ≡ true) k.named (has_at (names alphabet es) t k.inside)

      -- the bytes after its own
      pub rest : List ℕ
      rest = bytes_on alphabet (is_state es) u (suc W.least.stop)

      pub walk_first : left ≡ (slots_of rows).label t ∷ rest
      unfolding rest
      walk_first =
          rw (least_label T.trie W.least nz)
          (sym W.bytes ∙ bytes_some alphabet (is_state es) (names alphabet es) (agree es) W.least nz kid_state)

      pub walk_next : Walk es u rest ((slots_of rows).sibling t)
      unfolding rest
      walk_next =
          record {
            low = suc ((slots_of rows).label t);
            least = least_next T.trie W.least nz;
            bytes = ap (λ (c : ℕ). bytes_on alphabet (is_state es) u (suc c)) (least_label T.trie W.least nz);
          }

      pub next_low : walk_next.low ≡ suc ((slots_of rows).label t)
      unfolding walk_next
      next_low = refl
