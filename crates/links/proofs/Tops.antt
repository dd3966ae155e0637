-- Root's children by byte, and a state's child by way of them.
use mathlib.Core.Path.{◌≡◌, refl, sym, ap, ◌∙◌, subst}
use mathlib.Core.List.{List, []}
use Prim.Native.Nat.{ℕ, suc, ◌≤◌, ◌<◌}
use native.Mathlib.Decide.{dec_lt, ℕ_discrete}
use native.Mathlib.Omega.{arith}
use lib.ListN.{length, get_or, set, length-set}
use lib.Seq.{get_or-set_same, get_or-set_other}
use Rattle.list.specs.Limits.{alphabet}
use Rattle.zeros.specs.Rows.{zeros}
use Rattle.zeros.proofs.Rows.{get_or_zeros}
use Rattle.std.specs.Prelude.{Option, None, Some}
use Rattle.trie.specs.declared.TrieId.{TrieId}
use Rattle.trie.specs.Trie.{Slots, Kid, Least, Trie, Gap}
use Rattle.trie.proofs.Seeking.{least_label, least_kid, least_next}
use Rattle.links.specs.Linked.{Step, Stepped}
use Rattle.links.specs.Queue.{Tops}

-- the bytes below lo are noted, from lo on nothing is
pub record Topping (ns : List (List ℕ)) (tops : List ℕ) (lo t : ℕ) : Type 0 where
  pub least : Least alphabet ns [] lo t
  pub below : (c : ℕ) → c < lo → Step alphabet ns [] c (get_or tops c 0)
  pub above : (c : ℕ) → lo ≤ c → get_or tops c 0 ≡ 0
  pub long : length tops ≡ alphabet

pub topping : {ns : List (List ℕ)} {t : ℕ} → Least alphabet ns [] 0 t → Topping ns (zeros alphabet) 0 t
topping l = record { least = l; below = λ c h. absurd (omega arith); above = λ c h. get_or_zeros alphabet c; long = refl }

module _ {K : Slots} {ns : List (List ℕ)} (I : Trie alphabet K ns) {tops : List ℕ} {lo t : ℕ} (A : Topping ns tops lo t) where
  -- a byte before the next child has none
  none_before : (stop : ℕ) → stop ≡ A.least.stop → (c : ℕ) → lo ≤ c → c < stop → (T : ℕ) → T ≡ 0 → Step alphabet ns [] c T
  none_before stop e c h l T z = record { none = λ _. A.least.gap c h (omega arith); some = λ nz. absurd (nz z) }

  pub label_small : (t ≡ 0 → ⊥) → K.label t < alphabet
  label_small nz = omega (arith, (least_kid I A.least nz).byte)

  pub topping_more : (nz : t ≡ 0 → ⊥) → Topping ns (set tops (K.label t) t) (suc (K.label t)) (K.sibling t)
  topping_more nz =
      record {
        least = least_next I A.least nz;
        below = below;
        above = λ c h. get_or-set_other tops (K.label t) c t 0 (λ e. omega arith) ∙ A.above c (omega (arith, A.least.low, least_label I A.least nz));
        long = length-set tops (K.label t) t ∙ A.long;
      }
    where
      below : (c : ℕ) → c < suc (K.label t) → Step alphabet ns [] c (get_or (set tops (K.label t) t) c 0)
      below c h =
          elim (ℕ_discrete c (K.label t)) [
            | yes e ↦
                rw (e, get_or-set_same tops (K.label t) t 0 (omega (arith, A.long, label_small nz)))
                (record { none = λ z. absurd (nz z); some = λ _. least_kid I A.least nz })
            | no e ↦
                rw (get_or-set_other tops (K.label t) c t 0 e)
                (elim (dec_lt c lo) [
                  | yes l ↦ A.below c l
                  | no l ↦ none_before (K.label t) (least_label I A.least nz) c (omega arith) (omega arith) (get_or tops c 0) (A.above c (omega arith))
                ])
          ]

  pub topped : t ≡ 0 → Tops ns tops
  topped z c h =
      elim (dec_lt c lo) [
        | yes l ↦ A.below c l
        | no l ↦ none_before alphabet (sym (A.least.none z)) c (omega arith) h (get_or tops c 0) (A.above c (omega arith))
      ]

-- a state's child as `locate` tells it
pub step_at : {ns : List (List ℕ)} {u : List ℕ} {c t : ℕ} → Kid alphabet ns u c t → Step alphabet ns u c t
step_at k = record { none = λ z. absurd (omega (arith, k.above)); some = λ _. k }

-- and as `child` answers it
pub answer_some : {ns : List (List ℕ)} {u : List ℕ} {c : ℕ} {r : Option TrieId} {t : TrieId} → r ≡ Some t → Stepped alphabet ns u c r → Step alphabet ns u c t.0
answer_some {ns} {u} {c} e q = step_at (rw e at q)

pub some_is_child : (ns : List (List ℕ)) (u : List ℕ) (c : ℕ) {r : Option TrieId} {t : TrieId} → r ≡ Some t → Stepped alphabet ns u c r → t.0 ≡ 0 → ⊥
some_is_child ns u c {r} {t} e q z = let k : Kid alphabet ns u c t.0 = rw e at q in omega (arith, k.above, z)

pub answer_none : {ns : List (List ℕ)} {u : List ℕ} {c : ℕ} {r : Option TrieId} → r ≡ None → Stepped alphabet ns u c r → Step alphabet ns u c 0
answer_none {ns} {u} {c} e q = record { none = λ _. rw e at q; some = λ nz. absurd (nz refl) }

pub step_none : {ns : List (List ℕ)} {u : List ℕ} {c prev next : ℕ} → Gap alphabet ns u c prev next → Step alphabet ns u c 0
step_none g = record { none = λ _. g.absent; some = λ nz. absurd (nz refl) }

pub step_top : {K : Slots} {ns : List (List ℕ)} (I : Trie alphabet K ns) (s c t : ℕ) → s ≡ 0 → Step alphabet ns [] c t → Step alphabet ns (get_or ns s []) c t
step_top {K} {ns} I s c t e q = subst (λ (u : List ℕ). Step alphabet ns u c t) (sym (ap (λ (k : ℕ). get_or ns k []) e ∙ I.root)) q
