-- The walk along the children of a state by rising byte.
use mathlib.Core.Path.{◌≡◌, refl}
use mathlib.Core.List.{List}
use Prim.Native.Nat.{ℕ, suc, ◌≤◌, ◌<◌}
use native.Mathlib.Omega.{arith}
use lib.Dec.{eqb}
use lib.ListN.{length}
use Rattle.std.proofs.lemmas.Bool.{ne_eqb, eqb-false}
use Rattle.paper.proofs.Tests.{test}
use Rattle.trie.specs.Trie.{Slots, slots_of, Kid, Least, Trie, After, Gap}
use Rattle.list.specs.Limits.{alphabet}
use Rattle.trie.specs.Children.{Walks, rank}

-- the next child at or after a byte, as the loops over children meet it
module _ {a : ℕ} {K : Slots} {names : List (List ℕ)} (I : Trie a K names) {u : List ℕ} {lo t : ℕ} (l : Least a names u lo t) (nz : t ≡ 0 → ⊥) where
  pub least_label : K.label t ≡ l.stop
  least_label = let k = l.some nz in I.labelled t l.stop u k.inside k.byte k.named

  pub least_inside : t < length names
  least_inside = (l.some nz).inside

  pub least_kid : Kid a names u (K.label t) t
  least_kid = rw least_label (l.some nz)

  -- the one after it
  pub least_next : Least a names u (suc (K.label t)) (K.sibling t)
  least_next = let k = l.some nz in rw least_label (I.next t l.stop u k.inside k.byte k.named)

  least_falls : rank a K (K.sibling t) < rank a K t
  least_falls =
      let k = l.some nz in
      let n = least_next in
      rw (ne_eqb t 0 nz)
      (test (eqb (K.sibling t) 0) (λ z. rw z (omega (arith, least_label, k.byte)))
      (λ z. let j = n.some (eqb-false (K.sibling t) 0 z) in
      rw z (omega (arith, least_label, I.labelled (K.sibling t) n.stop u j.inside j.byte j.named, n.low, j.byte, k.byte))))

-- at t, with prev passed: the byte b is not before lo
pub record Seeking (a : ℕ) (names : List (List ℕ)) (u : List ℕ) (b prev t : ℕ) : Type 0 where
  pub lo : ℕ
  pub lo_le : lo ≤ b
  pub least : Least a names u lo t
  pub front : prev ≡ 0 → lo ≡ 0
  pub after : (prev ≡ 0 → ⊥) → After a names u lo prev

pub seek : {a : ℕ} {names : List (List ℕ)} {u : List ℕ} {t : ℕ} (b : ℕ) → Least a names u 0 t → Seeking a names u b 0 t
seek b l = record { lo = 0; lo_le = omega arith; least = l; front = λ z. refl; after = λ z. absurd (z refl) }

module _ {a : ℕ} {K : Slots} {names : List (List ℕ)} (I : Trie a K names) where
  module _ {u : List ℕ} {b prev t : ℕ} (q : Seeking a names u b prev t) where
    pub hit : (t ≡ 0 → ⊥) → K.label t ≡ b → Kid a names u b t
    hit nz e = rw (← e) (least_kid I q.least nz)

    pub past : (t ≡ 0 → ⊥) → b < K.label t → Gap a names u b prev t
    past nz h =
        let l : b < q.least.stop = omega (arith, least_label I q.least nz) in
        record { absent = q.least.gap b q.lo_le l; lo = q.lo; lo_le = q.lo_le; least = q.least; later = l; front = q.front; after = q.after }

    pub ended : b < a → t ≡ 0 → Gap a names u b prev 0
    ended h z =
        let l : b < q.least.stop = omega (arith, q.least.none z) in
        record {
          absent = q.least.gap b q.lo_le l;
          lo = q.lo;
          lo_le = q.lo_le;
          least = rw (← z) q.least;
          later = l;
          front = q.front;
          after = q.after;
        }

    pub onward : (t ≡ 0 → ⊥) → K.label t < b → Seeking a names u b t (K.sibling t)
    onward nz h =
        record {
          lo = suc (K.label t);
          lo_le = h;
          least = least_next I q.least nz;
          front = λ z. absurd (nz z);
          after = λ z. record { byte = K.label t; lo_is = refl; kid = least_kid I q.least nz };
        }

-- a walk along children goes on from the next sibling, with fewer of them left
pub walks_on : {rows : List (List ℕ)} {t : ℕ} (W : Walks rows t) → (t ≡ 0 → ⊥)
    → Walks rows ((slots_of rows).sibling t) × (rank alphabet (slots_of rows) ((slots_of rows).sibling t) < rank alphabet (slots_of rows) t)
walks_on {rows} {t} W nz = (
  record { names = W.names; trie = W.trie; room = W.room; parent = W.parent; lo = suc ((slots_of rows).label t); least = least_next W.trie W.least nz },
  least_falls W.trie W.least nz,
)

-- a state of the walk has a row
pub walks_room : {rows : List (List ℕ)} {t : ℕ} (W : Walks rows t) → (t ≡ 0 → ⊥) → t < length rows
walks_room W nz = omega (arith, least_inside W.trie W.least nz, W.room)
