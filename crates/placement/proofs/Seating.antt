-- The children of a state get their cells, one after the other along the walk.
use mathlib.Core.Path.{◌≡◌, refl, sym, ap, ◌∙◌, subst}
use mathlib.Core.Bool.{true, false}
use mathlib.Core.List.{List, []}
use Prim.Native.Nat.{ℕ, zero, suc, ◌<◌}
use native.Mathlib.Omega.{arith}
use native.Mathlib.Decide.{ℕ_discrete, dec_lt}
use lib.Bits.{bit_xor}
use lib.ListN.{length, get_or}
use Rattle.zeros.specs.Rows.{field}
use Rattle.zeros.proofs.Rows.{field_set_same, field_set_other}
use Rattle.paper.specs.Lists.{snoc}
use Rattle.paper.specs.Patterns.{Entry}
use Rattle.paper.specs.Automaton.{is_state}
use Rattle.paper.proofs.Tests.{clash}
use Rattle.paper.proofs.Strings.{snoc_byte}
use Rattle.list.specs.Limits.{alphabet}
use Rattle.plan.specs.Names.{has, names, Distinct}
use Rattle.plan.specs.Breadth.{kid_bytes}
use Rattle.plan.proofs.Names.{has_at}
use Rattle.trie.specs.Trie.{slots_of, Kid}
use Rattle.trie.specs.Stands.{Stands}
use Rattle.trie.proofs.Inserting.{kept_field}
use Rattle.trie.proofs.Seeking.{least_label}
use Rattle.trie.proofs.Walks.{Walk, walk_begin, begin_low, walk_end, walk_kid, rest, walk_first, walk_next, next_low}
use Rattle.spots.specs.Charted.{with_taken, with_seated}
use Rattle.placement.specs.Laid.{with_cell}
use Rattle.placement.specs.Seats.{Children}

module _ (notes : List (List ℕ)) (t v : ℕ) (h : t < length notes) where
  pub cell_here : field (with_cell notes t v) t 5 ≡ v
  cell_here = field_set_same notes t 5 _ h

  pub cell_kept : (k f : ℕ) → f < 5 → field (with_cell notes t v) k f ≡ field notes k f
  cell_kept k zero b = kept_field notes t 0 _ h refl k
  cell_kept k (suc zero) b = kept_field notes t 1 _ h refl k
  cell_kept k (suc (suc zero)) b = kept_field notes t 2 _ h refl k
  cell_kept k (suc (suc (suc zero))) b = kept_field notes t 3 _ h refl k
  cell_kept k (suc (suc (suc (suc zero)))) b = kept_field notes t 4 _ h refl k
  cell_kept k (suc (suc (suc (suc (suc f))))) b = absurd (omega arith)

pub cell_other : (notes : List (List ℕ)) (t v k : ℕ) → (k ≡ t → ⊥) → field (with_cell notes t v) k 5 ≡ field notes k 5
cell_other notes t v k n = field_set_other notes t k 5 _ n

-- at t the children with lower bytes have their cells, and the chart lacks those of the bytes that are left
pub record Seating (es : List Entry) (s base : ℕ) (notes₀ notes spots₀ spots : List (List ℕ)) (t : ℕ) : Type 0 where
  pub left : List ℕ
  pub walk : Walk es (get_or (names alphabet es) s []) left t
  pub chart : with_seated spots base left ≡ with_seated spots₀ base (kid_bytes alphabet (is_state es) (get_or (names alphabet es) s []))
  pub seated : (c k : ℕ) → Kid alphabet (names alphabet es) (get_or (names alphabet es) s []) c k → c < walk.low → field notes k 5 ≡ bit_xor base c
  pub others : (k : ℕ) → ((c : ℕ) → Kid alphabet (names alphabet es) (get_or (names alphabet es) s []) c k → ⊥) → field notes k 5 ≡ field notes₀ k 5
  pub kept : (k f : ℕ) → f < 5 → field notes k f ≡ field notes₀ k f

-- the same from an equal chart
pub seated_on : {a b : List (List ℕ)} (base : ℕ) (cs : List ℕ) {rows : List (List ℕ)} → a ≡ b → rows ≡ with_seated a base cs → rows ≡ with_seated b base cs
seated_on base cs e h = h ∙ ap (λ (x : List (List ℕ)). with_seated x base cs) e

-- the string of a number
abbrev named : List Entry → ℕ → List ℕ
named es s = get_or (names alphabet es) s []

module _ {es : List Entry} {rows : List (List ℕ)} (T : Stands es rows) {s : ℕ} (inside : s < length (names alphabet es)) where
  pub seating : (base : ℕ) (notes spots : List (List ℕ)) → Seating es s base notes notes spots spots ((slots_of rows).first s)
  seating base notes spots =
      record {
        left = kid_bytes alphabet (is_state es) (named es s);
        walk = walk_begin T s inside;
        chart = refl;
        seated = λ c k K b. absurd (omega (arith, begin_low T s inside));
        others = λ k n. refl;
        kept = λ k f b. refl;
      }

  -- a byte with no child before the stop
  not_gap : {c k : ℕ} → Kid alphabet (names alphabet es) (named es s) c k → has (names alphabet es) (snoc (named es s) c) ≡ false → ⊥
  not_gap {c} {k} K n =
      clash (subst (λ (w : List ℕ). has (names alphabet es) w ≡ true) K.named (has_at (names alphabet es) k K.inside)) n

  module _ {base : ℕ} {notes₀ notes spots₀ spots : List (List ℕ)} {t : ℕ} (S : Seating es s base notes₀ notes spots₀ spots t) where
    pub seating_done : t ≡ 0 → Children es s base notes₀ notes × (spots ≡ with_seated spots₀ base (kid_bytes alphabet (is_state es) (named es s)))
    unfolding with_seated
    seating_done z = (
      record {
        seated = λ c k K.
            elim (dec_lt c S.walk.low) [
              | yes b ↦ S.seated c k K b
              | no b ↦ absurd (not_gap K (S.walk.least.gap c (omega arith) (omega (arith, S.walk.least.none z, K.byte))))
            ];
        others = S.others;
        kept = S.kept;
      },
      subst (λ (l : List ℕ). with_seated spots base l ≡ with_seated spots₀ base (kid_bytes alphabet (is_state es) (named es s))) (walk_end T S.walk z) S.chart,
    )

    module _ (nz : t ≡ 0 → ⊥) (room : t < length notes) where
      kid : Kid alphabet (names alphabet es) (named es s) ((slots_of rows).label t) t
      kid = walk_kid T S.walk nz

      pub seating_more : Seating es s base notes₀ (with_cell notes t (bit_xor base ((slots_of rows).label t))) spots₀ (with_taken spots (bit_xor base ((slots_of rows).label t)) 1) ((slots_of rows).sibling t)
      unfolding with_seated Distinct
      seating_more =
          record {
            left = rest T S.walk nz;
            walk = walk_next T S.walk nz;
            chart = subst (λ (l : List ℕ). with_seated spots base l ≡ with_seated spots₀ base (kid_bytes alphabet (is_state es) (named es s))) (walk_first T S.walk nz) S.chart;
            seated = λ c k K b.
                elim (ℕ_discrete k t) [
                  | yes e ↦
                      let same : c ≡ ((slots_of rows).label t) = snoc_byte (named es s) (named es s) c ((slots_of rows).label t) (sym K.named ∙ ap (λ (i : ℕ). get_or (names alphabet es) i []) e ∙ kid.named) in
                      rw (e, same) (cell_here notes t (bit_xor base ((slots_of rows).label t)) room)
                  | no n ↦
                      cell_other notes t (bit_xor base ((slots_of rows).label t)) k n ∙ before c k K n (omega (arith, next_low T S.walk nz))
                ];
            others = λ k n. cell_other notes t (bit_xor base ((slots_of rows).label t)) k (λ e. n ((slots_of rows).label t) (subst (λ (i : ℕ). Kid alphabet (names alphabet es) (named es s) ((slots_of rows).label t) i) (sym e) kid)) ∙ S.others k n;
            kept = λ k f b. cell_kept notes t (bit_xor base ((slots_of rows).label t)) room k f b ∙ S.kept k f b;
          }
        where
          before : (c k : ℕ) → Kid alphabet (names alphabet es) (named es s) c k → (k ≡ t → ⊥) → c < suc ((slots_of rows).label t) → field notes k 5 ≡ bit_xor base c
          before c k K n b =
              elim (dec_lt c S.walk.low) [
                | yes l ↦ S.seated c k K l
                | no l ↦
                    elim (ℕ_discrete c ((slots_of rows).label t)) [
                      | yes e ↦
                          absurd (n (T.trie.distinct k t K.inside kid.inside (K.named ∙ ap (λ (d : ℕ). snoc (named es s) d) e ∙ sym kid.named)))
                      | no d ↦ absurd (not_gap K (S.walk.least.gap c (omega arith) (omega (arith, stop_is))))
                    ]
              ]
            where
              stop_is : ((slots_of rows).label t) ≡ S.walk.least.stop
              stop_is = least_label T.trie S.walk.least nz
