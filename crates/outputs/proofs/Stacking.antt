-- The loop along a pile: what is stored and what is left of the pile make what was to be stored.
use mathlib.Core.Path.{◌≡◌, refl, ◌∙◌}
use mathlib.Core.List.{List, [], ◌∷◌, Memᴰ}
use Prim.Native.Nat.{ℕ, ◌+◌, ◌-◌, ◌<◌}
use native.Mathlib.Numerals.{add-one}
use native.Mathlib.Omega.{arith}
use lib.ListN.{length, get_or, set}
use lib.Seq.{sets}
use Rattle.paper.specs.Patterns.{Entry}
use Rattle.zeros.specs.Rows.{field}
use Rattle.plan.specs.Outputs.{piled, top_of}
use Rattle.plan.proofs.Outputs.{top_next}
use Rattle.trie.specs.Owned.{owns_of, Pile}
use Rattle.outputs.specs.Rows.{out_rows}
use Rattle.outputs.specs.Stacked.{Sized, OnChain}

-- at the own output k, with n outputs stored and the chain begun at `place`: `rest` is left of the pile
pub record Left (owns : List (List ℕ)) (values : List ℕ) (size bound : ℕ) (own : List Entry) (stored head : ℕ) (outs₀ outs : List (List ℕ))
    (n place k : ℕ) (rest : List Entry) : Type 0 where
  pub pile : Pile (owns_of owns) bound k rest
  pub part : (x : Entry) → Memᴰ x rest → Memᴰ x own
  pub count : n + length rest ≡ stored + length own
  pub top : top_of rest n place ≡ top_of own stored head
  pub rows : Sized size own
      → sets outs n (out_rows values (piled rest n place)) ≡ sets outs₀ stored (out_rows values (piled own stored head))

-- the entry that stands at k: its slot is k - 1, as own outputs count from 1
pub record Taken (owns : List (List ℕ)) (bound : ℕ) (own : List Entry) (stored n k : ℕ) : Type 0 where
  pub entry : Entry
  pub listed : Memᴰ entry own
  pub inside : k - 1 < bound
  pub row_is : field owns (k - 1) 0 ≡ entry.row
  pub falls : field owns (k - 1) 1 < k
  pub left : n < stored + length own

module _ {owns : List (List ℕ)} {values : List ℕ} {size bound : ℕ} {own : List Entry} {stored head : ℕ} {outs₀ : List (List ℕ)} where
  pub begun : {k : ℕ} → Pile (owns_of owns) bound k own → Left owns values size bound own stored head outs₀ outs₀ stored head k own
  begun p = record { pile = p; part = λ x m. m; count = refl; top = refl; rows = λ s. refl }

  module _ {outs : List (List ℕ)} {n place k : ℕ} where
    pub taken : (rest : List Entry) → Left owns values size bound own stored head outs₀ outs n place k rest → (k ≡ 0 → ⊥)
        → Taken owns bound own stored n k
    taken [] A nz = absurd (nz A.pile)
    taken (x ∷ xs) A nz =
        let p = A.pile in
        let e : k - 1 ≡ p.0 = omega (arith, p.1) in
        record {
          entry = x;
          listed = A.part x (Memᴰ.head refl);
          inside = omega (arith, p.2);
          row_is = rw e p.3;
          falls = rw e (omega (arith, p.1, p.4));
          left = omega (arith, A.count);
        }

    -- the entry at k is stored
    pub onward : (rest : List Entry) → Left owns values size bound own stored head outs₀ outs n place k rest → (k ≡ 0 → ⊥)
        → let row : List ℕ = get_or values (field owns (k - 1) 0) 0 ∷ size ∷ place ∷ [] in
        (more : List Entry) × Left owns values size bound own stored head outs₀ (set outs n row) (n + 1) (n + 1) (field owns (k - 1) 1) more
    onward [] A nz = absurd (nz A.pile)
    onward (x ∷ xs) A nz =
        let p = A.pile in
        let e : k - 1 ≡ p.0 = omega (arith, p.1) in (
          xs,
          record {
            pile = rw e p.5;
            part = λ y m. A.part y (Memᴰ.tail m);
            count = omega (arith, A.count);
            top = rw (add-one n) (top_next xs n ∙ A.top);
            rows = λ s. rw (add-one n, e, p.3, ← s x (A.part x (Memᴰ.head refl))) (unfold piled in A.rows s);
          },
        )

    -- nothing is left
    pub ended : (rest : List Entry) → Left owns values size bound own stored head outs₀ outs n place k rest → k ≡ 0 → Sized size own
        → OnChain values own stored head outs₀ outs n place
    ended [] A z s = record { count_is = omega (arith, A.count); top_is = A.top; rows = unfold piled in A.rows s }
    ended (x ∷ xs) A z s = absurd (omega (arith, A.pile.1))
