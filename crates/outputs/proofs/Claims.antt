-- All claims hold: by the plan's laws, and since the rows are those of what is stored.
use mathlib.Core.Path.{◌≡◌, refl, sym, ap, ◌∙◌, subst}
use mathlib.Core.List.{List, [], ◌∷◌, ◌++◌, reverse}
use Prim.Native.Nat.{ℕ, zero, suc, ◌+◌, ◌-◌, ◌≤◌, ◌<◌}
use native.Mathlib.Nat.{not-suc-le-zero}
use native.Mathlib.Decide.{dec_lt}
use native.Mathlib.Omega.{arith}
use lib.ListN.{length, get_or, take, drop, length-append, get_or-append}
use lib.Seq.{take-length, get_or-append-add}
use Rattle.paper.specs.Patterns.{Entry, Kind, Proper}
use Rattle.paper.specs.Automaton.{machine, Link, dead, to, link, output}
use Rattle.paper.proofs.Machines.{lawful}
use Rattle.list.specs.Limits.{alphabet, most_bytes}
use Rattle.plan.specs.Names.{names}
use Rattle.plan.specs.Breadth.{Within}
use Rattle.plan.specs.Outputs.{Out, piled, place_at, store, store_all, nothing, no_out, out_at, Chained}
use Rattle.plan.proofs.Outputs.{Kept, kept_at, output_stored, out_at_lem, store_all_suc}
use Rattle.plan.proofs.Counts.{stored_count}
use Rattle.plan.proofs.Machines.{machine_quiet}
use Rattle.links.specs.Linked.{ordered}
use Rattle.outputs.specs.Rows.{out_row, out_rows}
use Rattle.outputs.specs.Placed.{all_stored}
use Rattle.outputs.specs.Claims.{RowsChained, StoredClaims, OutputClaims}
use Rattle.outputs.proofs.Order.{listing, in_order}
use Rattle.outputs.proofs.Noting.{still_linked}
use Rattle.outputs.proofs.Storing.{stored_to}

-- ---- what is stored

-- a pile on a chain that is stored: each next place is below its own
piled_falls : (l : List Entry) (n head k : ℕ) → head ≤ n → k < length (piled l n head) → (get_or (piled l n head) k no_out).next ≤ n + k
unfolding piled
piled_falls [] n head k h b = absurd (not-suc-le-zero b)
piled_falls (x ∷ l) n head zero h b = omega arith
piled_falls (x ∷ l) n head (suc k) h b = omega (arith, piled_falls l (suc n) (suc n) k (omega arith) (omega arith))

-- every next place of these outputs is below its own
abbrev Falls : List Out → Type 0
Falls outs = (k : ℕ) → k < length outs → (get_or outs k no_out).next ≤ k

more_falls : (outs : List Out) (l : List Entry) (head : ℕ) → head ≤ length outs → Falls outs → Falls (outs ++ piled l (length outs) head)
more_falls outs l head h F k b =
    elim (dec_lt k (length outs)) [
      | yes i ↦ rw (get_or-append outs (piled l (length outs) head) no_out k i) (F k i)
      | no i ↦
          let at : length outs + (k - length outs) ≡ k = omega arith in
          let new : List Out = piled l (length outs) head in
          let below : k - length outs < length new = omega (arith, length-append outs new) in
          subst (λ (j : ℕ). (get_or (outs ++ new) j no_out).next ≤ j) at
          (rw (get_or-append-add outs new (k - length outs) no_out) (piled_falls l (length outs) head (k - length outs) h below))
    ]

module _ (kind : Kind) (es : List Entry) (P : Proper es) (W : Within alphabet most_bytes es) where
  kept : (i : ℕ) → i ≤ length (ordered es) → Kept (machine kind es) (take i (ordered es)) (stored_to kind es i)
  kept i h = kept_at (machine kind es) (lawful kind es P) (machine_quiet kind es P) (ordered es) (listing es W) i h

  head_within : (i : ℕ) → i ≤ length (ordered es) → (k : Link) → place_at (stored_to kind es i) k ≤ length (stored_to kind es i).outs
  head_within i h dead = omega arith
  head_within i h (to r) = (kept i h).within r

  next_falls : (i : ℕ) → i ≤ length (ordered es) → (s : List ℕ) → Falls (stored_to kind es i).outs
      → Falls (store (machine kind es) (stored_to kind es i) s).outs
  unfolding store
  next_falls i h s F =
      more_falls (stored_to kind es i).outs (reverse ((machine kind es).own s)) (place_at (stored_to kind es i) (link (machine kind es) s))
      (head_within i h (link (machine kind es) s)) F

  falls_to : (i : ℕ) → i ≤ length (ordered es) → Falls (stored_to kind es i).outs
  unfolding store_all
  falls_to zero h = λ k b. absurd (not-suc-le-zero b)
  falls_to (suc i) h =
      rw (store_all_suc (machine kind es) (ordered es) i h)
      (next_falls i (omega arith) (get_or (ordered es) i []) (falls_to i (omega arith)))

  stored_claims : StoredClaims kind es
  stored_claims =
      record {
        chained = output_stored (machine kind es) (lawful kind es P) (machine_quiet kind es P) (ordered es) (listing es W);
        falls = subst (λ (l : List (List ℕ)). Falls (store_all (machine kind es) nothing l).outs) (take-length (ordered es))
            (falls_to (length (ordered es)) (omega arith));
        counted = stored_count kind es (ordered es) (listing es W);
      }

-- ---- the tables

row_at : (values : List ℕ) (outs : List Out) (rest : List (List ℕ)) (n : ℕ) → n < length outs
    → get_or (out_rows values outs ++ rest) n [] ≡ out_row values (get_or outs n no_out)
row_at values [] rest n h = absurd (not-suc-le-zero h)
row_at values (x ∷ outs) rest zero h = refl
row_at values (x ∷ outs) rest (suc n) h = row_at values outs rest n (omega arith)

-- the row at a place is the output's there
row_is : (values : List ℕ) (outs : List Out) (rest : List (List ℕ)) (p : ℕ) → 0 < p → p ≤ length outs
    → get_or (out_rows values outs ++ rest) (p - 1) [] ≡ out_row values (out_at outs p)
row_is values outs rest p b h = row_at values outs rest (p - 1) (omega arith) ∙ ap (out_row values) (sym (out_at_lem outs p b))

-- so the chain of rows tells what the chain of outputs lists
pub tells_chained : (values : List ℕ) (outs : List Out) (rest : List (List ℕ)) (p : ℕ) (l : List Entry) → Chained outs p l
    → RowsChained values (out_rows values outs ++ rest) (length outs) p l
tells_chained values outs rest p [] c = c
tells_chained values outs rest p (x ∷ l) c =
    let r = row_is values outs rest p c.0.some_place c.0.within in (
      record {
        some_place = c.0.some_place;
        within = c.0.within;
        value = rw (r, c.0.same_row);
        size = rw r c.0.same_size;
        falls = rw r c.0.falls;
      },
      rw r (tells_chained values outs rest (out_at outs p).next l c.1),
    )

pub claims : OutputClaims
claims =
    record {
      stored = stored_claims;
      tables = λ {kind} {es} {trie} {owns} {notes₀} {values} {slots} {states} {notes} {outs₀} {outs} {count} T P.
          let S = stored_claims kind es T.proper T.within in
          let number : count ≡ length (all_stored kind es).outs = P.count_is ∙ sym S.counted in
          record {
            tells = λ k h z.
                let s : List ℕ = get_or (names alphabet es) k [] in
                let state = ((listing es T.within).exact s).0 (in_order es T.within T.made.trie k h z) in
                rw (P.place k h z, P.rows, number)
                (tells_chained values (all_stored kind es).outs (drop (length es) outs₀) ((all_stored kind es).place s)
                (output (machine kind es) s) (S.chained s state));
            linked = still_linked notes₀ notes (λ k f b. P.kept k f (omega arith) (λ z. omega arith)) T.linked;
          };
    }
