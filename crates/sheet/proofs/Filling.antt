-- A sheet that is being filled: what the answers so far and those to come have to do with the whole load. Over any search.
use mathlib.Core.Path.{◌≡◌, refl, sym, ap, ap₂, ◌∙◌}
use mathlib.Core.List.{List, [], ◌∷◌, ◌++◌, append-nil}
use Prim.Native.Nat.{ℕ, suc, ◌-◌, ◌≤◌, ◌<◌}
use native.Mathlib.Omega.{arith}
use lib.ListN.{length, drop, set, get_or}
use lib.Seq.{drop-cons, set-append_seam}
use Rattle.std.proofs.lemmas.List.{append_assoc, length-append}
use Rattle.search.specs.declared.Search.{Search}
use Rattle.search.specs.declared.Match.{Match}
use Rattle.search.specs.Values.{Outcome, gives, ends, refuses}
use Rattle.sheet.specs.declared.Filled.{Filled}
use Rattle.sheet.specs.Claims.{after}
use Rattle.sheet.specs.Sheet.{record_of, Stop, full, ended, refused, Load, stopping, with_record, on_answer, load_of, written, stop_of, Tells}

-- ---- loads

module _ (next : Search → Outcome) where
  load_full : (n : ℕ) (v : Search) → n ≡ 0 → load_of next n v ≡ stopping full v
  unfolding load_of
  load_full n v e = ap (λ (k : ℕ). load_of next k v) e

  load_gives : (n k : ℕ) (v : Search) (m : Match) (u : Search) → n ≡ suc k → next v ≡ gives m u → load_of next n v ≡ with_record (record_of m) (load_of next k u)
  unfolding load_of
  load_gives n k v m u e is =
      ap (λ (j : ℕ). load_of next j v) e ∙ ap (λ (o : Outcome). on_answer o (λ m' u'. with_record (record_of m') (load_of next k u'))) is

  load_ends : (n k : ℕ) (v u : Search) → n ≡ suc k → next v ≡ ends u → load_of next n v ≡ stopping ended u
  unfolding load_of
  load_ends n k v u e is =
      ap (λ (j : ℕ). load_of next j v) e ∙ ap (λ (o : Outcome). on_answer o (λ m' u'. with_record (record_of m') (load_of next k u'))) is

  load_refuses : (n k : ℕ) (v : Search) (why : ℕ) (u : Search) → n ≡ suc k → next v ≡ refuses why u → load_of next n v ≡ stopping (refused why) u
  unfolding load_of
  load_refuses n k v why u e is =
      ap (λ (j : ℕ). load_of next j v) e ∙ ap (λ (o : Outcome). on_answer o (λ m' u'. with_record (record_of m') (load_of next k u'))) is

  -- i slots are written, and what is still to come from the value at hand is the rest of the whole load
  pub record Filling (rows₀ : List (List ℕ)) (v₀ : Search) (rows : List (List ℕ)) (v : Search) (i : ℕ) : Type 0 where
    pub done : List (List ℕ)
    pub counted : length done ≡ i
    pub inside : i ≤ length rows₀
    pub as_long : length rows ≡ length rows₀
    pub rows_are : rows ≡ done ++ drop i rows₀
    pub to_come : load_of next (length rows₀) v₀ ≡ after done (load_of next (length rows₀ - i) v)

  pub none_yet : (rows₀ : List (List ℕ)) (v₀ : Search) → Filling rows₀ v₀ rows₀ v₀ 0
  none_yet rows₀ v₀ =
      record { done = []; counted = refl; inside = omega arith; as_long = refl; rows_are = refl; to_come = ap (λ (n : ℕ). load_of next n v₀) (omega arith) }

  set_more : (rows₀ rows done : List (List ℕ)) (i : ℕ) (x : List ℕ) → length done ≡ i → i < length rows₀ → rows ≡ done ++ drop i rows₀
      → set rows i x ≡ (done ++ x ∷ []) ++ drop (suc i) rows₀
  set_more rows₀ rows done i x n h e =
      ap₂ (λ (r : List (List ℕ)) (j : ℕ). set r j x) (e ∙ ap (λ t. done ++ t) (drop-cons rows₀ i [] h)) (sym n)
      ∙ set-append_seam done (get_or rows₀ i []) (drop (suc i) rows₀) x
      ∙ sym (append_assoc done (x ∷ []) (drop (suc i) rows₀))

  -- a match is put into the next slot
  pub one_more : (rows₀ : List (List ℕ)) (v₀ : Search) (rows : List (List ℕ)) (v : Search) (i : ℕ) → Filling rows₀ v₀ rows v i → i < length rows₀
      → (m : Match) (u : Search) → next v ≡ gives m u
      → (rows' : List (List ℕ)) → rows' ≡ set rows i (record_of m) → length rows' ≡ length rows₀
      → (i' : ℕ) → i' ≡ suc i
      → Filling rows₀ v₀ rows' u i'
  one_more rows₀ v₀ rows v i F h m u is rows' put long i' e =
      let x = record_of m in
      let left : length rows₀ - i ≡ suc (length rows₀ - i') = omega arith in
      record {
        done = F.done ++ x ∷ [];
        counted = omega (arith, length-append F.done (x ∷ []), F.counted, e);
        inside = omega arith;
        as_long = long;
        rows_are = put ∙ set_more rows₀ rows F.done i x F.counted h F.rows_are ∙ ap (λ (j : ℕ). (F.done ++ x ∷ []) ++ drop j rows₀) (sym e);
        to_come =
            F.to_come
            ∙ ap (after F.done) (load_gives (length rows₀ - i) (length rows₀ - i') v m u left is)
            ∙ ap (λ (t : List (List ℕ)). record { records = t; stop = (load_of next (length rows₀ - i') u).stop; value = (load_of next (length rows₀ - i') u).value })
            (sym (append_assoc F.done (x ∷ []) (load_of next (length rows₀ - i') u).records));
      }

  -- ---- the end of the loop

  -- the sheet, and how many records it has, when nothing more comes
  pub record Closed (rows₀ : List (List ℕ)) (v₀ : Search) (rows : List (List ℕ)) (i : ℕ) (s : Stop) (u : Search) : Type 0 where
    pub stopped : s ≡ (load_of next (length rows₀) v₀).stop
    pub counted : i ≡ length (load_of next (length rows₀) v₀).records
    pub goes_on : u ≡ (load_of next (length rows₀) v₀).value
    pub rows_are : rows ≡ written (load_of next (length rows₀) v₀) rows₀

  closed : (rows₀ : List (List ℕ)) (v₀ : Search) (rows : List (List ℕ)) (v : Search) (i : ℕ) (s : Stop) (u : Search) → Filling rows₀ v₀ rows v i
      → load_of next (length rows₀ - i) v ≡ stopping s u
      → Closed rows₀ v₀ rows i s u
  closed rows₀ v₀ rows v i s u F is =
      let whole : load_of next (length rows₀) v₀ ≡ after F.done (stopping s u) = F.to_come ∙ ap (after F.done) is in
      let records_are : (load_of next (length rows₀) v₀).records ≡ F.done = ap (λ (l : Load). l.records) whole ∙ append-nil _ in
      record {
        stopped = sym (ap (λ (l : Load). l.stop) whole);
        counted = sym (ap length records_are ∙ F.counted);
        goes_on = sym (ap (λ (l : Load). l.value) whole);
        rows_are = F.rows_are ∙ sym (ap (λ (r : List (List ℕ)). r ++ drop (length r) rows₀) records_are ∙ ap (λ (n : ℕ). F.done ++ drop n rows₀) F.counted);
      }

  pub at_full : (rows₀ : List (List ℕ)) (v₀ : Search) (rows : List (List ℕ)) (v : Search) (i : ℕ) → Filling rows₀ v₀ rows v i → length rows₀ ≤ i
      → Closed rows₀ v₀ rows i full v
  at_full rows₀ v₀ rows v i F h = closed rows₀ v₀ rows v i full v F (load_full (length rows₀ - i) v (omega arith))

  pub at_end_lem : (rows₀ : List (List ℕ)) (v₀ : Search) (rows : List (List ℕ)) (v : Search) (i : ℕ) → Filling rows₀ v₀ rows v i → i < length rows₀
      → (u : Search) → next v ≡ ends u
      → Closed rows₀ v₀ rows i ended u
  at_end_lem rows₀ v₀ rows v i F h u is =
      closed rows₀ v₀ rows v i ended u F (load_ends (length rows₀ - i) (length rows₀ - suc i) v u (omega arith) is)

  pub at_refusal : (rows₀ : List (List ℕ)) (v₀ : Search) (rows : List (List ℕ)) (v : Search) (i : ℕ) → Filling rows₀ v₀ rows v i → i < length rows₀
      → (why : ℕ) (u : Search) → next v ≡ refuses why u
      → Closed rows₀ v₀ rows i (refused why) u
  at_refusal rows₀ v₀ rows v i F h why u is =
      closed rows₀ v₀ rows v i (refused why) u F (load_refuses (length rows₀ - i) (length rows₀ - suc i) v why u (omega arith) is)

  -- an answer that says so tells the load
  pub tells : (rows₀ : List (List ℕ)) (v₀ : Search) (rows : List (List ℕ)) (i : ℕ) (s : Stop) (u : Search) → Closed rows₀ v₀ rows i s u
      → (r : Filled) → stop_of r.stop ≡ s → r.count ≡ i → r.value ≡ u
      → Tells r (load_of next (length rows₀) v₀)
  tells rows₀ v₀ rows i s u C r is_stop is-count is-value =
      record { stopped = is_stop ∙ C.stopped; counted = is-count ∙ C.counted; goes_on = is-value ∙ C.goes_on }
