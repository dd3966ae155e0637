-- The whole call: an empty sheet is told 9 and 10 alone, any other is loaded.
use mathlib.Core.Path.{◌≡◌, refl, sym, ap, ◌∙◌, subst}
use mathlib.Core.Bool.{Bool, true, false}
use mathlib.Core.List.{List}
use Prim.Native.Nat.{ℕ, zero, suc, ◌≤◌, ◌<◌}
use native.Mathlib.Omega.{arith}
use lib.ListN.{length}
use Rattle.std.proofs.lemmas.Bool.{lt-ltb, le-ltb}
use Rattle.list.specs.Limits.{most_text}
use Rattle.list.specs.Refusals.{lowest}
use Rattle.table.specs.Agrees.{Tables}
use Rattle.search.specs.declared.Search.{Search}
use Rattle.search.specs.Values.{Which}
use Rattle.search.specs.Admission.{other_kind}
use Rattle.search.specs.Searches.{next_of, is_leftmost}
use Rattle.sheet.specs.declared.Filled.{Filled}
use Rattle.sheet.proofs.Filling.{Closed, tells}
use Rattle.sheet.specs.Sheet.{Stop, barred, at_once, refused, full, Load, stopping, load_of, sheet_of, written, stop_of, Tells}

-- ---- an empty sheet

module _ (leftmost : Bool) (kind size : ℕ) where
  pub other_first : other_kind leftmost kind ≡ true → refused 9 ≡ at_once (lowest (barred leftmost kind size))
  unfolding lowest
  other_first e = rw e

  pub then_long : other_kind leftmost kind ≡ false → most_text < size → refused 10 ≡ at_once (lowest (barred leftmost kind size))
  unfolding lowest
  then_long e h = rw (e, lt-ltb most_text size h)

  pub else_full : other_kind leftmost kind ≡ false → size ≤ most_text → full ≡ at_once (lowest (barred leftmost kind size))
  unfolding lowest
  else_full e h = rw (e, le-ltb most_text size h)

-- ---- the whole call

module _ (w : Which) (T : Tables) (kind : ℕ) (text : List ℕ) (v : Search) where
  -- with no slot
  nothing : (rows : List (List ℕ)) → length rows ≡ 0 → sheet_of w T kind text (length rows) v ≡ stopping (at_once (lowest (barred (is_leftmost w) kind (length text)))) v
  unfolding sheet_of
  nothing rows none = ap (λ (n : ℕ). sheet_of w T kind text n v) none

  pub told_at_once : (rows : List (List ℕ)) (r : Filled) → length rows ≡ 0 → stop_of r.stop ≡ at_once (lowest (barred (is_leftmost w) kind (length text))) → r.count ≡ 0
      → r.value ≡ v
      → Tells r (sheet_of w T kind text (length rows) v)
  told_at_once rows r none is_stop is-count is-value =
      let e = nothing rows none in
      record {
        stopped = is_stop ∙ sym (ap (λ (l : Load). l.stop) e);
        counted = is-count ∙ sym (ap (λ (l : Load). length l.records) e);
        goes_on = is-value ∙ sym (ap (λ (l : Load). l.value) e);
      }

  pub unwritten : (rows : List (List ℕ)) → length rows ≡ 0 → rows ≡ written (sheet_of w T kind text (length rows) v) rows
  unwritten rows none = sym (ap (λ (l : Load). written l rows) (nothing rows none))

  -- with slots
  pub loads : (n : ℕ) → 0 < n → load_of (next_of w T kind text) n v ≡ sheet_of w T kind text n v
  unfolding sheet_of
  loads zero h = absurd (omega arith)
  loads (suc n) h = refl

  pub told_loaded : (rows₀ rows : List (List ℕ)) (i : ℕ) (s : Stop) (u : Search) → Closed (next_of w T kind text) rows₀ v rows i s u → 0 < length rows₀
      → (r : Filled) → stop_of r.stop ≡ s → r.count ≡ i → r.value ≡ u
      → Tells r (sheet_of w T kind text (length rows₀) v) × (rows ≡ written (sheet_of w T kind text (length rows₀) v) rows₀)
  told_loaded rows₀ rows i s u C h r is_stop is-count is-value =
      let e = loads (length rows₀) h in
      (subst (Tells r) e (tells (next_of w T kind text) rows₀ v rows i s u C r is_stop is-count is-value), C.rows_are ∙ ap (λ (l : Load). written l rows₀) e)
