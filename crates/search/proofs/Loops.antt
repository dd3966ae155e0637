-- What the loops of `seek` and `keep` keep: what is left of the walk is the whole walk, and the value stays within its bounds.
use mathlib.Core.Path.{◌≡◌, refl, sym, ap, ◌∙◌, subst}
use mathlib.Core.Bool.{Bool, true}
use mathlib.Core.List.{List, [], ◌∷◌}
use Prim.Native.Nat.{ℕ, suc, ◌+◌, ◌-◌, ◌≤◌, ◌<◌}
use native.Mathlib.Numerals.{add-one}
use native.Mathlib.Omega.{arith}
use lib.ListN.{length, drop, get_or, drop_of_length-le}
use lib.Seq.{drop-cons}
use Rattle.std.specs.Prelude.{Some, None, Ok}
use Rattle.std.proofs.lemmas.Bool.{eq-eqb, ne_eqb}
use Rattle.list.specs.Limits.{most_text}
use Rattle.table.specs.Agrees.{Tables}
use Rattle.table.proofs.Claims.{claims}
use Rattle.table.specs.declared.Row.{Row}
use Rattle.table.specs.Readers.{damage}
use Rattle.search.specs.declared.Search.{Search}
use Rattle.search.specs.declared.Match.{Match}
use Rattle.search.specs.declared.seek.Sought.TheVariants as sought
use Rattle.search.specs.Values.{root, match_of}
use Rattle.search.specs.Bounds.{most_before, Shallow, Bounded}
use Rattle.search.specs.Walk.{step_of}
use Rattle.search.specs.Searches.{shown_at, seek_of, keep_of, rest}
use Rattle.search.proofs.Advancing.{Stepped, stepped}

-- ---- the bytes that are left

rest_next : (text : List ℕ) (v : Search) → v.place < length text → rest text v ≡ get_or text v.place 0 ∷ drop (suc v.place) text
rest_next text v h = drop-cons text v.place 0 h

rest_after : (text : List ℕ) (v w : Search) → w.place ≡ v.place + 1 → rest text w ≡ drop (suc v.place) text
rest_after text v w e = ap (λ (n : ℕ). drop n text) (e ∙ add-one v.place)

rest_none : (text : List ℕ) (v : Search) → length text ≤ v.place → rest text v ≡ []
rest_none text v h = drop_of_length-le text h

bounded_next : {text : List ℕ} {v w : Search} → Bounded text v → v.place < length text → Stepped v w → Bounded text w
bounded_next {text} {v} {w} B h S =
    record { inside = rw S.onward (omega arith); few = rw S.onward (omega (arith, B.few, S.few)) }

-- a byte can be counted: the moves are far from the bound of their type
pub few_before : {text : List ℕ} {v : Search} → Bounded text v → length text ≤ most_text → v.moves ≤ most_before
few_before B h = omega (arith, B.few, B.inside)

-- what is left of the text shrinks
pub falls_short : (text : List ℕ) (v w : Search) → v.place < length text → w.place ≡ v.place + 1 → length text - w.place < length text - v.place
falls_short text v w h e = rw e (omega arith)

-- ---- up to the first output

module _ (falling : Bool) (T : Tables) where
  seek_given : (v : Search) (bytes : List ℕ) (row : Row) → shown_at T v ≡ Ok (Some row) → seek_of falling T v bytes ≡ Ok (sought.Given row v)
  unfolding seek_of
  seek_given v [] row e = rw e
  seek_given v (c ∷ bytes) row e = rw e

  seek_broken : (v : Search) (bytes : List ℕ) → shown_at T v ≡ damage → seek_of falling T v bytes ≡ damage
  unfolding seek_of
  seek_broken v [] e = rw e
  seek_broken v (c ∷ bytes) e = rw e

  seek_end : (v : Search) → shown_at T v ≡ Ok None → seek_of falling T v [] ≡ Ok (sought.End v)
  unfolding seek_of
  seek_end v e = rw e

  seek_stuck : (v : Search) (c : ℕ) (bytes : List ℕ) → shown_at T v ≡ Ok None → step_of falling T v c ≡ damage
      → seek_of falling T v (c ∷ bytes) ≡ damage
  unfolding seek_of
  seek_stuck v c bytes e k = rw (e, k)

  seek_on : (v w : Search) (c : ℕ) (bytes : List ℕ) → shown_at T v ≡ Ok None → step_of falling T v c ≡ Ok w
      → seek_of falling T v (c ∷ bytes) ≡ seek_of falling T w bytes
  unfolding seek_of
  seek_on v w c bytes e k = rw (e, k)

  -- from a value on, at another one
  pub record Seeking (text : List ℕ) (from at : Search) : Type 0 where
    pub same : seek_of falling T at (rest text at) ≡ seek_of falling T from (rest text from)
    pub bounded : Bounded text at

  module _ {text : List ℕ} {from at : Search} (S : Seeking text from at) where
    pub sought_given : (row : Row) → shown_at T at ≡ Ok (Some row) → Ok (sought.Given row at) ≡ seek_of falling T from (rest text from)
    sought_given row e = sym (seek_given at (rest text at) row e) ∙ S.same

    pub sought_broken : shown_at T at ≡ damage → damage ≡ seek_of falling T from (rest text from)
    sought_broken e = sym (seek_broken at (rest text at) e) ∙ S.same

    pub sought_end : shown_at T at ≡ Ok None → length text ≤ at.place → Ok (sought.End at) ≡ seek_of falling T from (rest text from)
    sought_end e h = sym (ap (seek_of falling T at) (rest_none text at h) ∙ seek_end at e) ∙ S.same

    pub sought_stuck : shown_at T at ≡ Ok None → at.place < length text → step_of falling T at (get_or text at.place 0) ≡ damage
        → damage ≡ seek_of falling T from (rest text from)
    sought_stuck e h k = sym (ap (seek_of falling T at) (rest_next text at h) ∙ seek_stuck at _ _ e k) ∙ S.same

    pub sought_on : (w : Search) → Shallow T.depth → shown_at T at ≡ Ok None → at.place < length text
        → step_of falling T at (get_or text at.place 0) ≡ Ok w
        → Seeking text from w
    sought_on w shallow e h k =
        let s = stepped falling T at _ w shallow k in
        record {
          same = ap (seek_of falling T w) (rest_after text at w s.onward) ∙ sym (ap (seek_of falling T at) (rest_next text at h) ∙ seek_on at w _ _ e k) ∙ S.same;
          bounded = bounded_next S.bounded h s;
        }

-- ---- with a match in hand

module _ (T : Tables) where
  keep_end : (m : Match) (v : Search) → keep_of T m v [] ≡ Ok (m, v)
  unfolding keep_of
  keep_end m v = refl

  keep_stuck : (m : Match) (v : Search) (c : ℕ) (bytes : List ℕ) → step_of true T v c ≡ damage → keep_of T m v (c ∷ bytes) ≡ damage
  unfolding keep_of
  keep_stuck m v c bytes k = rw k

  module _ (m : Match) (v w : Search) (c : ℕ) (bytes : List ℕ) (k : step_of true T v c ≡ Ok w) where
    keep_root : w.state.0 ≡ root → keep_of T m v (c ∷ bytes) ≡ Ok (m, w)
    unfolding keep_of
    keep_root z = rw (k, eq-eqb w.state.0 root z)

    keep_given : (row : Row) → (w.state.0 ≡ root → ⊥) → shown_at T w ≡ Ok (Some row) → keep_of T m v (c ∷ bytes) ≡ keep_of T (match_of row w.place) w bytes
    unfolding keep_of
    keep_given row nz e = rw (k, ne_eqb w.state.0 root nz, e)

    keep_nothing : (w.state.0 ≡ root → ⊥) → shown_at T w ≡ Ok None → keep_of T m v (c ∷ bytes) ≡ keep_of T m w bytes
    unfolding keep_of
    keep_nothing nz e = rw (k, ne_eqb w.state.0 root nz, e)

    keep_broken : (w.state.0 ≡ root → ⊥) → shown_at T w ≡ damage → keep_of T m v (c ∷ bytes) ≡ damage
    unfolding keep_of
    keep_broken nz e = rw (k, ne_eqb w.state.0 root nz, e)

  -- from a match and a value on, at others
  pub record Keeping (text : List ℕ) (first : Match) (from : Search) (m : Match) (at : Search) : Type 0 where
    pub same : keep_of T m at (rest text at) ≡ keep_of T first from (rest text from)
    pub bounded : Bounded text at

  module _ {text : List ℕ} {first : Match} {from : Search} {m : Match} {at : Search} (K : Keeping text first from m at) where
    pub kept_end : length text ≤ at.place → Ok (m, at) ≡ keep_of T first from (rest text from)
    kept_end h = sym (ap (keep_of T m at) (rest_none text at h) ∙ keep_end m at) ∙ K.same

    pub kept_stuck : at.place < length text → step_of true T at (get_or text at.place 0) ≡ damage → damage ≡ keep_of T first from (rest text from)
    kept_stuck h k = sym (ap (keep_of T m at) (rest_next text at h) ∙ keep_stuck m at _ _ k) ∙ K.same

    module _ (w : Search) (h : at.place < length text) (k : step_of true T at (get_or text at.place 0) ≡ Ok w) where
      pub kept_root : w.state.0 ≡ root → Ok (m, w) ≡ keep_of T first from (rest text from)
      kept_root z = sym (ap (keep_of T m at) (rest_next text at h) ∙ keep_root m at w _ _ k z) ∙ K.same

      pub kept_broken : (w.state.0 ≡ root → ⊥) → shown_at T w ≡ damage → damage ≡ keep_of T first from (rest text from)
      kept_broken nz e = sym (ap (keep_of T m at) (rest_next text at h) ∙ keep_broken m at w _ _ k nz e) ∙ K.same

      pub kept_given : (row : Row) → Shallow T.depth → (w.state.0 ≡ root → ⊥) → shown_at T w ≡ Ok (Some row)
          → Keeping text first from (match_of row w.place) w
      kept_given row shallow nz e =
          let s = stepped true T at _ w shallow k in
          record {
            same = ap (keep_of T (match_of row w.place) w) (rest_after text at w s.onward) ∙ sym (ap (keep_of T m at) (rest_next text at h) ∙ keep_given m at w _ _ k row nz e) ∙ K.same;
            bounded = bounded_next K.bounded h s;
          }

      pub kept_nothing : Shallow T.depth → (w.state.0 ≡ root → ⊥) → shown_at T w ≡ Ok None → Keeping text first from m w
      kept_nothing shallow nz e =
          let s = stepped true T at _ w shallow k in
          record {
            same = ap (keep_of T m w) (rest_after text at w s.onward) ∙ sym (ap (keep_of T m at) (rest_next text at h) ∙ keep_nothing m at w _ _ k nz e) ∙ K.same;
            bounded = bounded_next K.bounded h s;
          }

  -- the match that was made is that match
  pub kept_matched : {text : List ℕ} {first : Match} {from : Search} {m m' : Match} {at : Search} → m' ≡ m → Keeping text first from m at → Keeping text first from m' at
  kept_matched {text} {first} {from} {m} {m'} {at} e K = subst (λ (x : Match). Keeping text first from x at) (sym e) K

-- a match of an output that is given begins in the text
pub row_fits : (T : Tables) (v : Search) (row : Row) → shown_at T v ≡ Ok (Some row) → row.length ≤ v.place
row_fits T v row e = ((claims.given T.outs T.accepted v.output v.place row.value row.length row.next).0 e).fits
