-- What a call answers, by its ways: refused before the walk, or by what the walk comes to.
use mathlib.Core.Path.{◌≡◌, refl, sym, ap, ◌∙◌, subst}
use mathlib.Core.Bool.{Bool, true, false, ◌||◌}
use mathlib.Core.List.{List, [], ◌∷◌}
use mathlib.Core.Option.{none, some}
use Prim.Native.Nat.{ℕ, ◌+◌, ◌*◌, ◌≤◌}
use native.Mathlib.Omega.{arith}
use lib.Dec.{leb, ltb}
use lib.ListN.{length, length-drop}
use Rattle.std.specs.Prelude.{Option, Some, None, Result, Ok, Err}
use Rattle.std.proofs.lemmas.Bool.{ltb-false, or_parts}
use Rattle.paper.proofs.Tests.{test}
use Rattle.list.specs.Limits.{last_kind, most_text}
use Rattle.list.specs.Refusals.{lowest}
use Rattle.table.specs.Agrees.{Tables}
use Rattle.table.specs.declared.Row.{Row}
use Rattle.table.specs.declared.Damage.{Damage}
use Rattle.table.specs.Readers.{damage}
use Rattle.search.specs.declared.Search.{Search}
use Rattle.search.specs.declared.Match.{Match}
use Rattle.search.specs.declared.Refusal.{Refusal}
use Rattle.search.specs.declared.seek.Sought.{Sought}
use Rattle.search.specs.declared.seek.Sought.TheVariants as sought
use Rattle.search.specs.Values.{Which, overlapping, plain, leftmost, match_of, gives, ends, refuses, number}
use Rattle.search.specs.Bounds.{most_at, Shallow, Bounded, Arrives}
use Rattle.search.specs.Walk.{step_of}
use Rattle.search.specs.Admission.{other_kind, counts_broken, value_broken, at_first, told}
use Rattle.search.specs.Searches.{shown_at, seek_of, keep_of, rest, cleared, from, is_leftmost, after_output, after_plain, after_leftmost, walk_of, next_of}
use Rattle.search.proofs.Hunting.{never}
use Rattle.search.proofs.Advancing.{stepped}
use Rattle.search.proofs.Loops.{row_fits}

-- ---- the tests that come first

-- what a value that is granted its walk has
pub record Granted (size : ℕ) (v : Search) : Type 0 where
  pub short : size ≤ most_text
  pub inside : v.place ≤ size
  pub few : v.moves ≤ 2 * v.place

value_sound : (cells accepted size : ℕ) (v : Search) → size ≤ most_text → value_broken cells accepted size v ≡ false → Granted size v
value_sound cells accepted size v s h =
    let places = ltb size v.place in
    let moves = ltb (2 * v.place) v.moves in
    let outputs = ltb accepted v.output in
    let p : (places || moves) ≡ false = (or_parts outputs (places || moves) (or_parts (leb cells v.state.0) (outputs || (places || moves)) h).1).1 in
    record {
      short = s;
      inside = ltb-false size v.place (or_parts places moves p).0;
      few = ltb-false (2 * v.place) v.moves (or_parts places moves p).1;
    }

module _ (l : Bool) (T : Tables) (kind size : ℕ) (v : Search) where
  abbrev value : Bool
  value = value_broken T.cells T.accepted size v

  granted_none : none ≡ lowest (at_first l T kind size v) → Granted size v
  unfolding lowest
  granted_none e =
      test (other_kind l kind) (λ a. let x = (rw a at e) in absurd (never (cc x)))
      (λ a. test (ltb most_text size) (λ b. let x = (rw (a, b) at e) in absurd (never (cc x)))
      (λ b. test (ltb last_kind kind || (counts_broken T || value)) (λ c. let x = (rw (a, b, c) at e) in absurd (never (cc x)))
      (λ c. value_sound T.cells T.accepted size v (ltb-false most_text size b)
      (or_parts (counts_broken T) value (or_parts (ltb last_kind kind) (counts_broken T || value) c).1).1)))

  -- by the answer r of the admission
  module _ (r : Result (Unit {0}) Refusal) (e : told r ≡ lowest (at_first l T kind size v)) where
    pub granted : r ≡ Ok tt → Granted size v
    granted g = granted_none (sym (ap told g) ∙ e)

    none_told : r ≡ Ok tt → none ≡ lowest (at_first l T kind size v)
    none_told g = sym (ap told g) ∙ e

    pub first_told : (why : Refusal) → r ≡ Err why → some (record { number = number why; index = 0 }) ≡ lowest (at_first l T kind size v)
    first_told why g = sym (ap told g) ∙ e

-- ---- where the walk begins

-- a granted value has few moves for its place
pub few_at : {size : ℕ} {v : Search} → Granted size v → v.moves ≤ most_at v.place
few_at G = omega (arith, G.short, G.inside, G.few)

-- what `seek` asks of a value
abbrev pub Seekable : List ℕ → Search → Type 0
Seekable text v = (v.place ≤ length text) × (length text ≤ most_text) × (v.moves ≤ most_at v.place)

-- ---- where it comes to

module _ (falling : Bool) (T : Tables) (text : List ℕ) (shallow : Shallow T.depth) where
  abbrev Reaches : List ℕ → Type 0
  Reaches bytes = (v : Search) → v.place + length bytes ≡ length text → v.moves ≤ most_at v.place → Arrives text (seek_of falling T v bytes)

  at_output_lem : (v : Search) (row : Row) → v.place ≤ length text → v.moves ≤ most_at v.place → shown_at T v ≡ Ok (Some row)
      → Bounded text v × (row.length ≤ v.place)
  at_output_lem v row h k s = (record { inside = h; few = k }, row_fits T v row s)

  arrives_end : Reaches []
  unfolding seek_of
  arrives_end v h k = by (shown_at T v) refl
    where
      by : (r : Result (Option Row) Damage) → shown_at T v ≡ r → Arrives text (seek_of falling T v [])
      by (Ok (Some row)) s = rw s (at_output_lem v row (omega (arith, h)) k s)
      by (Ok None) s = rw s tt
      by (Err _) s = rw s tt

  arrives_byte : (c : ℕ) (bytes : List ℕ) → Reaches bytes → Reaches (c ∷ bytes)
  unfolding seek_of
  arrives_byte c bytes next v h k = by (shown_at T v) refl
    where
      onward : shown_at T v ≡ Ok None → (m : Result Search Damage) → step_of falling T v c ≡ m → Arrives text (seek_of falling T v (c ∷ bytes))
      onward s (Ok w) q =
          let g = stepped falling T v c w shallow q in
          rw (s, q) (next w (rw g.onward (omega (arith, h))) (rw g.onward (omega (arith, k, g.few))))
      onward s (Err _) q = rw (s, q) tt

      by : (r : Result (Option Row) Damage) → shown_at T v ≡ r → Arrives text (seek_of falling T v (c ∷ bytes))
      by (Ok (Some row)) s = rw s (at_output_lem v row (omega (arith, h)) k s)
      by (Ok None) s = onward s (step_of falling T v c) refl
      by (Err _) s = rw s tt

  arrives : (bytes : List ℕ) → Reaches bytes
  arrives [] = arrives_end
  arrives (c ∷ bytes) = arrives_byte c bytes (arrives bytes)

  -- from a value that lies in the text
  pub arrived : (v : Search) → v.place ≤ length text → v.moves ≤ most_at v.place → (r : Result Sought Damage) → r ≡ seek_of falling T v (rest text v)
      → Arrives text r
  arrived v h k r e = subst (Arrives text) (sym e) (arrives (rest text v) v (omega (arith, length-drop v.place text)) k)

-- a value without its output is granted too
pub granted_cleared : {size : ℕ} {v : Search} → Granted size v → Granted size (cleared v)
granted_cleared G = record { short = G.short; inside = G.inside; few = G.few }

-- ---- the answer

module _ (w : Which) (T : Tables) (kind : ℕ) (text : List ℕ) (v : Search) where
  abbrev pub Admitted : Result (Unit {0}) Refusal → Type 0
  Admitted r = told r ≡ lowest (at_first (is_leftmost w) T kind (length text) v)

  pub refused_first : (r : Result (Unit {0}) Refusal) → Admitted r → (why : Refusal) → r ≡ Err why → refuses (number why) v ≡ next_of w T kind text v
  unfolding next_of
  refused_first r e why g = rw (sym (first_told (is_leftmost w) T kind (length text) v r e why g))

  walked : (r : Result (Unit {0}) Refusal) → Admitted r → r ≡ Ok tt → walk_of w T text v ≡ next_of w T kind text v
  unfolding next_of
  walked r e g = rw (sym (none_told (is_leftmost w) T kind (length text) v r e g))

  -- with the answer q of the look for an output
  module _ (r : Result (Unit {0}) Refusal) (e : Admitted r) (g : r ≡ Ok tt) (q : Result Sought Damage) (s : q ≡ seek_of (is_leftmost w) T (from w v) (rest text (from w v))) where
    pub walk_damaged : q ≡ damage → refuses 11 v ≡ next_of w T kind text v
    walk_damaged d = (rw (sym s ∙ d) at (walked r e g))

module _ (T : Tables) (kind : ℕ) (text : List ℕ) (v : Search) (r : Result (Unit {0}) Refusal) (g : r ≡ Ok tt) (q : Result Sought Damage) where
  module _ (e : Admitted overlapping T kind text v r) (s : q ≡ seek_of false T v (rest text v)) where
    pub overlapping_gives : (row : Row) (at : Search) → q ≡ Ok (sought.Given row at)
        → gives (match_of row at.place) (after_output row at) ≡ next_of overlapping T kind text v
    overlapping_gives row at d = (rw (sym s ∙ d) at (walked overlapping T kind text v r e g))

    pub overlapping_ends : (at : Search) → q ≡ Ok (sought.End at) → ends at ≡ next_of overlapping T kind text v
    overlapping_ends at d = (rw (sym s ∙ d) at (walked overlapping T kind text v r e g))

  module _ (e : Admitted plain T kind text v r) (s : q ≡ seek_of false T (cleared v) (rest text v)) where
    pub plain_gives : (row : Row) (at : Search) → q ≡ Ok (sought.Given row at) → gives (match_of row at.place) (after_plain at) ≡ next_of plain T kind text v
    plain_gives row at d = (rw (sym s ∙ d) at (walked plain T kind text v r e g))

    pub plain_ends : (at : Search) → q ≡ Ok (sought.End at) → ends at ≡ next_of plain T kind text v
    plain_ends at d = (rw (sym s ∙ d) at (walked plain T kind text v r e g))

  module _ (e : Admitted leftmost T kind text v r) (s : q ≡ seek_of true T (cleared v) (rest text v)) where
    pub leftmost_ends : (at : Search) → q ≡ Ok (sought.End at) → ends (after_leftmost at.place) ≡ next_of leftmost T kind text v
    leftmost_ends at d = (rw (sym s ∙ d) at (walked leftmost T kind text v r e g))

    -- with the answer p of the walk with the match in hand
    module _ (row : Row) (at : Search) (d : q ≡ Ok (sought.Given row at)) (p : Result (Match × Search) Damage) (h : p ≡ keep_of T (match_of row at.place) at (rest text at)) where
      pub leftmost_gives : (m : Match) (stop : Search) → p ≡ Ok (m, stop) → gives m (after_leftmost m.end) ≡ next_of leftmost T kind text v
      leftmost_gives m stop k = (rw (sym s ∙ d, sym h ∙ k) at (walked leftmost T kind text v r e g))

      pub keep_damaged : p ≡ damage → refuses 11 v ≡ next_of leftmost T kind text v
      keep_damaged k = (rw (sym s ∙ d, sym h ∙ k) at (walked leftmost T kind text v r e g))
