-- The walk up to an output, and the walk with a match in hand: each answers damage exactly where it meets damage. And what the first comes to.
use mathlib.Core.Path.{◌≡◌, refl}
use mathlib.Core.Bool.{Bool, true}
use mathlib.Core.List.{List, [], ◌∷◌}
use mathlib.Core.Logic.{◌↔◌}
use Prim.Native.Nat.{ℕ, ◌+◌, ◌≤◌, ◌<◌}
use native.Mathlib.Omega.{arith}
use lib.Dec.{eqb}
use lib.ListN.{length}
use Rattle.std.specs.Prelude.{Option, Some, None, Result, Ok, Err}
use Rattle.std.proofs.lemmas.Bool.{ne_eqb, eqb-false}
use Rattle.paper.proofs.Tests.{test}
use Rattle.table.specs.Agrees.{Tables, Rooms}
use Rattle.table.specs.declared.Row.{Row}
use Rattle.table.proofs.Claims as readers
use Rattle.table.specs.declared.Damage.{Damage}
use Rattle.table.specs.Readers.{damage}
use Rattle.search.specs.declared.Search.{Search}
use Rattle.search.specs.declared.Match.{Match}
use Rattle.search.specs.declared.seek.Sought.{Sought}
use Rattle.search.specs.declared.seek.Sought.TheVariants as sought
use Rattle.search.specs.Values.{root, match_of}
use Rattle.search.specs.Walk.{on_given, step_of}
use Rattle.search.specs.Searches.{shown_at, seek_of, keep_of}
use Rattle.search.specs.Damage.{OutputBroken, WalkMeets, at_output_lem, in_hunt, after_byte, KeepMeets, keep_in_hunt, keep_at_output, keep_after_byte}
use Rattle.search.specs.Claims.{Lies}
use Rattle.search.proofs.Hunting.{never}
use Rattle.search.proofs.Stepping.{output_broken, broken_output, ended, Steps, stops, goes, steps, stepped, step_below}

-- ---- what is no damage

-- an output or the end is no damage
sought_not : {s : Sought} → ◌≡◌ {A = Result Sought Damage} (Ok s) damage → ⊥
sought_not e = never (cc)

kept_not : {m : Match} {stop : Search} → ◌≡◌ {A = Result (Match × Search) Damage} (Ok (m, stop)) damage → ⊥
kept_not e = never (cc)

-- with a match in hand damage is met only at a byte
byte_left : {T : Tables} {v : Search} → KeepMeets T v [] → ⊥
byte_left M = elim M [ ]

-- ---- up to an output

module _ (T : Tables) (R : Rooms T) (falling : Bool) where
  -- a broken output is damage, whatever bytes are left
  seek_broken : (v : Search) (bytes : List ℕ) → OutputBroken T v.output v.place → seek_of falling T v bytes ≡ damage
  unfolding seek_of
  seek_broken v [] b = rw (broken_output T v.output v.place b)
  seek_broken v (c ∷ bytes) b = rw (broken_output T v.output v.place b)

  -- at the text's end
  seeking_end : (v : Search) → (seek_of falling T v [] ≡ damage) ↔ WalkMeets falling T v []
  unfolding seek_of
  seeking_end v = ((λ e. told e (shown_at T v) refl), met)
    where
      told : seek_of falling T v [] ≡ damage → (r : Result (Option Row) Damage) → shown_at T v ≡ r → WalkMeets falling T v []
      told e (Ok (Some row)) s = absurd (sought_not (rw s at e))
      told e (Ok None) s = absurd (sought_not (rw s at e))
      told e (Err _) s = at_output_lem v [] (output_broken T R v.output v.place s)

      met : WalkMeets falling T v [] → seek_of falling T v [] ≡ damage
      met (at_output_lem _ _ b) = seek_broken v [] b

  -- at a byte, if it is so after it
  seeking_byte : (v : Search) (c : ℕ) (bytes : List ℕ) → v.state.0 < T.cells
      → ((w : Search) → w.state.0 < T.cells → (seek_of falling T w bytes ≡ damage) ↔ WalkMeets falling T w bytes)
      → (seek_of falling T v (c ∷ bytes) ≡ damage) ↔ WalkMeets falling T v (c ∷ bytes)
  unfolding seek_of
  seeking_byte v c bytes h next = ((λ e. told e (shown_at T v) refl), met)
    where
      onward : seek_of falling T v (c ∷ bytes) ≡ damage → v.output ≡ 0 → shown_at T v ≡ Ok None → Steps falling T v c
          → WalkMeets falling T v (c ∷ bytes)
      onward e z s (stops M q) = in_hunt v c bytes z M
      onward e z s (goes n w q l p) = after_byte v w c bytes z q ((next w l).0 (rw (s, q) at e))

      told : seek_of falling T v (c ∷ bytes) ≡ damage → (r : Result (Option Row) Damage) → shown_at T v ≡ r → WalkMeets falling T v (c ∷ bytes)
      told e (Ok (Some row)) s = absurd (sought_not (rw s at e))
      told e (Ok None) s = onward e ((ended T v).0 s) s (steps T R falling v c h)
      told e (Err _) s = at_output_lem v (c ∷ bytes) (output_broken T R v.output v.place s)

      met : WalkMeets falling T v (c ∷ bytes) → seek_of falling T v (c ∷ bytes) ≡ damage
      met (at_output_lem _ _ b) = seek_broken v (c ∷ bytes) b
      met (in_hunt _ _ _ z M) = rw ((ended T v).1 z, (stepped T R falling v c h).1 M)
      met (after_byte _ w _ _ z q M) = rw ((ended T v).1 z, q) ((next w (step_below T R falling v w c h q)).1 M)

  -- it answers damage exactly where it meets damage
  pub seeking : (bytes : List ℕ) (v : Search) → v.state.0 < T.cells → (seek_of falling T v bytes ≡ damage) ↔ WalkMeets falling T v bytes
  seeking [] v h = seeking_end v
  seeking (c ∷ bytes) v h = seeking_byte v c bytes h (λ w l. seeking bytes w l)

-- ---- what the walk up to an output comes to

-- an output that is given: the state is a cell, the place is from here to the end of the bytes, and the length is neither 0 nor above the place
pub record GivenThere (T : Tables) (v : Search) (bytes : List ℕ) (row : Row) (at : Search) : Type 0 where
  pub state : at.state.0 < T.cells
  pub from : v.place ≤ at.place
  pub to : at.place ≤ v.place + length bytes
  pub some : 1 ≤ row.length
  pub fits : row.length ≤ at.place

-- what is shown at a value is given there
given_here : (T : Tables) (v : Search) (bytes : List ℕ) (row : Row) → shown_at T v ≡ Ok (Some row) → v.state.0 < T.cells → GivenThere T v bytes row v
given_here T v bytes row s h =
    let G = ((readers.claims).given T.outs T.accepted v.output v.place row.value row.length row.next).0 s in
    record { state = h; from = omega arith; to = omega arith; some = G.filled; fits = G.fits }

-- at an output this; at the end of the bytes no output is left to give, and they are all taken
abbrev pub Comes : Tables → Search → List ℕ → Result Sought Damage → Type 0
Comes T v bytes (Ok (sought.Given row at)) = GivenThere T v bytes row at
Comes T v bytes (Ok (sought.End at)) = (at.output ≡ 0) × (at.place ≡ v.place + length bytes)
Comes T v bytes (Err _) = Unit {0}

-- what it comes to from one byte further on, it comes to from here
comes_back : (T : Tables) (v w : Search) (c : ℕ) (bytes : List ℕ) → w.place ≡ v.place + 1 → (r : Result Sought Damage) → Comes T w bytes r
    → Comes T v (c ∷ bytes) r
comes_back T v w c bytes p (Ok (sought.Given row at)) C =
    record { state = C.state; from = omega (arith, C.from); to = omega (arith, C.to); some = C.some; fits = C.fits }
comes_back T v w c bytes p (Ok (sought.End at)) C = (C.0, omega (arith, C.1))
comes_back T v w c bytes p (Err _) C = tt

module _ (T : Tables) (R : Rooms T) (falling : Bool) where
  -- at the text's end
  comes_end : (v : Search) → v.state.0 < T.cells → Comes T v [] (seek_of falling T v [])
  unfolding seek_of
  comes_end v h = go (shown_at T v) refl
    where
      go : (r : Result (Option Row) Damage) → shown_at T v ≡ r → Comes T v [] (seek_of falling T v [])
      go (Ok (Some row)) s = rw s (given_here T v [] row s h)
      go (Ok None) s = rw s ((ended T v).0 s, omega arith)
      go (Err _) s = rw s tt

  -- at a byte, if it is so after it
  comes_byte : (v : Search) (c : ℕ) (bytes : List ℕ) → v.state.0 < T.cells
      → ((w : Search) → w.state.0 < T.cells → Comes T w bytes (seek_of falling T w bytes))
      → Comes T v (c ∷ bytes) (seek_of falling T v (c ∷ bytes))
  unfolding seek_of
  comes_byte v c bytes h next = go (shown_at T v) refl
    where
      onward : shown_at T v ≡ Ok None → Steps falling T v c → Comes T v (c ∷ bytes) (seek_of falling T v (c ∷ bytes))
      onward s (stops M q) = rw (s, q) tt
      onward s (goes n w q l p) = rw (s, q) (comes_back T v w c bytes p (seek_of falling T w bytes) (next w l))

      go : (r : Result (Option Row) Damage) → shown_at T v ≡ r → Comes T v (c ∷ bytes) (seek_of falling T v (c ∷ bytes))
      go (Ok (Some row)) s = rw s (given_here T v (c ∷ bytes) row s h)
      go (Ok None) s = onward s (steps T R falling v c h)
      go (Err _) s = rw s tt

  -- from a cell
  pub comes : (bytes : List ℕ) (v : Search) → v.state.0 < T.cells → Comes T v bytes (seek_of falling T v bytes)
  comes [] v h = comes_end v h
  comes (c ∷ bytes) v h = comes_byte v c bytes h (λ w l. comes bytes w l)

-- ---- with a match in hand

module _ (T : Tables) (R : Rooms T) where
  -- at a byte, if it is so after it
  keeping_byte : (m : Match) (v : Search) (c : ℕ) (bytes : List ℕ) → v.state.0 < T.cells
      → ((k : Match) (w : Search) → w.state.0 < T.cells → (keep_of T k w bytes ≡ damage) ↔ KeepMeets T w bytes)
      → (keep_of T m v (c ∷ bytes) ≡ damage) ↔ KeepMeets T v (c ∷ bytes)
  unfolding keep_of
  keeping_byte m v c bytes h next = ((λ e. told e (steps T R true v c h)), met)
    where
      onward : keep_of T m v (c ∷ bytes) ≡ damage → (w : Search) → step_of true T v c ≡ Ok w → w.state.0 < T.cells
          → (w.state.0 ≡ root → ⊥) → (r : Result (Option Row) Damage) → shown_at T w ≡ r → KeepMeets T v (c ∷ bytes)
      onward e w q l z (Ok (Some row)) s =
          keep_after_byte v w c bytes q z (λ d. never (cc))
          ((next (match_of row w.place) w l).0 (rw (q, ne_eqb w.state.0 root z, s) at e))
      onward e w q l z (Ok None) s =
          keep_after_byte v w c bytes q z (λ d. never (cc)) ((next m w l).0 (rw (q, ne_eqb w.state.0 root z, s) at e))
      onward e w q l z (Err _) s = keep_at_output v w c bytes q z (output_broken T R w.output w.place s)

      told : keep_of T m v (c ∷ bytes) ≡ damage → Steps true T v c → KeepMeets T v (c ∷ bytes)
      told e (stops M q) = keep_in_hunt v c bytes M
      told e (goes n w q l p) =
          test (eqb w.state.0 root) (λ z. absurd (kept_not (rw (q, z) at e)))
          (λ z. onward e w q l (eqb-false w.state.0 root z) (shown_at T w) refl)

      after : (w : Search) → step_of true T v c ≡ Ok w → (w.state.0 ≡ root → ⊥) → (shown_at T w ≡ damage → ⊥) → KeepMeets T w bytes
          → (r : Result (Option Row) Damage) → shown_at T w ≡ r → keep_of T m v (c ∷ bytes) ≡ damage
      after w q z d M (Ok (Some row)) s =
          rw (q, ne_eqb w.state.0 root z, s) ((next (match_of row w.place) w (step_below T R true v w c h q)).1 M)
      after w q z d M (Ok None) s = rw (q, ne_eqb w.state.0 root z, s) ((next m w (step_below T R true v w c h q)).1 M)
      after w q z d M (Err _) s = absurd (d s)

      met : KeepMeets T v (c ∷ bytes) → keep_of T m v (c ∷ bytes) ≡ damage
      met (keep_in_hunt _ _ _ M) = rw ((stepped T R true v c h).1 M)
      met (keep_at_output _ w _ _ q z b) = rw (q, ne_eqb w.state.0 root z, broken_output T w.output w.place b)
      met (keep_after_byte _ w _ _ q z d M) = after w q z d M (shown_at T w) refl

  -- it answers damage exactly where it meets damage
  pub keeping : (bytes : List ℕ) (m : Match) (v : Search) → v.state.0 < T.cells → (keep_of T m v bytes ≡ damage) ↔ KeepMeets T v bytes
  unfolding keep_of
  keeping [] m v h = ((λ e. absurd (kept_not e)), λ M. absurd (byte_left M))
  keeping (c ∷ bytes) m v h = keeping_byte m v c bytes h (λ k w l. keeping bytes k w l)

-- ---- the match that is kept

-- the match of an output that is given there lies there
pub match_there : (T : Tables) (v : Search) (bytes : List ℕ) (row : Row) (at : Search) (to : ℕ) → to ≡ v.place + length bytes → GivenThere T v bytes row at
    → Lies v.place to (match_of row at.place)
match_there T v bytes row at to e G =
    record { not_empty = omega (arith, G.some, G.fits); ends_from_lem = G.from; ends_to = omega (arith, G.to) }

-- what is kept lies there
abbrev pub KeptLies : ℕ → ℕ → Result (Match × Search) Damage → Type 0
KeptLies from to (Ok p) = Lies from to p.0
KeptLies from to (Err _) = Unit {0}

-- so does what the walk with such a match in hand keeps last
pub keep_lies : (T : Tables) → Rooms T → (from to : ℕ) (bytes : List ℕ) (m : Match) (v : Search) → v.state.0 < T.cells → from ≤ v.place
    → to ≡ v.place + length bytes
    → Lies from to m
    → KeptLies from to (keep_of T m v bytes)
unfolding keep_of
keep_lies T R from to [] m v h f e L = L
keep_lies T R from to (c ∷ bytes) m v h f e L = go (keep_lies T R from to bytes) (steps T R true v c h)
  where
    onward : ((m' : Match) (u : Search) → u.state.0 < T.cells → from ≤ u.place → to ≡ u.place + length bytes → Lies from to m'
        → KeptLies from to (keep_of T m' u bytes))
        → (w : Search) → w.state.0 < T.cells → w.place ≡ v.place + 1
        → (r : Result (Option Row) Damage) → shown_at T w ≡ r
        → KeptLies from to (on_given r (λ row. keep_of T (match_of row w.place) w bytes) (keep_of T m w bytes) damage)
    onward more w l p (Ok (Some row)) s =
        let G = given_here T w bytes row s l in
        more (match_of row w.place) w l (omega arith) (omega arith)
        (record { not_empty = omega (arith, G.some, G.fits); ends_from_lem = omega arith; ends_to = omega arith })
    onward more w l p (Ok None) s = more m w l (omega arith) (omega arith) L
    onward more w l p (Err _) s = tt

    go : ((m' : Match) (u : Search) → u.state.0 < T.cells → from ≤ u.place → to ≡ u.place + length bytes → Lies from to m'
        → KeptLies from to (keep_of T m' u bytes))
        → Steps true T v c → KeptLies from to (keep_of T m v (c ∷ bytes))
    go more (stops M q) = rw q tt
    go more (goes n w q l p) =
        rw q
        (test (eqb w.state.0 root) (λ z. rw z L)
        (λ z. rw z (onward more w l p (shown_at T w) refl)))
