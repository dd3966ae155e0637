-- Where the patterns of a list stand in its bytes.
use mathlib.Core.Path.{◌≡◌, refl, sym, ap, ◌∙◌}
use mathlib.Core.Bool.{false}
use mathlib.Core.List.Memᴰ
use mathlib.Core.List.{List, [], ◌∷◌, Memᴰ}
use mathlib.Core.Logic.{⊎_elim}
use Prim.Native.Nat.{ℕ, zero, suc, ◌+◌, ◌-◌, ◌≤◌, ◌<◌}
use native.Mathlib.Nat.{not-suc-le-zero, le_of_suc-le-suc}
use native.Mathlib.Decide.{dec_lt}
use native.Mathlib.Omega.{arith}
use lib.Dec.{ltb}
use lib.ListN.{length, take, drop, get_or, length-drop, length-take, get_or-eq_default}
use lib.Seq.{length-take-le, get_or-take, get_or-drop}
use Rattle.std.proofs.lemmas.Bool.{ltb-false, or_parts}
use Rattle.list.specs.Listed.{patterns_from, patterns_of, start_of, end_of, falls, last_from}
use Rattle.list.specs.Claims.{Bytes, SoundEnds, Standing}

-- ---- over any start a

patterns_length_from : (a : ℕ) (bytes ends : List ℕ) → length (patterns_from a bytes ends) ≡ length ends
unfolding patterns_from
patterns_length_from a bytes [] = refl
patterns_length_from a bytes (e ∷ es) = ap suc (patterns_length_from e bytes es)

part_from : (a : ℕ) (bytes ends : List ℕ) (i : ℕ) → i < length ends
    → take (get_or ends i 0 - get_or (a ∷ ends) i 0) (drop (get_or (a ∷ ends) i 0) bytes) ≡ get_or (patterns_from a bytes ends) i []
unfolding patterns_from
part_from a bytes [] i l = absurd (not-suc-le-zero l)
part_from a bytes (e ∷ es) zero l = refl
part_from a bytes (e ∷ es) (suc i) l = part_from e bytes es i (le_of_suc-le-suc l)

rise : (a e : ℕ) (es : List ℕ) → falls a (e ∷ es) ≡ false → a ≤ e
unfolding falls
rise a e es f = ltb-false e a (or_parts (ltb e a) (falls e es) f).0

rise_after : (a e : ℕ) (es : List ℕ) → falls a (e ∷ es) ≡ false → falls e es ≡ false
unfolding falls
rise_after a e es f = (or_parts (ltb e a) (falls e es) f).1

pub ordered_from : (a : ℕ) (ends : List ℕ) (i : ℕ) → falls a ends ≡ false → i < length ends → get_or (a ∷ ends) i 0 ≤ get_or ends i 0
ordered_from a [] i f l = absurd (not-suc-le-zero l)
ordered_from a (e ∷ es) zero f l = rise a e es f
ordered_from a (e ∷ es) (suc i) f l = ordered_from e es i (rise_after a e es f) (le_of_suc-le-suc l)

above_from : (a : ℕ) (ends : List ℕ) → falls a ends ≡ false → a ≤ last_from a ends
unfolding last_from
above_from a [] f = omega arith
above_from a (e ∷ es) f = omega (arith, rise a e es f, above_from e es (rise_after a e es f))

within_from : (a : ℕ) (ends : List ℕ) (i : ℕ) → falls a ends ≡ false → i < length ends → get_or ends i 0 ≤ last_from a ends
unfolding last_from
within_from a [] i f l = absurd (not-suc-le-zero l)
within_from a (e ∷ es) zero f l = above_from e es (rise_after a e es f)
within_from a (e ∷ es) (suc i) f l = within_from e es i (rise_after a e es f) (le_of_suc-le-suc l)

-- ---- a part of the bytes

part_length : (s e : ℕ) (bytes : List ℕ) → s ≤ e → e ≤ length bytes → length (take (e - s) (drop s bytes)) ≡ e - s
part_length s e bytes h k = length-take-le (e - s) (drop s bytes) (rw (length-drop s bytes) (omega arith))

part_bytes : (n s : ℕ) (bytes : List ℕ) → Bytes bytes → Bytes (take n (drop s bytes))
part_bytes n s bytes b k =
    elim (dec_lt k n) [
      | yes l ↦ rw (get_or-take n (drop s bytes) k 0 l, get_or-drop s bytes k 0) (b (s + k))
      | no l ↦ rw (get_or-eq_default (take n (drop s bytes)) 0 {n = k} (omega (arith, length-take n (drop s bytes)))) (omega arith)
    ]

-- ---- the listed patterns

pub patterns_length : (bytes ends : List ℕ) → length (patterns_of bytes ends) ≡ length ends
patterns_length bytes ends = patterns_length_from 0 bytes ends

pub standing : (bytes ends : List ℕ) → SoundEnds bytes ends → (i : ℕ) → i < length ends → Standing bytes ends i
standing bytes ends s i l =
    let o : start_of ends i ≤ end_of ends i = ordered_from 0 ends i s.rising l in
    let w : end_of ends i ≤ length bytes = omega (arith, within_from 0 ends i s.rising l, s.whole) in
    record {
      ordered = o;
      within = w;
      part = part_from 0 bytes ends i l;
      size = ap length (sym (part_from 0 bytes ends i l)) ∙ part_length (start_of ends i) (end_of ends i) bytes o w;
    }

-- an element of a list stands at an index
pub member_at : {A : Type 0} (d x : A) (xs : List A) → Memᴰ x xs → (i : ℕ) × (i < length xs) × (get_or xs i d ≡ x)
member_at d x [] m = absurd (Memᴰ.not-nil m)
member_at d x (y ∷ ys) m =
    ⊎_elim (λ e. (0, omega arith, sym e)) (λ t. let r = member_at d x ys t in (suc r.0, omega (arith, r.1), r.2)) (Memᴰ.cases_cons m)

pub pattern_bytes : (bytes ends : List ℕ) → Bytes bytes → (p : List ℕ) → Memᴰ p (patterns_of bytes ends) → Bytes p
pattern_bytes bytes ends b p m =
    let r = member_at [] p (patterns_of bytes ends) m in
    let l : r.0 < length ends = omega (arith, r.1, patterns_length bytes ends) in
    let e : take (end_of ends r.0 - start_of ends r.0) (drop (start_of ends r.0) bytes) ≡ p = part_from 0 bytes ends r.0 l ∙ r.2 in
    rw (← e) (part_bytes (end_of ends r.0 - start_of ends r.0) (start_of ends r.0) bytes b)
