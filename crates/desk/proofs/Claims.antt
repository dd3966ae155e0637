-- The claims of specs/Claims.antt: the tables that hold rows, seen by a build and by the test for hazards.
use mathlib.Core.Path.{◌≡◌, refl, ap, ap₂, ◌∙◌}
use mathlib.Core.Bool.{Bool, false, ◌&&◌, ◌||◌}
use mathlib.Core.List.{List, [], ◌∷◌, ◌++◌, map, append_assoc}
use Prim.Native.Nat.{ℕ, ◌+◌, ◌-◌}
use native.Mathlib.Omega.{arith}
use lib.Dec.{eqb}
use lib.ListN.{length, take, drop, length-append}
use lib.Seq.{take-append_seam, drop_at}
use Rattle.paper.specs.Lists.{same}
use Rattle.std.proofs.lemmas.Bool.{le-ltb}
use Rattle.paper.proofs.Strings.{same_eq, eq_same}
use Rattle.list.specs.Listed.{patterns_from, falls, last_from}
use Rattle.list.specs.Claims.{SoundEnds}
use Rattle.desk.specs.Rows.{Listed}
use Rattle.desk.specs.Codes.{joined, ends_from, marks_of}
use Rattle.desk.specs.Hazards.{hazard, warned}
use Rattle.desk.specs.Claims.{DeskClaims}

-- the codes of rows
abbrev codes_of : List Listed → List (List ℕ)
codes_of rs = map (λ (r : Listed). r.code) rs

-- ---- the ends cut the codes

rising : (a : ℕ) (rs : List Listed) → falls a (ends_from a rs) ≡ false
unfolding falls ends_from
rising a [] = refl
rising a (r ∷ rs) = rw (le-ltb (a + length r.code) a (omega arith)) (rising (a + length r.code) rs)

last_end : (a : ℕ) (rs : List Listed) → last_from a (ends_from a rs) ≡ a + length (joined rs)
unfolding last_from ends_from joined
last_end a [] = omega arith
last_end a (r ∷ rs) = last_end (a + length r.code) rs ∙ (omega (arith, length-append r.code (joined rs)))

cut_out : (rs : List Listed) → SoundEnds (joined rs) (ends_from 0 rs)
cut_out rs = record { rising = rising 0 rs; whole = last_end 0 rs ∙ omega arith }

-- behind the bytes of earlier rows
codes_behind : (before : List ℕ) (rs : List Listed) → patterns_from (length before) (before ++ joined rs) (ends_from (length before) rs) ≡ codes_of rs
unfolding patterns_from ends_from joined
codes_behind before [] = refl
codes_behind before (r ∷ rs) =
    let e : length before + length r.code - length before ≡ length r.code = omega arith in
    let d : drop (length before) (before ++ (r.code ++ joined rs)) ≡ r.code ++ joined rs = drop_at before (r.code ++ joined rs) (length before) refl in
    let here : take (length before + length r.code - length before) (drop (length before) (before ++ (r.code ++ joined rs))) ≡ r.code =
    rw (e, d) (take-append_seam r.code (joined rs)) in
    let rest : patterns_from (length before + length r.code) (before ++ (r.code ++ joined rs)) (ends_from (length before + length r.code) rs) ≡ codes_of rs =
    rw (← length-append before r.code, ← append_assoc before r.code (joined rs)) (codes_behind (before ++ r.code) rs) in
    ap₂ (λ (p : List ℕ) (ps : List (List ℕ)). p ∷ ps) here rest

-- ---- hazards

warns_of : (rs : List Listed) (code : List ℕ) → hazard (codes_of rs) (marks_of rs) code ≡ warned rs code
unfolding hazard warned
warns_of [] code = refl
warns_of (r ∷ rs) code = ap (λ (b : Bool). (eqb r.mark 1 && same r.code code) || b) (warns_of rs code)

pub claims : DeskClaims
claims =
    record {
      held = λ rs count end bytes ends values marks h.
          record {
            cut = rw (h.bytes_are, h.ends_are) (cut_out rs);
            patterns = rw (h.bytes_are, h.ends_are) (codes_behind [] rs);
            warns = λ code. rw (h.bytes_are, h.ends_are, h.marks_are, codes_behind [] rs) (warns_of rs code);
          };
      same_only = same_eq;
      same_all = eq_same;
    }
