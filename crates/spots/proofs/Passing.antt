-- The look for the next vacant index: runs of taken cells are passed, and a run never reaches past the end, which is vacant.
use mathlib.Core.Path.{◌≡◌, subst}
use mathlib.Core.Bool.{true}
use mathlib.Core.List.{List}
use Prim.Native.Nat.{ℕ, ◌+◌, ◌-◌, ◌≤◌, ◌<◌}
use native.Mathlib.Decide.{dec_lt}
use native.Mathlib.Omega.{arith}
use Rattle.zeros.specs.Rows.{field}
use Rattle.std.proofs.lemmas.Bool.{not-true}
use Rattle.paper.proofs.Tests.{clash}
use Rattle.plan.specs.Placement.{Layout, taken_cell}
use Rattle.spots.specs.Charted.{Stretch}

-- the look has come to i
pub record Passed (l : Layout) (from end i : ℕ) : Type 0 where
  pub reached : from ≤ i
  pub within : i ≤ end
  pub taken : (j : ℕ) → from ≤ j → j < i → taken_cell l j ≡ true

module _ {rows : List (List ℕ)} {l : Layout} {from end : ℕ} (S : Stretch rows l from end) where
  module _ {i : ℕ} (P : Passed l from end i) where
    -- the run at i ends before the end of the stretch
    pub run_within : i < end → i + field rows i 0 ≤ end
    run_within h =
        elim (dec_lt end (i + field rows i 0)) [
          | yes k ↦
              let e : i + (end - i) ≡ end = omega arith in
              let t : taken_cell l (i + (end - i)) ≡ true = S.charted.run i (end - i) (omega (arith, S.room)) (omega arith) in
              clash (subst (λ (j : ℕ). taken_cell l j ≡ true) e t) (not-true (taken_cell l end) S.past)
          | no k ↦ omega arith
        ]

    pub passed_run : i < end → Passed l from end (i + field rows i 0)
    passed_run h =
        record {
          reached = omega (arith, P.reached);
          within = run_within h;
          taken = λ j lo hi. elim (dec_lt j i) [
            | yes k ↦ P.taken j lo k
            | no k ↦
                let e : i + (j - i) ≡ j = omega arith in
                subst (λ (m : ℕ). taken_cell l m ≡ true) e (S.charted.run i (j - i) (omega (arith, S.room)) (omega arith))
          ];
        }
