-- What stands at the output place of a value, and what a step does: its hunt meets damage and it answers so, or it goes on in a cell.
use mathlib.Core.Path.{◌≡◌, refl, subst}
use mathlib.Core.Bool.{Bool, ◌&&◌}
use mathlib.Core.Logic.{inl, inr, ⊎_elim, ◌↔◌}
use Prim.Native.Nat.{ℕ, suc, ◌+◌, ◌<◌}
use native.Mathlib.Omega.{arith}
use lib.Dec.{eqb}
use lib.ListN.{length}
use Rattle.std.specs.Prelude.{Option, Some, None, Result, Ok, Err}
use Rattle.paper.proofs.Tests.{test, clash}
use Rattle.table.specs.Agrees.{Tables, Rooms, output_in}
use Rattle.table.specs.Claims.{BrokenAt}
use Rattle.table.specs.declared.CellId.{CellId}
use Rattle.table.proofs.Claims as readers
use Rattle.table.specs.declared.Damage.{Damage}
use Rattle.table.specs.Readers.{damage}
use Rattle.search.specs.declared.Search.{Search}
use Rattle.search.specs.Values.{root, value_of}
use Rattle.search.specs.Walk.{take_in, begins_in, step_of}
use Rattle.search.specs.Searches.{shown_at}
use Rattle.search.specs.Damage.{HuntMeets, OutputBroken, place_past_outputs, next_not_below, length_zero, length_above_end}
use Rattle.search.proofs.Hunting.{never, depth_in, Within, hunting, hunt_within}

-- ---- the output of a value

-- an output is damaged exactly if a line of the list holds of it
pub output_broken : (T : Tables) → Rooms T → (place end : ℕ) → output_in T place end ≡ damage → OutputBroken T place end
output_broken T R place end e =
    let B = ((readers.claims).broken T.outs T.accepted place end).0 e in
    ⊎_elim (λ q. place_past_outputs q)
    (⊎_elim (λ q. place_past_outputs (omega (arith, R.outs_room)))
    (⊎_elim (λ q. next_not_below B.0 q) (⊎_elim (λ q. length_zero B.0 q) (λ q. length_above_end B.0 q))))
    B.1

pub broken_output : (T : Tables) (place end : ℕ) → OutputBroken T place end → output_in T place end ≡ damage
broken_output T place end B = ((readers.claims).broken T.outs T.accepted place end).1 (line B)
  where
    line : OutputBroken T place end → BrokenAt T.outs T.accepted place end
    line (place_past_outputs q) = ((λ z. omega arith), inl q)
    line (next_not_below z q) = (z, inr (inr (inl q)))
    line (length_zero z q) = (z, inr (inr (inr (inl q))))
    line (length_above_end z q) = (z, inr (inr (inr (inr q))))

-- there is no output exactly at place 0
pub ended : (T : Tables) (v : Search) → (shown_at T v ≡ Ok None) ↔ (v.output ≡ 0)
ended T v = (readers.claims).ended T.outs T.accepted v.output v.place

-- ---- a step

-- what a step does: its hunt meets damage, or it goes on to a value one byte further, in a cell
pub data Steps (falling : Bool) (T : Tables) (v : Search) (c : ℕ) : Type 0 where
  stops : HuntMeets falling T c v.state → step_of falling T v c ≡ damage → Steps falling T v c
  goes : (HuntMeets falling T c v.state → ⊥) → (w : Search) → step_of falling T v c ≡ Ok w → w.state.0 < T.cells
      → w.place ≡ v.place + 1
      → Steps falling T v c

module _ (T : Tables) (R : Rooms T) (falling : Bool) where
  -- the outputs of a cell begin somewhere or nowhere
  begins_told : (s : CellId) → s.0 < T.cells → begins_in falling T s ≡ damage → ⊥
  begins_told s h =
      test (falling && eqb s.0 root) (λ z. rw z (λ e. never (cc)))
      (λ z. rw z (λ e. clash (((readers.claims).is_there T.cells (length T.output) s.0).1 (h, omega (arith, R.output_room)))
      (((readers.claims).astray T.output T.cells s.0).0 e)))

  pub steps : (v : Search) (c : ℕ) → v.state.0 < T.cells → Steps falling T v c
  unfolding step_of
  steps v c h = go (take_in falling T v.state c v.moves) refl
    where
      hunts : (take_in falling T v.state c v.moves ≡ damage) ↔ HuntMeets falling T c v.state
      hunts = hunting T R falling c (depth_in T v.state.0) v.state v.moves h (omega arith)

      moves_on : (s : CellId) (m : ℕ) → take_in falling T v.state c v.moves ≡ Ok (s, m) → s.0 < T.cells
          → (r : Result (Option ℕ) Damage) → begins_in falling T s ≡ r → Steps falling T v c
      moves_on s m e l (Ok (Some p)) b = goes (λ M. never (cc (hunts.1 M))) (value_of s p (v.place + 1) m) (rw (e, b)) l refl
      moves_on s m e l (Ok None) b = goes (λ M. never (cc (hunts.1 M))) (value_of s 0 (v.place + 1) m) (rw (e, b)) l refl
      moves_on s m e l (Err _) b = absurd (begins_told s l b)

      go : (r : Result (CellId × ℕ) Damage) → take_in falling T v.state c v.moves ≡ r → Steps falling T v c
      go (Ok p) e =
          moves_on p.0 p.1 e
          (subst (Within T.cells) e (hunt_within T R falling c (suc (depth_in T v.state.0)) v.state v.moves h))
          (begins_in falling T p.0) refl
      go (Err _) e = stops (hunts.0 e) (rw e)

  -- a step answers damage exactly where its hunt meets damage
  pub stepped : (v : Search) (c : ℕ) → v.state.0 < T.cells → (step_of falling T v c ≡ damage) ↔ HuntMeets falling T c v.state
  stepped v c h = go (steps v c h)
    where
      go : Steps falling T v c → (step_of falling T v c ≡ damage) ↔ HuntMeets falling T c v.state
      go (stops M q) = ((λ e. M), λ _. q)
      go (goes n w q l p) = ((λ e. absurd (never (cc))), λ M. absurd (n M))

  -- a step that goes on goes to a cell
  pub step_below : (v w : Search) (c : ℕ) → v.state.0 < T.cells → step_of falling T v c ≡ Ok w → w.state.0 < T.cells
  step_below v w c h e = go (steps v c h)
    where
      go : Steps falling T v c → w.state.0 < T.cells
      go (stops M q) = absurd (never (cc))
      go (goes n u q l p) = let same : u ≡ w = cc in rw same at l
