-- The walk of Standard: (A) its state is the longest suffix that is a state, and (B) what it puts out is the overlapping list.
use mathlib.Core.Path.{◌≡◌, refl, sym, ap, ap₂, ◌∙◌}
use mathlib.Core.Bool.{Bool}
use mathlib.Core.List.{List, [], ◌∷◌, ◌++◌, map, append-nil}
use Prim.Native.Nat.{ℕ, suc, ◌≤◌}
use native.Mathlib.Omega.{arith}
use lib.ListN.{length, take, length-append}
use lib.Seq.{take-append_seam}
use Rattle.paper.specs.Lists.{snoc, each}
use Rattle.paper.specs.Patterns.{Entry, standard}
use Rattle.paper.specs.Matches.{Occurrence, ending_at, by_end, overlapping}
use Rattle.paper.specs.Automaton.{Machine, machine, is_state, longest_state, output, end_at, Walk, fresh, step, walk, never, says_all}
use Rattle.paper.proofs.Strings.{snoc_append, length_snoc}
use Rattle.paper.proofs.Longest.{longest_step}
use Rattle.paper.proofs.Links.{hunt_found}
use Rattle.paper.proofs.Outputs.{endings, output_here}
use Rattle.paper.proofs.Machines.{machine_states, standard_lawful, never_before}
use Rattle.paper.proofs.Ends.{endings_here}

module _ (es : List Entry) where
  abbrev M : Machine
  M = machine standard es

  abbrev S : List ℕ → Bool
  S = is_state es

  -- ---- (A)

  step_state : (w : Walk) (c : ℕ) → (step M w c).state ≡ longest_state S (snoc w.state c)
  unfolding step
  step_state w c =
      rw (hunt_found M (standard_lawful es) (length w.state) w.state c (omega arith), never_before es (snoc w.state c))

  -- the walk stands at the longest suffix of what it read; so it does after one byte more
  pub step_longest : (w : Walk) (u : List ℕ) (c : ℕ) → w.state ≡ longest_state S u → (step M w c).state ≡ longest_state S (snoc u c)
  step_longest w u c h =
      step_state w c ∙ ap (λ (l : List ℕ). longest_state S (snoc l c)) h ∙ sym (longest_step S (machine_states es) u c)

  pub walk_state : (w : Walk) (u t : List ℕ) → w.state ≡ longest_state S u → (walk M never w t).state ≡ longest_state S (u ++ t)
  unfolding walk
  walk_state w u [] h = rw append-nil h
  walk_state w u (c ∷ t) h = rw (← snoc_append u c t) (walk_state (step M w c) (snoc u c) t (step_longest w u c h))

  -- ---- (B)

  pub output_longest : (u : List ℕ) → output M (longest_state S u) ≡ endings M u
  output_longest u = output_here M (standard_lawful es) u (never_before es u)

  -- what the walk puts out after u and the byte c is what ends there in the text
  output_ends : (w : Walk) (u : List ℕ) (c : ℕ) (t : List ℕ) → w.state ≡ longest_state S u
      → map (end_at (suc (length u))) (output M (step M w c).state) ≡ ending_at es (u ++ c ∷ t) (suc (length u))
  output_ends w u c t h =
      let there : suc (length u) ≤ length (u ++ c ∷ t) = omega (arith, length-append u (c ∷ t)) in
      let read : take (suc (length u)) (u ++ c ∷ t) ≡ snoc u c
      = ap₂ (λ (k : ℕ) (l : List ℕ). take k l) (sym (length_snoc u c)) (sym (snoc_append u c t)) ∙ take-append_seam (snoc u c) t in
      rw (step_longest w u c h, output_longest (snoc u c), ← read) (endings_here es (u ++ c ∷ t) (suc (length u)) there)

  says_all_lem : (w : Walk) (u t : List ℕ) → w.state ≡ longest_state S u
      → says_all M w (length u) t ≡ each (suc (length u)) (length t) (λ e. ending_at es (u ++ t) e)
  unfolding says_all each
  says_all_lem w u [] h = refl
  says_all_lem w u (c ∷ t) h =
      let on = says_all_lem (step M w c) (snoc u c) t (step_longest w u c h) in
      ap₂ (λ (a b : List Occurrence). a ++ b) (output_ends w u c t h) (rw (length_snoc u c, snoc_append u c t) at on)

  pub says_overlapping : (t : List ℕ) → says_all M fresh 0 t ≡ overlapping es t
  unfolding overlapping by_end longest_state
  says_overlapping t = says_all_lem fresh [] t refl
