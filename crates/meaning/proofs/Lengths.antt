-- How long strings get in a walk: a byte makes the state longer by one at most, and what a state puts out is no longer than the state.
use mathlib.Core.Path.{ap}
use mathlib.Core.List.Memᴰ
use mathlib.Core.List.{List, [], ◌∷◌, Memᴰ}
use mathlib.Core.Logic.{⊎_elim}
use Prim.Native.Nat.{ℕ, zero, suc, ◌≤◌}
use native.Mathlib.Omega.{arith}
use lib.ListN.{length}
use Rattle.paper.specs.Patterns.{Entry, Kind}
use Rattle.paper.specs.Automaton.{Machine, machine, is_state, own_of, longest_state, failure, link, is_dead, Walk, step, chain, output}
use Rattle.paper.proofs.Tests.{test}
use Rattle.paper.proofs.Longest.{longest_length}
use Rattle.paper.proofs.Moves.{hunt_pays}
use Rattle.paper.proofs.Leftmost.{in_own}

-- a byte makes the state longer by one at most
pub step_length : (M : Machine) (w : Walk) (c : ℕ) → length (step M w c).state ≤ suc (length w.state)
unfolding step
step_length M w c = let h = hunt_pays M (length w.state) w.state c (omega arith) in omega (arith, h.with_length)

module _ (kind : Kind) (es : List Entry) where
  abbrev M : Machine
  M = machine kind es

  own_length : (s : List ℕ) (x : Entry) → Memᴰ x (own_of es s) → length x.word ≤ length s
  own_length s x m = omega (arith, ap length (in_own es s m).1)

  chain_length : (n : ℕ) (s : List ℕ) (x : Entry) → Memᴰ x (chain M n s) → length x.word ≤ length s
  unfolding chain link failure
  chain_length zero s x m = absurd (Memᴰ.not-nil m)
  chain_length (suc n) [] x m = absurd (Memᴰ.not-nil m)
  chain_length (suc n) (b ∷ s) x m =
      let shorter = longest_length (is_state es) s in
      ⊎_elim (λ q. own_length (b ∷ s) x q)
      (λ q. test (is_dead M (b ∷ s)) (λ d. absurd (Memᴰ.not-nil (rw d at q)))
      (λ d. let ih = chain_length n (longest_state (is_state es) s) x (rw d at q) in omega (arith, shorter, ih)))
      (Memᴰ.append_cases (own_of es (b ∷ s)) m)

  -- what a state puts out is no longer than the state
  pub output_length : (s : List ℕ) (x : Entry) → Memᴰ x (output M s) → length x.word ≤ length s
  output_length s x m = chain_length (length s) s x m
