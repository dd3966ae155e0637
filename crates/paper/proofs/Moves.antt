-- The count of moves (C): a link makes the state shorter, a byte makes it longer by one at most. So after k bytes the moves and the
-- state's length together are at most 2k, and the moves alone at most 2k - 1; to begin again at root only helps.
use mathlib.Core.Path.{◌≡◌}
use mathlib.Core.Bool.{Bool, true, false}
use mathlib.Core.List.{List, [], ◌∷◌}
use Prim.Native.Nat.{ℕ, zero, suc, ◌+◌, ◌*◌, ◌-◌, ◌≤◌}
use native.Mathlib.Nat.{not-suc-le-zero}
use native.Mathlib.Omega.{arith}
use lib.ListN.{length}
use Rattle.paper.specs.Lists.{pick, snoc}
use Rattle.paper.specs.Automaton.{Machine, longest_state, failure, is_dead, link, Hunt, at_root, hunt, landed, Walk, fresh, step, walk}
use Rattle.paper.proofs.Tests.{test}
use Rattle.paper.proofs.Strings.{length_snoc}
use Rattle.paper.proofs.Longest.{longest_length}

-- what a hunt from a state of length n may cost
pub record Paying (n : ℕ) (h : Hunt) : Type 0 where
  pub with_length : h.links + length (landed h.found) ≤ n + 1
  pub alone : h.links ≤ n

-- where a walk stands after k bytes
pub record Paid (k : ℕ) (w : Walk) : Type 0 where
  pub with_length : w.moves + length w.state ≤ 2 * k
  pub alone : w.moves ≤ 2 * k - 1

module _ (M : Machine) where
  root_pays : (c n : ℕ) → Paying n (at_root M.is_state c)
  root_pays c n = test (M.is_state (c ∷ [])) (λ e. rw e (omega arith)) (λ e. rw e (omega arith))

  pub hunt_pays : (n : ℕ) (s : List ℕ) (c : ℕ) → length s ≤ n → Paying (length s) (hunt M.is_state (link M) n s c)
  unfolding hunt link failure
  hunt_pays zero [] c h = root_pays c 0
  hunt_pays zero (x ∷ xs) c h = absurd (not-suc-le-zero h)
  hunt_pays (suc n) [] c h = root_pays c 0
  hunt_pays (suc n) (x ∷ xs) c h =
      let shorter = longest_length M.is_state xs in
      let ih = hunt_pays n (longest_state M.is_state xs) c (omega arith) in
      test (M.is_state (x ∷ snoc xs c)) (λ e. rw e (omega (arith, length_snoc xs c)))
      (λ e. rw e (test (is_dead M (x ∷ xs)) (λ d. rw d (omega arith)) (λ d. rw d (omega (arith, ih)))))

  pub step_paid : (k : ℕ) (w : Walk) (c : ℕ) → Paid k w → Paid (suc k) (step M w c)
  unfolding step
  step_paid k w c p = let h = hunt_pays (length w.state) w.state c (omega arith) in omega (arith, h, p)

  again_paid : (k : ℕ) (w : Walk) (b : Bool) → Paid k w → Paid k (record { state = pick b [] w.state; moves = w.moves })
  again_paid k w true p = omega (arith, p)
  again_paid k w false p = p

  pub walk_paid : (again : List ℕ → Bool) (k : ℕ) (w : Walk) (t : List ℕ) → Paid k w → Paid (k + length t) (walk M again w t)
  unfolding walk
  walk_paid again k w [] p = omega (arith, p)
  walk_paid again k w (c ∷ t) p =
      let e : suc k + length t ≡ k + suc (length t) = omega arith in
      let v = step M w c in
      rw (← e) (walk_paid again (suc k) _ t (again_paid (suc k) v (again v.state) (step_paid k w c p)))

  pub moves_bound : (again : List ℕ → Bool) (t : List ℕ) → (walk M again fresh t).moves ≤ 2 * length t - 1
  moves_bound again t = let p = walk_paid again 0 fresh t (omega arith) in omega (arith, p.alone)
