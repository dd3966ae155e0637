-- The automaton of a list of patterns has what the laws of the plan ask: its states are bounded as its patterns are, and root has
-- no own output.
use mathlib.Core.Path.{◌≡◌, refl, ap}
use mathlib.Core.Bool.{true, false≢true}
use mathlib.Core.List.Memᴰ
use mathlib.Core.List.{List, [], ◌∷◌, Memᴰ}
use mathlib.Core.Logic.{◌⊎◌, inl, inr, ⊎_elim}
use Prim.Native.Nat.{ℕ}
use native.Mathlib.Omega.{arith}
use lib.ListN.{length}
use Rattle.paper.specs.Lists.{prefix, snoc}
use Rattle.paper.specs.Patterns.{Entry, Kind, Proper}
use Rattle.paper.specs.Automaton.{machine, is_state}
use Rattle.std.proofs.lemmas.Bool.{or_cases}
use Rattle.paper.proofs.Strings.{prefix_rest, prefix_length, snoc_append, length_snoc}
use Rattle.paper.proofs.Machines.{machine_states}
use Rattle.plan.specs.Breadth.{Bounded, Within}
use Rattle.paper.proofs.Machines.{own_not_root}

-- a state that is not root begins a pattern
state_begins : (es : List Entry) (s : List ℕ) → is_state es s ≡ true
    → (s ≡ []) ⊎ ((x : Entry) × Memᴰ x es × (prefix s x.word ≡ true))
unfolding is_state
state_begins [] [] h = inl refl
state_begins [] (c ∷ s) h = absurd (false≢true h)
state_begins (x ∷ es) s h =
    ⊎_elim (λ k. inr (x, Memᴰ.head refl, k))
    (λ k. ⊎_elim inl (λ r. inr (r.0, Memᴰ.tail r.1, r.2)) (state_begins es s k))
    (or_cases (prefix s x.word) (is_state es s) h)

prefix_has : (s w : List ℕ) (c : ℕ) → prefix (snoc s c) w ≡ true → Memᴰ c w
prefix_has s w c h =
    let r = prefix_rest (snoc s c) w h in
    rw (r.1, snoc_append s c r.0) (Memᴰ.append_right s (Memᴰ.head refl))

pub machine_bounded : (a n : ℕ) (es : List Entry) → Within a n es → Bounded a n (is_state es)
machine_bounded a n es W =
    record {
      root = (machine_states es).root;
      closed = (machine_states es).closed;
      byte = λ s c h. ⊎_elim (λ e. absurd (omega (arith, ap length e, length_snoc s c)))
          (λ r. W.letters r.0 r.1 c (prefix_has s r.0.word c r.2)) (state_begins es (snoc s c) h);
      short = λ s h. ⊎_elim (λ e. omega (arith, ap length e))
          (λ r. omega (arith, prefix_length s r.0.word r.2, W.short r.0 r.1)) (state_begins es s h);
    }

pub machine_quiet : (kind : Kind) (es : List Entry) → Proper es → (machine kind es).own [] ≡ []
machine_quiet kind es P = own_not_root es P.filled
