-- The automaton of a list of patterns meets the laws, whatever its kind.
use mathlib.Core.Path.{◌≡◌, refl, ap}
use mathlib.Core.Bool.{true, false}
use mathlib.Core.List.{List, [], ◌∷◌, Memᴰ}
use mathlib.Core.Logic.{⊎_elim}
use Prim.Native.Nat.{ℕ, ◌<◌}
use native.Mathlib.Omega.{arith}
use lib.ListN.{length}
use Rattle.paper.specs.Lists.{same, prefix, snoc, those}
use Rattle.paper.specs.Patterns.{Entry, Kind, standard, leftmost, Proper}
use Rattle.paper.specs.Automaton.{machine, is_state, own_of, stops_of, begins, starts, before}
use Rattle.std.proofs.lemmas.Bool.{or_left, or_right, or_cases, or_parts}
use Rattle.paper.proofs.Tests.{test, clash}
use Rattle.paper.proofs.Strings.{same_eq, prefix_refl, prefix_trans, prefix_snoc}
use Rattle.paper.proofs.Longest.{States}
use Rattle.paper.proofs.Links.{Lawful}

pub state_root : (es : List Entry) → is_state es [] ≡ true
unfolding is_state prefix
state_root [] = refl
state_root (x ∷ xs) = refl

state_closed : (es : List Entry) (s : List ℕ) (c : ℕ) → is_state es (snoc s c) ≡ true → is_state es s ≡ true
unfolding is_state
state_closed [] [] c h = refl
state_closed [] (x ∷ xs) c h = h
state_closed (x ∷ xs) s c h =
    ⊎_elim
    (λ k. or_left (prefix s x.word) (is_state xs s) (prefix_trans s (snoc s c) x.word (prefix_snoc s c) k))
    (λ k. or_right (prefix s x.word) (is_state xs s) (state_closed xs s c k))
    (or_cases (prefix (snoc s c) x.word) (is_state xs (snoc s c)) h)

-- nothing is put out by a string that is no state
own_at_states : (es : List Entry) (s : List ℕ) → is_state es s ≡ false → own_of es s ≡ []
unfolding is_state own_of those
own_at_states [] s h = refl
own_at_states (x ∷ xs) s h =
    test (same x.word s)
    (λ e. let k : prefix s x.word ≡ true = rw (same_eq x.word s e) (prefix_refl s) in
    clash k (or_parts (prefix s x.word) (is_state xs s) h).0)
    (λ e. rw e (own_at_states xs s (or_parts (prefix s x.word) (is_state xs s) h).1))

-- nor by root, as no pattern is empty
pub own_not_root : (es : List Entry) → ((x : Entry) → Memᴰ x es → 0 < length x.word) → own_of es [] ≡ []
unfolding own_of those
own_not_root [] h = refl
own_not_root (x ∷ xs) h =
    test (same x.word [])
    (λ e. absurd (omega (arith, ap length (same_eq x.word [] e), h x (Memᴰ.head refl))))
    (λ e. rw e (own_not_root xs (λ y m. h y (Memᴰ.tail m))))

pub machine_states : (es : List Entry) → States (is_state es)
machine_states es = record { root = state_root es; closed = state_closed es }

stop_at_states : (kind : Kind) (es : List Entry) (s : List ℕ) → is_state es s ≡ false → stops_of kind es s ≡ false
stop_at_states standard es s h = refl
stop_at_states (leftmost c) es s h = rw (own_at_states es s h)

machine_laws : (kind : Kind) (es : List Entry) → stops_of kind es [] ≡ false → Lawful (machine kind es)
machine_laws kind es z =
    record { states = machine_states es; own_at_states = own_at_states es; stop_at_states = stop_at_states kind es; stop_not_root = z }

stop_not_root : (kind : Kind) (es : List Entry) → Proper es → stops_of kind es [] ≡ false
stop_not_root standard es P = refl
stop_not_root (leftmost c) es P = rw (own_not_root es P.filled)

pub lawful : (kind : Kind) (es : List Entry) → Proper es → Lawful (machine kind es)
lawful kind es P = machine_laws kind es (stop_not_root kind es P)

-- ---- Standard stops nowhere, so it asks nothing of the list

pub standard_lawful : (es : List Entry) → Lawful (machine standard es)
standard_lawful es = machine_laws standard es refl

never_begins : (u w : List ℕ) → begins (λ s. false) u w ≡ false
unfolding begins
never_begins u [] = refl
never_begins u (c ∷ w) = never_begins (snoc u c) w

pub never_starts : (es : List Entry) (w : List ℕ) → starts (stops_of standard es) w ≡ false
never_starts es w = never_begins [] w

pub never_before : (es : List Entry) (w : List ℕ) → before (is_state es) (stops_of standard es) w ≡ false
unfolding before
never_before es [] = refl
never_before es (x ∷ xs) = test (is_state es (x ∷ xs)) (λ h. rw h) (λ h. rw (h, never_starts es (x ∷ xs)) (never_before es xs))
