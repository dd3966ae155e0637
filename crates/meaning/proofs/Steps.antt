-- A byte of a search over tables that agree is a byte of the paper's walk: the hunt along the tables' links is the hunt along the automaton's,
-- and the output place that a step comes to begins the chain of what the automaton puts out there. For all kinds.
use Rattle.std.specs.Prelude.{Option, Some, None, Result, Ok, Err}
use Rattle.std.proofs.Math.Bool.{and-false}
use mathlib.Core.Path.{◌≡◌, refl, sym, ap, ◌∙◌}
use mathlib.Core.Bool.{Bool, true, false, ◌&&◌}
use mathlib.Core.List.{List, [], ◌∷◌}
use Prim.Native.Nat.{ℕ, zero, suc, ◌+◌, ◌≤◌, ◌<◌}
use native.Mathlib.Nat.{not-suc-le-zero}
use native.Mathlib.Omega.{arith}
use lib.Dec.{eqb}
use lib.ListN.{length}
use Rattle.paper.specs.Lists.{snoc}
use Rattle.paper.specs.Patterns.{Entry, Kind, standard, leftmost}
use Rattle.paper.specs.Automaton.{Machine, machine, is_state, failure, is_dead, link, at_root, hunt, landed, Walk, step, chain, output}
use Rattle.std.proofs.lemmas.Bool.{eqb-true, ne_eqb, and_parts}
use Rattle.paper.proofs.Tests.{test, clash}
use Rattle.paper.proofs.Longest.{longest_length, longest_is_state}
use Rattle.paper.proofs.Machines.{machine_states, state_root, never_starts, never_before}
use Rattle.list.specs.Limits.{alphabet}
use Rattle.table.specs.Agrees.{Tables, Agrees, Chain, ChainOf, state_cell, probe_in, link_in}
use Rattle.table.specs.declared.CellId.{CellId}
use Rattle.table.specs.declared.Damage.{Damage}
use Rattle.table.proofs.Agrees.{cell_root}
use Rattle.search.specs.declared.Search.{Search}
use Rattle.search.specs.Values.{root, cell, value_of}
use Rattle.search.specs.Walk.{falls_at, byte_taken, take_of, take_in, begins_in, step_of}
use Rattle.search.proofs.Walking.{at_child, at_root_lem, at_dead, at_link}
use Rattle.search.proofs.Advancing.{step_goes}

-- the walk of a leftmost kind falls at dead
abbrev pub falls : Kind → Bool
falls standard = false
falls (leftmost c) = true

-- a search value stands where a walk is: in the cell of its state, with its moves
pub record At (T : Tables) (es : List Entry) (w : Walk) (v : Search) : Type 0 where
  pub state : is_state es w.state ≡ true
  pub there : v.state ≡ cell (state_cell T w.state)
  pub counted : v.moves ≡ w.moves

-- what a step comes to: one byte further, where the walk is after the byte, with the chain of what is put out there still to give
pub record Stepping (T : Tables) (kind : Kind) (es : List Entry) (values : List ℕ) (w : Walk) (v : Search) (c : ℕ) : Type 0 where
  pub place : ℕ
  pub gone : step_of (falls kind) T v c
      ≡ Ok
      (value_of (cell (state_cell T (step (machine kind es) w c).state)) place (v.place + 1) (step (machine kind es) w c).moves)
  pub shows : Chain T values place (output (machine kind es) (step (machine kind es) w c).state)
  pub state : is_state es (step (machine kind es) w c).state ≡ true

-- only a leftmost kind has dead links
dead_falls : (kind : Kind) (es : List Entry) (s : List ℕ) → is_dead (machine kind es) s ≡ true → falls kind ≡ true
unfolding is_dead
dead_falls standard es [] h = h
dead_falls standard es (x ∷ xs) h = clash h (rw (never_starts es (x ∷ xs)) (never_before es xs))
dead_falls (leftmost c) es s h = refl

module _ (T : Tables) (kind : Kind) (es : List Entry) (values : List ℕ) (A : Agrees T kind es values) where
  abbrev M : Machine
  M = machine kind es

  abbrev S : List ℕ → Bool
  S = is_state es

  -- root's cell is no other state's
  not_root : (x : ℕ) (xs : List ℕ) → S (x ∷ xs) ≡ true → state_cell T (x ∷ xs) ≡ root → ⊥
  not_root x xs h e = cc (A.apart (x ∷ xs) [] h (state_root es) (e ∙ sym (cell_root T)))

  -- no walk falls at a state
  stays : (s : List ℕ) → S s ≡ true → falls_at (falls kind) (cell (state_cell T s)) ≡ false
  stays s h = rw (ne_eqb (state_cell T s) 1 (A.living s h)) (and-false (falls kind))

  -- a failure is a state, and shorter
  failed_state : (x : ℕ) (xs : List ℕ) → S (failure S (x ∷ xs)) ≡ true
  unfolding failure
  failed_state x xs = longest_is_state S (machine_states es) xs

  failed_length : (x : ℕ) (xs : List ℕ) → length (failure S (x ∷ xs)) ≤ length xs
  unfolding failure
  failed_length x xs = longest_length S xs

  -- so is where a hunt ends at root
  root_state : (c : ℕ) → S (landed (at_root S c).found) ≡ true
  root_state c = test (S (c ∷ [])) (λ h. rw h h) (λ h. rw h (state_root es))

  -- ---- the hunt

  module _ (c : ℕ) (byte : c < alphabet) where
    -- at root, which has the byte or keeps root
    takes_root : (n m : ℕ)
        → take_of (suc n) (falls kind) (probe_in T) (link_in T) (cell (state_cell T [])) c m
        ≡ byte_taken (cell (state_cell T (landed (at_root S c).found))) (m + (at_root S c).links)
    takes_root n m =
        let none : m ≡ m + 0 = omega arith in
        test (S (c ∷ []))
        (λ h. rw h
        (at_child (falls kind) (probe_in T) (link_in T) c n (cell (state_cell T [])) (cell (state_cell T (c ∷ []))) m (A.child [] c h) ∙ ap (byte_taken _) none))
        (λ h.
        let nothing = rw (cell_root T) at (A.childless [] c (state_root es) byte h) in
        rw (h, cell_root T) (at_root_lem (falls kind) (probe_in T) (link_in T) c n (cell root) m nothing refl ∙ ap (byte_taken _) none))

    -- where the state has no such child: at a dead link the hunt ends at root, else it goes on from the failure
    module _ (x : ℕ) (xs : List ℕ) (h : S (x ∷ xs) ≡ true) (k : S (snoc (x ∷ xs) c) ≡ false) (n m : ℕ) where
      abbrev here : CellId
      here = cell (state_cell T (x ∷ xs))

      takes_dead : is_dead M (x ∷ xs) ≡ true
          → take_of (suc n) (falls kind) (probe_in T) (link_in T) here c m ≡ byte_taken (cell (state_cell T [])) (m + 1)
      unfolding link
      takes_dead d =
          let linked : link_in T (state_cell T (x ∷ xs)) ≡ Ok (cell 1) = rw d at (A.links x xs h) in
          rw (cell_root T)
          (at_dead (falls kind) (probe_in T) (link_in T) c n here (cell 1) m (A.childless (x ∷ xs) c h byte k) (not_root x xs h) linked
          (rw (dead_falls kind es (x ∷ xs) d)))

      takes_on : is_dead M (x ∷ xs) ≡ false
          → take_of (suc n) (falls kind) (probe_in T) (link_in T) here c m
          ≡ take_of n (falls kind) (probe_in T) (link_in T) (cell (state_cell T (failure S (x ∷ xs)))) c (m + 1)
      unfolding link
      takes_on d =
          let linked : link_in T (state_cell T (x ∷ xs)) ≡ Ok (cell (state_cell T (failure S (x ∷ xs)))) = rw d at (A.links x xs h) in
          at_link (falls kind) (probe_in T) (link_in T) c n here (cell (state_cell T (failure S (x ∷ xs)))) m (A.childless (x ∷ xs) c h byte k) (not_root x xs h)
          linked
          (stays (failure S (x ∷ xs)) (failed_state x xs))

    -- a hunt by the tables ends where the automaton's does, after as many links
    takes : (n : ℕ) (s : List ℕ) (m : ℕ) → length s ≤ n → S s ≡ true
        → take_of (suc n) (falls kind) (probe_in T) (link_in T) (cell (state_cell T s)) c m
        ≡ byte_taken (cell (state_cell T (landed (hunt S (link M) n s c).found))) (m + (hunt S (link M) n s c).links)
    unfolding hunt link
    takes zero [] m l h = takes_root zero m
    takes zero (x ∷ xs) m l h = absurd (not-suc-le-zero l)
    takes (suc n) [] m l h = takes_root (suc n) m
    takes (suc n) (x ∷ xs) m l h =
        test (S (snoc (x ∷ xs) c))
        (λ k. let none : m ≡ m + 0 = omega arith in
        rw k (at_child (falls kind) (probe_in T) (link_in T) c (suc n) (cell (state_cell T (x ∷ xs))) (cell (state_cell T (snoc (x ∷ xs) c))) m (A.child (x ∷ xs) c k)
        ∙ ap (byte_taken _) none))
        (λ k. rw k
        (test (is_dead M (x ∷ xs)) (λ d. rw d (takes_dead x xs h k (suc n) m d))
        (λ d.
        let r = failure S (x ∷ xs) in
        let one : m + 1 + (hunt S (link M) n r c).links ≡ m + suc (hunt S (link M) n r c).links = omega arith in
        rw d (takes_on x xs h k (suc n) m d ∙ takes n r (m + 1) (omega (arith, failed_length x xs)) (failed_state x xs) ∙ ap (byte_taken _) one))))

  -- ---- the step

  -- where a hunt lands is a state
  hunt_state : (n : ℕ) (s : List ℕ) (c : ℕ) → S (landed (hunt S (link M) n s c).found) ≡ true
  unfolding hunt link
  hunt_state zero [] c = root_state c
  hunt_state zero (x ∷ xs) c = root_state c
  hunt_state (suc n) [] c = root_state c
  hunt_state (suc n) (x ∷ xs) c =
      test (S (snoc (x ∷ xs) c)) (λ k. rw k k)
      (λ k. rw k (test (is_dead M (x ∷ xs)) (λ d. rw d (state_root es)) (λ d. rw d (hunt_state n (failure S (x ∷ xs)) c))))

  -- so is the state after a byte
  step_state : (w : Walk) (c : ℕ) → S (step M w c).state ≡ true
  unfolding step
  step_state w c = hunt_state (length w.state) w.state c

  -- the byte is taken to where the walk goes, with its moves
  step_taken : (w : Walk) (v : Search) (c : ℕ) → At T es w v → c < alphabet
      → take_in (falls kind) T v.state c v.moves ≡ Ok (cell (state_cell T (step M w c).state), (step M w c).moves)
  unfolding step
  step_taken w v c a byte =
      let h = hunt S (link M) (length w.state) w.state c in
      let m : v.moves + h.links + 1 ≡ w.moves + suc h.links = omega (arith, a.counted) in
      rw (a.there, A.depths w.state a.state)
      (takes c byte (length w.state) w.state v.moves (omega arith) a.state ∙ ap {B = Result (CellId × ℕ) Damage} (λ (k : ℕ). Ok (cell (state_cell T (landed h.found)), k)) m)

  -- root puts nothing out
  root_silent : (s : List ℕ) → S s ≡ true → state_cell T s ≡ root → output M s ≡ []
  unfolding chain
  root_silent s h e = rw (A.apart s [] h (state_root es) (e ∙ sym (cell_root T)))

  -- the outputs of a state begin with the chain of what is put out there
  begins_chain : (s : List ℕ) → S s ≡ true → ChainOf T values (begins_in (falls kind) T (cell (state_cell T s))) (output M s)
  begins_chain s h =
      test (falls kind && eqb (state_cell T s) root)
      (λ e. rw e (root_silent s h (eqb-true (state_cell T s) root (and_parts (falls kind) (eqb (state_cell T s) root) e).1)))
      (λ e. rw e (A.outputs s h))

  pub steps : (w : Walk) (v : Search) (c : ℕ) → At T es w v → c < alphabet → Stepping T kind es values w v c
  steps w v c a byte = go (begins_in (falls kind) T to) refl (begins_chain (step M w c).state (step_state w c))
    where
      to : CellId
      to = cell (state_cell T (step M w c).state)

      go : (b : Result (Option ℕ) Damage) → begins_in (falls kind) T to ≡ b → ChainOf T values b (output M (step M w c).state) → Stepping T kind es values w v c
      go (Ok (Some p)) e k = record {
        place = p;
        gone = sym (step_goes (falls kind) T v c _ refl to _ (step_taken w v c a byte) _ refl (Some p) e);
        shows = k;
        state = step_state w c;
      }
      go (Ok None) e k = record {
        place = 0;
        gone = sym (step_goes (falls kind) T v c _ refl to _ (step_taken w v c a byte) _ refl None e);
        shows = rw k refl;
        state = step_state w c;
      }
      go (Err d) e k = absurd k
