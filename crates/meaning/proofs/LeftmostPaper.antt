-- One call of the paper's leftmost walk by its ways: what it gives after a byte, that its moves do not matter, and where its match ends.
use mathlib.Core.Path.{◌≡◌, refl, sym, ap, ◌∙◌}
use mathlib.Core.Bool.{Bool, ◌&&◌}
use mathlib.Core.List.{List, [], ◌∷◌}
use mathlib.Core.Option.{Option, none, some}
use Prim.Native.Nat.{ℕ, suc, ◌+◌, ◌≤◌, ◌<◌}
use native.Mathlib.Omega.{arith}
use lib.ListN.{length}
use Rattle.paper.specs.Lists.{pick, is_nil}
use Rattle.paper.specs.Patterns.{Entry}
use Rattle.paper.specs.Matches.{Occurrence}
use Rattle.paper.specs.Automaton.{Machine, hunt, link, landed, chain, output, Walk, step, keeping, is_some, says_next}
use Rattle.paper.proofs.Tests.{test}

-- a walk in a state, with these moves
abbrev pub walk_at : List ℕ → ℕ → Walk
walk_at s m = record { state = s; moves = m }

-- a match, if there is one, ends after p and by q
abbrev pub Ends : ℕ → ℕ → Option Occurrence → Type 0
Ends p q none = Unit {0}
Ends p q (some f) = (p < f.end) × (f.end ≤ q)

ends_later : (p q r : ℕ) (o : Option Occurrence) → q ≤ r → Ends p q o → Ends p r o
ends_later p q r none h E = tt
ends_later p q r (some f) h E = (E.0, omega (arith, E.1))

ends_keeping : (p n : ℕ) (l : List Entry) (o : Option Occurrence) → p ≤ n → Ends p n o → Ends p (suc n) (keeping (suc n) l o)
ends_keeping p n [] o h E = ends_later p n (suc n) o (omega arith) E
ends_keeping p n (x ∷ l) o h E = (omega arith, omega arith)

module _ (M : Machine) where
  -- what is kept after a byte
  abbrev pub now : Walk → ℕ → ℕ → Option Occurrence → Option Occurrence
  now w n c kept = keeping (suc n) (output M (step M w c).state) kept

  -- what a call from here gives
  abbrev pub given : Walk → ℕ → Option Occurrence → List ℕ → Option Occurrence
  given w n kept t = (says_next M w n kept t).given

  -- ---- the ways

  -- at the text's end it is what was kept
  pub given_end : (w : Walk) (n : ℕ) (kept : Option Occurrence) → given w n kept [] ≡ kept
  unfolding says_next
  given_end w n kept = refl

  -- the call ends with the byte
  abbrev stopped : Walk → ℕ → ℕ → Option Occurrence → Bool
  stopped w n c kept = is_nil (step M w c).state && is_some (now w n c kept)

  -- a byte ends the call, or it goes on
  given_byte : (w : Walk) (n c : ℕ) (kept : Option Occurrence) (t : List ℕ)
      → given w n kept (c ∷ t) ≡ pick (stopped w n c kept) (now w n c kept) (given (step M w c) (suc n) (now w n c kept) t)
  unfolding says_next
  given_byte w n c kept t = test (stopped w n c kept) (λ h. rw (given, h)) (λ h. rw (given, h))

  -- with nothing kept it goes on, as root puts out nothing
  pub given_none : (w : Walk) (n c : ℕ) (t : List ℕ) → given w n none (c ∷ t) ≡ given (step M w c) (suc n) (now w n c none) t
  unfolding chain
  given_none w n c t = given_byte w n c none t ∙ go (step M w c).state (given (step M w c) (suc n) (now w n c none) t)
    where
      go : (s : List ℕ) (on : Option Occurrence) → pick (is_nil s && is_some (keeping (suc n) (output M s) none)) (keeping (suc n) (output M s) none) on ≡ on
      go [] on = refl
      go (x ∷ s) on = refl

  -- at root it gives what was kept
  pub given_root : (w : Walk) (n c : ℕ) (f : Occurrence) (t : List ℕ) → (step M w c).state ≡ [] → given w n (some f) (c ∷ t) ≡ some f
  unfolding says_next chain
  given_root w n c f t e = rw (given, e)

  -- at another state it goes on
  pub given_on : (w : Walk) (n c : ℕ) (kept : Option Occurrence) (t : List ℕ) (x : ℕ) (s : List ℕ) → (step M w c).state ≡ x ∷ s
      → given w n kept (c ∷ t) ≡ given (step M w c) (suc n) (now w n c kept) t
  unfolding says_next
  given_on w n c kept t x s e = rw (given, e)

  -- ---- what is given

  -- the moves do not matter
  pub given_any : (t : List ℕ) (s : List ℕ) (m k n : ℕ) (kept : Option Occurrence) → given (walk_at s m) n kept t ≡ given (walk_at s k) n kept t
  unfolding step
  given_any [] s m k n kept = given_end (walk_at s m) n kept ∙ sym (given_end (walk_at s k) n kept)
  given_any (c ∷ t) s m k n kept =
      let h = hunt M.is_state (link M) (length s) s c in
      given_byte (walk_at s m) n c kept t
      ∙ ap (pick (stopped (walk_at s m) n c kept) (now (walk_at s m) n c kept))
      (given_any t (landed h.found) (m + suc h.links) (k + suc h.links) (suc n) (now (walk_at s m) n c kept))
      ∙ sym (given_byte (walk_at s k) n c kept t)

  -- it ends after the call's beginning, in the text
  pub given_ends : (t : List ℕ) (w : Walk) (p n : ℕ) (kept : Option Occurrence) → p ≤ n → Ends p n kept → Ends p (n + length t) (given w n kept t)
  given_ends [] w p n kept h E = rw (given_end w n kept) (ends_later p n (n + 0) kept (omega arith) E)
  given_ends (c ∷ t) w p n kept h E =
      let next : Option Occurrence = now w n c kept in
      let K : Ends p (suc n) next = ends_keeping p n (output M (step M w c).state) kept h E in
      let on = given_ends t (step M w c) p (suc n) next (omega arith) K in
      rw (given_byte w n c kept t)
      (test (stopped w n c kept) (λ b. rw b (ends_later p (suc n) (n + suc (length t)) next (omega arith) K))
      (λ b. rw b (ends_later p (suc n + length t) (n + suc (length t)) (given (step M w c) (suc n) next t) (omega arith) on)))
