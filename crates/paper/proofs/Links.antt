-- The hunt and the links of all kinds at once: Standard is the machine that stops nowhere. The closed form of dead links meets
-- document 01's rules, and nothing else does.
use mathlib.Core.Path.{◌≡◌, refl, sym, ap, ◌∙◌}
use mathlib.Core.Bool.{Bool, true, false, ◌||◌, or_assoc, or-false, or-true}
use mathlib.Core.List.{List, [], ◌∷◌, ◌++◌, append-nil}
use Prim.Native.Nat.{ℕ, zero, suc, ◌≤◌}
use native.Mathlib.Nat.{not-suc-le-zero}
use native.Mathlib.Omega.{arith}
use lib.ListN.{length}
use Rattle.paper.specs.Lists.{pick, snoc}
use Rattle.paper.specs.Automaton.{Machine, longest_state, failure, Link, dead, to, begins, starts, before, is_dead, link, Hunt, along, at_root, hunt, Rules}
use Rattle.std.proofs.lemmas.Bool.{or_right, or_left}
use Rattle.paper.proofs.Tests.{test, clash}
use Rattle.paper.proofs.Strings.{snoc_append, length_snoc}
use Rattle.paper.proofs.Longest.{States, longest_length, longest_step, longest_is_state, not_longer}

-- what the laws below ask of a machine
pub record Lawful (M : Machine) : Type 0 where
  pub states : States M.is_state
  -- outputs and stops stand only at states, and not at root
  pub own_at_states : (s : List ℕ) → M.is_state s ≡ false → M.own s ≡ []
  pub stop_at_states : (s : List ℕ) → M.is_state s ≡ false → M.stops s ≡ false
  pub stop_not_root : M.stops [] ≡ false

-- ---- a stopping string at the head of w

-- u, then w
onto : List ℕ → List ℕ → List ℕ
onto u [] = u
onto u (c ∷ w) = onto (snoc u c) w

onto_is : (u w : List ℕ) → onto u w ≡ u ++ w
unfolding onto
onto_is u [] = sym (append-nil u)
onto_is u (c ∷ w) = onto_is (snoc u c) w ∙ snoc_append u c w

module _ (stops : List ℕ → Bool) where
  begins_snoc : (u w : List ℕ) (c : ℕ) → begins stops u (snoc w c) ≡ (begins stops u w || stops (onto u (snoc w c)))
  unfolding begins onto
  begins_snoc u [] c = refl
  begins_snoc u (d ∷ w) c = rw (begins_snoc (snoc u d) w c, or_assoc)

  pub starts_snoc : (w : List ℕ) (c : ℕ) → starts stops (snoc w c) ≡ (starts stops w || stops (snoc w c))
  starts_snoc w c = begins_snoc [] w c ∙ rw (onto_is [] (snoc w c))

-- ---- a string's last byte

pub data Ended : List ℕ → Type 0 where
  none : Ended []
  last : (s : List ℕ) (c : ℕ) → Ended (snoc s c)

pub ended : (s : List ℕ) → Ended s
ended [] = none
ended (x ∷ xs) = more x (ended xs)
  where
    more : (x : ℕ) {w : List ℕ} → Ended w → Ended (x ∷ w)
    more x none = last [] x
    more x (last s c) = last (x ∷ s) c

ors : (a b c d : Bool) → (a || b || (c || d)) ≡ (b || (a || c || d))
ors true true c d = refl
ors true false c d = refl
ors false true c d = refl
ors false false c d = refl

-- dead is no state, and a link to a state says which
abbrev pub is_to : Link → Bool
is_to dead = false
is_to (to r) = true

abbrev target : Link → List ℕ
target dead = []
target (to r) = r

module _ (M : Machine) (L : Lawful M) where
  abbrev S : List ℕ → Bool
  S = M.is_state

  -- a string that is no state: one byte more lets no stopping string start at its head
  pub starts_same : (s : List ℕ) (c : ℕ) → S (snoc s c) ≡ false → starts M.stops (snoc s c) ≡ starts M.stops s
  starts_same s c h = rw (starts_snoc M.stops s c, L.stop_at_states (snoc s c) h) (or-false (starts M.stops s))

  pub before_step : (t : List ℕ) (c : ℕ)
      → before S M.stops (snoc t c) ≡ (before S M.stops t || before S M.stops (snoc (longest_state S t) c))
  unfolding before longest_state
  before_step [] c = refl
  before_step (x ∷ xs) c =
      test (S (x ∷ xs)) (λ h. rw h)
      (λ h. let k = not_longer S L.states (x ∷ xs) c h in
      rw (h, k, starts_same (x ∷ xs) c k, before_step xs c)
      (sym (or_assoc (starts M.stops (x ∷ xs)) (before S M.stops xs) (before S M.stops (snoc (longest_state S xs) c)))))

  hunt_root : (c : ℕ) → (at_root S c).found ≡ pick (before S M.stops (c ∷ [])) dead (to (longest_state S (c ∷ [])))
  unfolding before longest_state begins
  hunt_root c = test (S (c ∷ [])) (λ e. rw e) (λ e. rw (e, L.stop_at_states (c ∷ []) e, L.stop_not_root))

  -- where the hunt ends: at dead exactly if a stopping string starts before the state that it would reach
  pub hunt_found : (n : ℕ) (s : List ℕ) (c : ℕ) → length s ≤ n
      → (hunt S (link M) n s c).found ≡ pick (before S M.stops (snoc s c)) dead (to (longest_state S (snoc s c)))
  unfolding hunt before longest_state failure is_dead link begins
  hunt_found zero [] c h = hunt_root c
  hunt_found zero (x ∷ xs) c h = absurd (not-suc-le-zero h)
  hunt_found (suc n) [] c h = hunt_root c
  hunt_found (suc n) (x ∷ xs) c h =
      let ih = hunt_found n (longest_state S xs) c (omega (arith, longest_length S xs)) in
      test (S (x ∷ snoc xs c)) (λ e. rw e)
      (λ e. rw (e, starts_same (x ∷ xs) c e, before_step xs c, longest_step S L.states xs c)
      (test (starts M.stops (x ∷ xs)) (λ p. rw p)
      (λ p. rw p (test (before S M.stops xs) (λ q. rw q) (λ q. rw q ih)))))

  -- ---- document 01's rules

  pub dead_child : (x : ℕ) (xs : List ℕ) (c : ℕ)
      → is_dead M (snoc (x ∷ xs) c) ≡ (M.stops (snoc (x ∷ xs) c) || (is_dead M (x ∷ xs) || before S M.stops (snoc (failure S (x ∷ xs)) c)))
  unfolding is_dead failure
  dead_child x xs c =
      rw (starts_snoc M.stops (x ∷ xs) c, before_step xs c) (ors (starts M.stops (x ∷ xs)) (M.stops (x ∷ snoc xs c)) (before S M.stops xs) _)

  -- a stopping string starts at its own head
  starts_whole : (s : List ℕ) → M.stops s ≡ true → starts M.stops s ≡ true
  starts_whole s h = go (ended s) h
    where
      go : {w : List ℕ} → Ended w → M.stops w ≡ true → starts M.stops w ≡ true
      go none k = clash k L.stop_not_root
      go (last w c) k = starts_snoc M.stops w c ∙ or_right (starts M.stops w) (M.stops (snoc w c)) k

  stop_is_dead : (s : List ℕ) → M.stops s ≡ true → is_dead M s ≡ true
  unfolding is_dead
  stop_is_dead [] h = clash h L.stop_not_root
  stop_is_dead (x ∷ xs) h = or_left (starts M.stops (x ∷ xs)) (before S M.stops xs) (starts_whole (x ∷ xs) h)

  pub link_dead : (s : List ℕ) → is_dead M s ≡ true → link M s ≡ dead
  unfolding link
  link_dead s h = rw h

  pub link_to : (s : List ℕ) → is_dead M s ≡ false → link M s ≡ to (failure S s)
  unfolding link
  link_to s h = rw h

  -- a link is dead, or to the failure
  pub link_cases {ℓ} : {X : Type ℓ} (s : List ℕ) → (is_dead M s ≡ true → link M s ≡ dead → X)
      → (is_dead M s ≡ false → link M s ≡ to (failure S s) → X) → X
  link_cases s f g = test (is_dead M s) (λ h. f h (link_dead s h)) (λ h. g h (link_to s h))

  root_link : link M [] ≡ to []
  unfolding link is_dead failure
  root_link = refl

  top_link : (c : ℕ) → M.stops (c ∷ []) ≡ false → link M (c ∷ []) ≡ to []
  unfolding link is_dead begins before failure longest_state
  top_link c h = rw (L.stop_not_root, h)

  fallen_link : (x : ℕ) (xs : List ℕ) (c : ℕ) → link M (x ∷ xs) ≡ dead → link M (snoc (x ∷ xs) c) ≡ dead
  fallen_link x xs c e =
      link_cases (x ∷ xs)
      (λ h k. link_dead (snoc (x ∷ xs) c) (dead_child x xs c ∙ rw h (or-true (M.stops (snoc (x ∷ xs) c)))))
      (λ h k. clash (ap is_to k) (ap is_to e))

  hunted_link : (x : ℕ) (xs : List ℕ) (c : ℕ) (r : List ℕ) → M.stops (snoc (x ∷ xs) c) ≡ false → link M (x ∷ xs) ≡ to r
      → link M (snoc (x ∷ xs) c) ≡ (hunt S (link M) (length r) r c).found
  unfolding link failure
  hunted_link x xs c r h e =
      link_cases (x ∷ xs) (λ k l. clash (ap is_to e) (ap is_to l))
      (λ k l. let same : longest_state S xs ≡ r = ap target (sym l ∙ e) in
      rw (dead_child x xs c, h, k, longest_step S L.states xs c, same) (sym (hunt_found (length r) r c (omega arith))))

  -- the closed form meets the rules
  pub ruled : Rules M (link M)
  ruled =
      record {
        root = root_link;
        stopped = λ s _ h. link_dead s (stop_is_dead s h);
        top = λ c _ h. top_link c h;
        fallen = λ x xs c _ _ e. fallen_link x xs c e;
        hunted = λ x xs c r _ h e. hunted_link x xs c r h e;
      }

  -- ---- no other links meet them

  pub failure_shorter : (x : ℕ) (xs : List ℕ) → length (failure S (x ∷ xs)) ≤ length xs
  unfolding failure
  failure_shorter x xs = longest_length S xs

  pub failure_is_state : (s : List ℕ) → S (failure S s) ≡ true
  unfolding failure
  failure_is_state [] = L.states.root
  failure_is_state (x ∷ xs) = longest_is_state S L.states xs

  -- a hunt looks only at links of states that are no longer than its start
  hunt_same : (links : List ℕ → Link) (n : ℕ) (s : List ℕ) (c : ℕ) → S s ≡ true
      → ((r : List ℕ) → length r ≤ length s → S r ≡ true → links r ≡ link M r) → hunt S links n s c ≡ hunt S (link M) n s c
  unfolding hunt
  hunt_same links zero [] c h e = refl
  hunt_same links zero (x ∷ xs) c h e = refl
  hunt_same links (suc n) [] c h e = refl
  hunt_same links (suc n) (x ∷ xs) c h e =
      rw (e (x ∷ xs) (omega arith) h)
      (link_cases (x ∷ xs) (λ _ k. rw k)
      (λ _ k. rw (k, hunt_same links n (failure S (x ∷ xs)) c (failure_is_state (x ∷ xs)) (λ r l q. e r (omega (arith, failure_shorter x xs)) q))))

  module _ (links : List ℕ → Link) (R : Rules M links) where
    -- a child's link is made from links of strings no longer than its parent
    child_link : (n : ℕ) → ((r : List ℕ) → length r ≤ n → S r ≡ true → links r ≡ link M r)
        → (w : List ℕ) (c : ℕ) → length w ≤ n → S (snoc w c) ≡ true → M.stops (snoc w c) ≡ false → links (snoc w c) ≡ link M (snoc w c)
    child_link n shorter [] c l q z = R.top c q z ∙ sym (ruled.top c q z)
    child_link n shorter (x ∷ xs) c l q z =
        let up : links (x ∷ xs) ≡ link M (x ∷ xs) = shorter (x ∷ xs) l (L.states.closed (x ∷ xs) c q) in
        let f = failure S (x ∷ xs) in
        link_cases (x ∷ xs)
        (λ _ e. R.fallen x xs c q z (up ∙ e) ∙ sym (ruled.fallen x xs c q z e))
        (λ _ e. R.hunted x xs c f q z (up ∙ e)
        ∙ ap (λ (g : Hunt). g.found) (hunt_same links (length f) f c (failure_is_state (x ∷ xs)) (λ r m p. shorter r (omega (arith, failure_shorter x xs)) p))
        ∙ sym (ruled.hunted x xs c f q z e))

    any_link : (n : ℕ) → ((r : List ℕ) → length r ≤ n → S r ≡ true → links r ≡ link M r)
        → {w : List ℕ} → Ended w → length w ≤ suc n → S w ≡ true → links w ≡ link M w
    any_link n shorter none l q = R.root ∙ sym ruled.root
    any_link n shorter (last w c) l q =
        test (M.stops (snoc w c)) (λ z. R.stopped (snoc w c) q z ∙ sym (ruled.stopped (snoc w c) q z))
        (λ z. child_link n shorter w c (omega (arith, length_snoc w c)) q z)

    only_link : (n : ℕ) (s : List ℕ) → length s ≤ n → S s ≡ true → links s ≡ link M s
    only_link zero [] h k = R.root ∙ sym ruled.root
    only_link zero (x ∷ xs) h k = absurd (not-suc-le-zero h)
    only_link (suc n) s h k = any_link n (λ r l q. only_link n r l q) (ended s) h k

    pub rules_only : (s : List ℕ) → S s ≡ true → links s ≡ link M s
    rules_only s h = only_link (length s) s (omega arith) h

-- ---- a hunt as a build makes it, one state of the chain after the other

-- where a hunt from a link's target ends; from dead it does not begin
abbrev pub hunts : Machine → Link → ℕ → Link
hunts M dead c = dead
hunts M (to r) c = (hunt M.is_state (link M) (length r) r c).found

module _ (M : Machine) (L : Lawful M) where
  hit_found : (v : List ℕ) (c : ℕ) → M.is_state (snoc v c) ≡ true → (hunt M.is_state (link M) (length v) v c).found ≡ to (snoc v c)
  unfolding hunt
  hit_found [] c h = rw h
  hit_found (x ∷ xs) c h = rw h

  root_found : (c : ℕ) → M.is_state (c ∷ []) ≡ false → (hunt M.is_state (link M) 0 [] c).found ≡ to []
  unfolding hunt
  root_found c h = rw h

  miss_found : (x : ℕ) (xs : List ℕ) (c : ℕ) → M.is_state (snoc (x ∷ xs) c) ≡ false
      → (hunt M.is_state (link M) (length (x ∷ xs)) (x ∷ xs) c).found ≡ (along (link M (x ∷ xs)) (λ r. hunt M.is_state (link M) (length xs) r c)).found
  unfolding hunt
  miss_found x xs c h = rw h

  -- a state that has the byte ends it
  pub hunts_hit : (v : List ℕ) (c : ℕ) → M.is_state (snoc v c) ≡ true → hunts M (to v) c ≡ to (snoc v c)
  hunts_hit v c h = hit_found v c h

  -- root without it ends it too
  pub hunts_root : (c : ℕ) → M.is_state (c ∷ []) ≡ false → hunts M (to []) c ≡ to []
  hunts_root c h = root_found c h

  -- else it goes on from the link
  pub hunts_miss : (x : ℕ) (xs : List ℕ) (c : ℕ) → M.is_state (snoc (x ∷ xs) c) ≡ false → hunts M (to (x ∷ xs)) c ≡ hunts M (link M (x ∷ xs)) c
  hunts_miss x xs c h =
      let f = failure M.is_state (x ∷ xs) in
      miss_found x xs c h
      ∙ link_cases M L (x ∷ xs) (λ _ k. rw k)
      (λ _ k. rw k (hunt_found M L (length xs) f c (failure_shorter M L x xs) ∙ sym (hunt_found M L (length f) f c (omega arith))))

  -- the link of a child: dead for its own output, else where the hunt from the parent's link ends
  pub child_rule : (x : ℕ) (xs : List ℕ) (c : ℕ) → M.is_state (snoc (x ∷ xs) c) ≡ true → M.stops (snoc (x ∷ xs) c) ≡ false
      → link M (snoc (x ∷ xs) c) ≡ hunts M (link M (x ∷ xs)) c
  child_rule x xs c q z =
      link_cases M L (x ∷ xs) (λ _ e. (ruled M L).fallen x xs c q z e ∙ rw e)
      (λ _ e. (ruled M L).hunted x xs c (failure M.is_state (x ∷ xs)) q z e ∙ rw e)
