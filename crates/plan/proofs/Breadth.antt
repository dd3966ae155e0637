-- The states breadth first: the list has exactly the states, none twice, shorter ones first, and its own children follow its
-- first. So a build that takes the states in turn and appends each one's children has at every step a part of this list.
use mathlib.Core.Path.{◌≡◌, refl, sym, ap, ◌∙◌, subst}
use mathlib.Core.Bool.{Bool, true, false}
use mathlib.Core.List.Memᴰ
use mathlib.Core.List.{List, [], ◌∷◌, ◌++◌, append_assoc, append-nil, Memᴰ}
use mathlib.Core.Logic.{◌⊎◌, ⊎_elim, ◌↔◌}
use Prim.Native.Nat.{ℕ, zero, suc, ◌+◌, ◌≤◌, ◌<◌}
use native.Mathlib.Decide.{dec_lt}
use native.Mathlib.Omega.{arith}
use lib.ListN.{length, get_or, take, drop, length-append, take-append-drop}
use lib.Seq.{take-suc, take-append_seam}
use Rattle.paper.specs.Lists.{snoc, each, Sorted}
use Rattle.paper.proofs.Tests.{clash}
use Rattle.paper.proofs.Strings.{length_snoc, snoc_parent, snoc_byte}
use Rattle.paper.proofs.Order.{in_those, to_those, in_each, to_each, sorted_append, sorted_those, sorted_each, sorted_weaken, sorted_map}
use Rattle.paper.proofs.Links.{Ended, none, last, ended}
use Rattle.plan.specs.Breadth.{kid_bytes, kids, below, level, breadth, Bounded, Apart, NoLonger, Listing}
use Rattle.plan.proofs.Lists.{each_past, fits, get_member, sorted_take, sorted_before}

-- ---- children, over any set of strings

-- a child: its parent, its byte, and that it is in the set
pub record Child (a : ℕ) (S : List ℕ → Bool) (among : List (List ℕ)) (t : List ℕ) : Type 0 where
  pub parent : List ℕ
  pub letter : ℕ
  pub listed : Memᴰ parent among
  pub is : t ≡ snoc parent letter
  pub letters : letter < a
  pub state : S t ≡ true

module _ (a : ℕ) (S : List ℕ → Bool) where
  pub in_kid_bytes : (s : List ℕ) {c : ℕ} → Memᴰ c (kid_bytes a S s) → (c < a) × (S (snoc s c) ≡ true)
  unfolding kid_bytes
  in_kid_bytes s {c} m =
      let r = in_those (λ k. S (snoc s k)) (each 0 a (λ k. k ∷ [])) m in
      let i = in_each 0 a (λ k. k ∷ []) r.0 in
      let e : c ≡ i.0 = Memᴰ.eq_of_singleton i.3 in
      (omega (arith, i.2), r.1)

  pub to_kid_bytes : (s : List ℕ) (c : ℕ) → c < a → S (snoc s c) ≡ true → Memᴰ c (kid_bytes a S s)
  unfolding kid_bytes
  to_kid_bytes s c l h =
      to_those (λ k. S (snoc s k)) (each 0 a (λ k. k ∷ []))
      (to_each 0 a c (λ k. k ∷ []) (omega arith) (omega arith) (Memᴰ.head refl)) h

  pub kid_bytes_rising : (s : List ℕ) → Sorted (λ x y. x < y) (kid_bytes a S s)
  unfolding kid_bytes
  kid_bytes_rising s =
      sorted_those (λ x y. x < y) (λ k. S (snoc s k)) (each 0 a (λ k. k ∷ []))
      (sorted_each (λ x y. x < y) 0 a (λ k. k ∷ []) (λ k. (λ y m. absurd (Memᴰ.not-nil m), tt))
      (λ j k l b x y m n. omega (arith, Memᴰ.eq_of_singleton m, Memᴰ.eq_of_singleton n)))

  pub in_kids : (s : List ℕ) {t : List ℕ} → Memᴰ t (kids a S s) → Child a S (s ∷ []) t
  unfolding kids
  in_kids s m =
      let r = Memᴰ.of_map (snoc s) (kid_bytes a S s) m in
      let k = in_kid_bytes s r.1 in
      record { parent = s; letter = r.0; listed = Memᴰ.head refl; is = sym r.2; letters = k.0; state = rw (← r.2) k.1 }

  pub to_kids : (s : List ℕ) (c : ℕ) → c < a → S (snoc s c) ≡ true → Memᴰ (snoc s c) (kids a S s)
  unfolding kids
  to_kids s c l h = Memᴰ.map (snoc s) (to_kid_bytes s c l h)

  pub kids_once : (s : List ℕ) → Sorted Apart (kids a S s)
  unfolding kids
  kids_once s =
      sorted_map Apart (snoc s) (kid_bytes a S s)
      (sorted_weaken (λ x y. x < y) (λ x y. Apart (snoc s x) (snoc s y)) (kid_bytes a S s)
      (λ x y m n l e. omega (arith, snoc_byte s s x y e)) (kid_bytes_rising s))

  pub in_below : (ss : List (List ℕ)) {t : List ℕ} → Memᴰ t (below a S ss) → Child a S ss t
  unfolding below
  in_below [] m = absurd (Memᴰ.not-nil m)
  in_below (s ∷ ss) {t} m = ⊎_elim (λ k. first (in_kids s k)) (λ k. later (in_below ss k)) (Memᴰ.append_cases (kids a S s) m)
    where
      first : Child a S (s ∷ []) t → Child a S (s ∷ ss) t
      first c =
          record {
            parent = c.parent;
            letter = c.letter;
            listed = Memᴰ.head (Memᴰ.eq_of_singleton c.listed);
            is = c.is;
            letters = c.letters;
            state = c.state;
          }

      later : Child a S ss t → Child a S (s ∷ ss) t
      later c =
          record {
            parent = c.parent;
            letter = c.letter;
            listed = Memᴰ.tail c.listed;
            is = c.is;
            letters = c.letters;
            state = c.state;
          }

  pub to_below : (ss : List (List ℕ)) {s : List ℕ} (c : ℕ) → Memᴰ s ss → c < a → S (snoc s c) ≡ true
      → Memᴰ (snoc s c) (below a S ss)
  unfolding below
  to_below [] c m l h = absurd (Memᴰ.not-nil m)
  to_below (r ∷ ss) {s} c m l h =
      ⊎_elim (λ e. rw e (Memᴰ.append_left (below a S ss) (to_kids r c l (rw e at h))))
      (λ k. Memᴰ.append_right (kids a S r) (to_below ss c k l h))
      (Memᴰ.cases_cons m)

  -- the children of states that differ differ
  pub below_once : (ss : List (List ℕ)) → Sorted Apart ss → Sorted Apart (below a S ss)
  unfolding below
  below_once [] o = tt
  below_once (s ∷ ss) o =
      sorted_append Apart (kids a S s) (below a S ss) (kids_once s) (below_once ss o.1)
      (λ x y m n e. let p = in_kids s m in let q = in_below ss n in
      o.0 q.parent q.listed
      (sym (Memᴰ.eq_of_singleton p.listed) ∙ snoc_parent p.parent q.parent p.letter q.letter (sym p.is ∙ e ∙ q.is)))

  pub below_append : (l m : List (List ℕ)) → below a S (l ++ m) ≡ below a S l ++ below a S m
  unfolding below
  below_append [] m = refl
  below_append (s ∷ l) m = rw (below_append l m) (sym (append_assoc (kids a S s) (below a S l) (below a S m)))

  -- (b9) taking one state more takes its children more
  pub below_take_suc : (B : List (List ℕ)) (h : ℕ) → h < length B
      → below a S (take (suc h) B) ≡ below a S (take h B) ++ kids a S (get_or B h [])
  below_take_suc B h l = ap (below a S) (take-suc B h [] l) ∙ below_append (take h B) (get_or B h [] ∷ []) ∙ rw (below_one (get_or B h []))
    where
      below_one : (s : List ℕ) → below a S (s ∷ []) ≡ kids a S s
      below_one s = unfold below in append-nil (kids a S s)

  -- the children of some lengths are the states of the lengths that follow
  below_each : (i m : ℕ) → below a S (each i m (level a S)) ≡ each (suc i) m (level a S)
  unfolding below each level
  below_each i zero = refl
  below_each i (suc m) = rw (below_append (level a S i) (each (suc i) m (level a S)), below_each (suc i) m)

  each_first : (m : ℕ) → each 0 (suc m) (level a S) ≡ [] ∷ each 1 m (level a S)
  unfolding each level
  each_first m = refl

  level_once : (d : ℕ) → Sorted Apart (level a S d)
  unfolding level
  level_once zero = (λ y m. absurd (Memᴰ.not-nil m), tt)
  level_once (suc d) = below_once (level a S d) (level_once d)

-- ---- any list of the states

-- a state that is shorter than the one at place k stands before it
pub listing_before : (S : List ℕ → Bool) (B : List (List ℕ)) → Listing S B → (k : ℕ) (r : List ℕ) → k < length B → S r ≡ true
    → length r < length (get_or B k []) → Memᴰ r (take k B)
listing_before S B T k r h z l =
    sorted_before NoLonger B T.rising k [] r h ((T.exact r).1 z) (λ e. omega (arith, ap length e)) (λ j. omega arith)

-- ---- the list, over the laws

module _ (a n : ℕ) (S : List ℕ → Bool) (L : Bounded a n S) where
  abbrev B : List (List ℕ)
  B = breadth a S n

  in_level : (d : ℕ) {s : List ℕ} → Memᴰ s (level a S d) → (S s ≡ true) × (length s ≡ d)
  unfolding level
  in_level zero m = let e = Memᴰ.eq_of_singleton m in (rw e L.root, rw e)
  in_level (suc d) m =
      let c = in_below a S (level a S d) m in
      (c.state, omega (arith, ap length c.is, length_snoc c.parent c.letter, in_level d c.listed))

  to_level : (d : ℕ) (s : List ℕ) → S s ≡ true → length s ≡ d → Memᴰ s (level a S d)
  unfolding level
  to_level zero [] h e = Memᴰ.head refl
  to_level zero (x ∷ xs) h e = absurd (omega arith)
  to_level (suc d) s h e = go (λ u k q. to_level d u k q) (ended s) h e
    where
      go : ((u : List ℕ) → S u ≡ true → length u ≡ d → Memᴰ u (level a S d))
          → {w : List ℕ} → Ended w → S w ≡ true → length w ≡ suc d → Memᴰ w (below a S (level a S d))
      go up none k q = absurd (omega arith)
      go up (last u c) k q =
          to_below a S (level a S d) c (up u (L.closed u c k) (omega (arith, length_snoc u c))) (L.byte u c k) k

  -- ---- (b2) to (b4): what the list has, and in what order

  pub breadth_exact : (s : List ℕ) → Memᴰ s B ↔ (S s ≡ true)
  unfolding breadth
  breadth_exact s = (
    λ m. let r = in_each 0 (suc n) (level a S) m in (in_level r.0 r.3).0,
    λ h. to_each 0 (suc n) (length s) (level a S) (omega arith) (omega (arith, L.short s h)) (to_level (length s) s h refl),
  )

  pub breadth_once : Sorted Apart B
  unfolding breadth
  breadth_once =
      sorted_each Apart 0 (suc n) (level a S) (level_once a S)
      (λ i j l b x y m k e. omega (arith, ap length e, in_level i m, in_level j k))

  pub breadth_rising : Sorted NoLonger B
  unfolding breadth
  breadth_rising =
      sorted_each NoLonger 0 (suc n) (level a S)
      (λ d. sorted_weaken Apart NoLonger (level a S d) (λ x y m k h. omega (arith, in_level d m, in_level d k)) (level_once a S d))
      (λ i j l b x y m k. omega (arith, in_level i m, in_level j k))

  pub breadth_listing : Listing S B
  breadth_listing = record { exact = breadth_exact; once = breadth_once; rising = breadth_rising }

  -- ---- (b1) the list is root and its own children

  -- no state is longer than n
  level_past : level a S (suc n) ≡ []
  level_past = empty (level a S (suc n)) (λ s m. let r = in_level (suc n) m in omega (arith, r.1, L.short s r.0))
    where
      empty : (l : List (List ℕ)) → ((s : List ℕ) → Memᴰ s l → ⊥) → l ≡ []
      empty [] h = refl
      empty (s ∷ l) h = absurd (h s (Memᴰ.head refl))

  pub breadth_below : B ≡ [] ∷ below a S B
  unfolding breadth
  breadth_below = each_first a S n ∙ ap (λ (l : List (List ℕ)). [] ∷ l) (sym (below_each a S 0 (suc n) ∙ each_past 1 n (level a S) past))
    where
      past : level a S (1 + n) ≡ []
      past = let e : 1 + n ≡ suc n = omega arith in rw e level_past

  -- every state but root is a child of a state
  pub breadth_child : (s : List ℕ) → Apart s [] → S s ≡ true → Child a S B s
  breadth_child s h k = go (ended s) h k
    where
      go : {w : List ℕ} → Ended w → Apart w [] → S w ≡ true → Child a S B w
      go none q z = absurd (q refl)
      go (last u c) q z =
          record { parent = u; letter = c; listed = (breadth_exact u).1 (L.closed u c z); is = refl; letters = L.byte u c z; state = z }

  -- ---- (b5) the pigeonhole: how long a list with all the states is

  -- a list that has all the states
  pub breadth_fits : (m : List (List ℕ)) → ((s : List ℕ) → S s ≡ true → Memᴰ s m) → length B ≤ length m
  breadth_fits m all = fits B m breadth_once (λ s k. all s ((breadth_exact s).0 k))

  -- the list with one more that is no state
  more_once : (w : List ℕ) → S w ≡ false → Sorted Apart (w ∷ B)
  more_once w z = (λ s k e. clash ((breadth_exact s).0 k) (subst (λ (l : List ℕ). S l ≡ false) e z), breadth_once)

  -- a list that has all the states, and something else
  pub breadth_fits_more : (m : List (List ℕ)) (w : List ℕ) → ((s : List ℕ) → S s ≡ true → Memᴰ s m)
      → Memᴰ w m → S w ≡ false → suc (length B) ≤ length m
  breadth_fits_more m w all k z =
      fits (w ∷ B) m (more_once w z) (λ s i. ⊎_elim (λ e. Memᴰ.cast e k) (λ j. all s ((breadth_exact s).0 j)) (Memᴰ.cases_cons i))

  -- a list that has the states and one thing more, each once
  pub breadth_and_one : (m : List (List ℕ)) (w : List ℕ) → Sorted Apart m → ((x : List ℕ) → Memᴰ x m → (x ≡ w) ⊎ (S x ≡ true))
      → ((s : List ℕ) → S s ≡ true → Memᴰ s m) → Memᴰ w m → S w ≡ false → length m ≡ suc (length B)
  breadth_and_one m w once only all k z =
      let upper : length m ≤ suc (length B)
      = fits m (w ∷ B) once (λ x i. ⊎_elim (λ e. Memᴰ.head e) (λ h. Memᴰ.tail ((breadth_exact x).1 h)) (only x i)) in
      omega (arith, breadth_fits_more m w all k z)

  -- ---- (b6) to (b8): the build's list after h states were taken

  breadth_split : (h : ℕ) → B ≡ [] ∷ (below a S (take h B) ++ below a S (drop h B))
  breadth_split h =
      breadth_below
      ∙ ap (λ (l : List (List ℕ)). [] ∷ l) (ap (below a S) (sym (take-append-drop h B)) ∙ below_append a S (take h B) (drop h B))

  -- root and the children of the first h states
  pub begun_is : (h : ℕ) → [] ∷ below a S (take h B) ≡ take (suc (length (below a S (take h B)))) B
  begun_is h =
      sym
      (ap (take (suc (length (below a S (take h B))))) (breadth_split h)
      ∙ ap (λ (l : List (List ℕ)). [] ∷ l) (take-append_seam (below a S (take h B)) (below a S (drop h B))))

  pub begun_length : (h : ℕ) → suc (length (below a S (take h B))) ≤ length B
  begun_length h = omega (arith, ap length (breadth_split h), length-append (below a S (take h B)) (below a S (drop h B)))

  -- it has every state that is no longer than the state at h
  pub begun_has : (h : ℕ) (s : List ℕ) → h < length B → S s ≡ true → length s ≤ length (get_or B h [])
      → Memᴰ s ([] ∷ below a S (take h B))
  begun_has h s l z k = go (ended s) z k
    where
      go : {w : List ℕ} → Ended w → S w ≡ true → length w ≤ length (get_or B h []) → Memᴰ w ([] ∷ below a S (take h B))
      go none q i = Memᴰ.head refl
      go (last u c) q i =
          Memᴰ.tail
          (to_below a S (take h B) c
          (listing_before S B breadth_listing h u l (L.closed u c q) (omega (arith, length_snoc u c))) (L.byte u c q) q)

  -- so when it grows no longer, all states were taken
  pub begun_ends : (h : ℕ) → h ≤ length B → suc (length (below a S (take h B))) ≡ h → h ≡ length B
  begun_ends h l e =
      elim (dec_lt h (length B)) [
        | yes k ↦ absurd (sorted_take Apart B breadth_once h [] (get_or B h []) k (there k) refl)
        | no k ↦ omega arith
      ]
    where
      there : h < length B → Memᴰ (get_or B h []) (take h B)
      there k =
          subst (Memᴰ (get_or B h [])) (begun_is h ∙ ap (λ (m : ℕ). take m B) e)
          (begun_has h (get_or B h []) k ((breadth_exact (get_or B h [])).0 (get_member B h [] k)) (omega arith))
