-- The stored outputs: from a state's place the chain lists what the state puts out. A link's target is shorter, so it stands
-- earlier in the list of states, and later stores change neither its place nor what is stored.
use mathlib.Core.Path.{◌≡◌, refl, sym, ap, ◌∙◌, subst}
use mathlib.Core.Bool.{true, false, false≢true}
use mathlib.Core.List.{List, [], ◌∷◌, ◌++◌, append-nil, reverse, reverse_aux, reverse_aux-eq, reverse-reverse}
use mathlib.Core.List.Memᴰ
use mathlib.Core.List.{Memᴰ}
use mathlib.Core.Logic.{◌⊎◌, inl, inr, ⊎_elim}
use Prim.Native.Nat.{ℕ, zero, suc, ◌+◌, ◌-◌, ◌≤◌, ◌<◌}
use native.Mathlib.Nat.{not-suc-le-zero}
use native.Mathlib.Omega.{arith}
use lib.ListN.{length, get_or, take, drop, length-append, length-reverse, take-append-drop, get_or-append}
use lib.Seq.{take-suc, take-length, append_snoc, get_or-append_seam}
use Rattle.paper.specs.Lists.{same, Sorted}
use Rattle.paper.specs.Patterns.{Entry}
use Rattle.paper.specs.Automaton.{Machine, Link, dead, to, link, failure, onward, chain, output, landed}
use Rattle.std.proofs.lemmas.Bool.{false_from_ne_true}
use Rattle.paper.proofs.Tests.{test, clash}
use Rattle.paper.proofs.Strings.{same_eq, eq_same, same_refl}
use Rattle.paper.proofs.Links.{Lawful, link_cases, ruled}
use Rattle.paper.proofs.Outputs.{chain_is, output_is}
use Rattle.plan.specs.Breadth.{Apart, Listing}
use Rattle.plan.specs.Outputs.{Out, Stored, piled, top_of, place_at, store, store_all, nothing, no_out, out_at, Chained}
use Rattle.plan.proofs.Lists.{member_at, sorted_across, sorted_take}
use Rattle.plan.proofs.Breadth.{listing_before}
use Rattle.paper.proofs.Links.{is_to, failure_shorter, failure_is_state}

-- ---- chains

-- places count from 1, and the list's own from 0
pub out_at_lem : (outs : List Out) (p : ℕ) → 0 < p → out_at outs p ≡ get_or outs (p - 1) no_out
out_at_lem outs zero h = absurd (not-suc-le-zero h)
out_at_lem outs (suc k) h = let e : suc k - 1 ≡ k = omega arith in rw e

out_append : (outs more : List Out) (p : ℕ) → 0 < p → p ≤ length outs → out_at (outs ++ more) p ≡ out_at outs p
out_append outs more zero h k = absurd (not-suc-le-zero h)
out_append outs more (suc k) h l = get_or-append outs more no_out k l

-- what is stored later changes no chain
pub chained_more : (outs more : List Out) (p : ℕ) (l : List Entry) → Chained outs p l → Chained (outs ++ more) p l
chained_more outs more p [] c = c
chained_more outs more p (x ∷ l) c =
    let e = out_append outs more p c.0.some_place c.0.within in (
      record {
        some_place = c.0.some_place;
        within = omega (arith, length-append outs more, c.0.within);
        same_row = rw e c.0.same_row;
        same_size = rw e c.0.same_size;
        falls = rw e c.0.falls;
      },
      rw e (chained_more outs more (out_at outs p).next l c.1),
    )

-- one output more, on a chain
on_chain : (outs : List Out) (x : Entry) (head : ℕ) (rest : List Entry) → head ≤ length outs → Chained outs head rest
    → Chained (outs ++ (record { row = x.row; size = length x.word; next = head } ∷ [])) (suc (length outs)) (x ∷ rest)
on_chain outs x head rest h c =
    let o : Out = record { row = x.row; size = length x.word; next = head } in
    let e : out_at (outs ++ (o ∷ [])) (suc (length outs)) ≡ o = get_or-append_seam outs o [] no_out in (
      record {
        some_place = omega arith;
        within = omega (arith, length-append outs (o ∷ []));
        same_row = rw e;
        same_size = rw e;
        falls = rw e (omega arith);
      },
      rw e (chained_more outs (o ∷ []) head rest c),
    )

pub top_next : (l : List Entry) (n : ℕ) → top_of l (suc n) (suc n) ≡ n + suc (length l)
top_next [] n = omega arith
top_next (x ∷ l) n = omega arith

top_within : (l : List Entry) (n head : ℕ) → head ≤ n → top_of l n head ≤ n + length l
top_within [] n head h = omega arith
top_within (x ∷ l) n head h = omega arith

-- a pile on a chain shows its entries last first
piled_chained : (outs : List Out) (l : List Entry) (head : ℕ) (rest : List Entry) → head ≤ length outs → Chained outs head rest
    → Chained (outs ++ piled l (length outs) head) (top_of l (length outs) head) (reverse_aux l rest)
unfolding piled
piled_chained outs [] head rest h c = rw append-nil c
piled_chained outs (x ∷ l) head rest h c =
    let o : Out = record { row = x.row; size = length x.word; next = head } in
    let longer : length (outs ++ (o ∷ [])) ≡ suc (length outs) = omega (arith, length-append outs (o ∷ [])) in
    let ih = piled_chained (outs ++ (o ∷ [])) l (suc (length outs)) (x ∷ rest) (omega arith) (on_chain outs x head rest h c) in
    rw (← append_snoc outs o (piled l (suc (length outs)) (suc (length outs))), ← top_next l (length outs)) (rw longer at ih)

length_piled : (l : List Entry) (n head : ℕ) → length (piled l n head) ≡ length l
unfolding piled
length_piled [] n head = refl
length_piled (x ∷ l) n head = ap suc (length_piled l (suc n) (suc n))

-- ---- one store

module _ (M : Machine) (e : Stored) (s : List ℕ) where
  pub store_length : length (store M e s).outs ≡ length e.outs + length (M.own s)
  unfolding store
  store_length =
      length-append e.outs (piled mine (length e.outs) (place_at e (link M s)))
      ∙ ap (λ (k : ℕ). length e.outs + k) (length_piled mine (length e.outs) (place_at e (link M s)) ∙ length-reverse (M.own s))
    where
      mine : List Entry
      mine = reverse (M.own s)

  -- where the state's chain begins
  pub store_here : (store M e s).place s ≡ top_of (reverse (M.own s)) (length e.outs) (place_at e (link M s))
  unfolding store
  store_here = rw (same_refl s)

  -- other places stay
  pub store_other : (w : List ℕ) → Apart w s → (store M e s).place w ≡ e.place w
  unfolding store
  store_other w h = rw (false_from_ne_true (same w s) (λ k. h (same_eq w s k)))

  store_keeps : (p : ℕ) (l : List Entry) → Chained e.outs p l → Chained (store M e s).outs p l
  unfolding store
  store_keeps p l c = chained_more e.outs (piled (reverse (M.own s)) (length e.outs) (place_at e (link M s))) p l c

  -- the state's chain: its own outputs, then the chain that it was piled on
  store_chained : (rest : List Entry) → place_at e (link M s) ≤ length e.outs → Chained e.outs (place_at e (link M s)) rest
      → Chained (store M e s).outs ((store M e s).place s) (M.own s ++ rest)
  unfolding store
  store_chained rest h c =
      rw (same_refl s)
      (subst (Chained (store M e s).outs (top_of (reverse (M.own s)) (length e.outs) (place_at e (link M s))))
      (reverse_aux-eq (reverse (M.own s)) rest ∙ ap (λ (l : List Entry). l ++ rest) (reverse-reverse (M.own s)))
      (piled_chained e.outs (reverse (M.own s)) (place_at e (link M s)) rest h c))

-- ---- stores in turn

pub store_all_append : (M : Machine) (e : Stored) (l m : List (List ℕ)) → store_all M e (l ++ m) ≡ store_all M (store_all M e l) m
unfolding store_all
store_all_append M e [] m = refl
store_all_append M e (s ∷ l) m = store_all_append M (store M e s) l m

-- (o4) one state more
pub store_all_suc : (M : Machine) (B : List (List ℕ)) (k : ℕ) → k < length B
    → store_all M nothing (take (suc k) B) ≡ store M (store_all M nothing (take k B)) (get_or B k [])
unfolding store_all
store_all_suc M B k h = ap (store_all M nothing) (take-suc B k [] h) ∙ store_all_append M nothing (take k B) (get_or B k [] ∷ [])

-- what is not stored now keeps its place
pub store_all_other : (M : Machine) (e : Stored) (l : List (List ℕ)) (w : List ℕ) → (Memᴰ w l → ⊥)
    → (store_all M e l).place w ≡ e.place w
unfolding store_all
store_all_other M e [] w h = refl
store_all_other M e (s ∷ l) w h =
    store_all_other M (store M e s) l w (λ m. h (Memᴰ.tail m)) ∙ store_other M e s w (λ q. h (Memᴰ.head q))

-- what holds after the states of `done` were stored
pub record Kept (M : Machine) (done : List (List ℕ)) (e : Stored) : Type 0 where
  pub chained : (s : List ℕ) → Memᴰ s done → Chained e.outs (e.place s) (output M s)
  pub within : (s : List ℕ) → e.place s ≤ length e.outs
  pub absent : (s : List ℕ) → (Memᴰ s done → ⊥) → e.place s ≡ 0

place_within : (M : Machine) (done : List (List ℕ)) (e : Stored) → Kept M done e → (l : Link) → place_at e l ≤ length e.outs
place_within M done e K dead = omega arith
place_within M done e K (to r) = K.within r

module _ (M : Machine) (L : Lawful M) (quiet : M.own [] ≡ []) where
  chain_enough : (n : ℕ) (s : List ℕ) → length s ≤ n → chain M n s ≡ output M s
  chain_enough n s h = chain_is M L n s h ∙ sym (output_is M L s)

  -- a state puts out its own outputs, then what its link's target does
  pub output_linked : (s : List ℕ) → output M s ≡ M.own s ++ onward (link M s) (output M)
  unfolding chain
  output_linked [] = rw (quiet, (ruled M L).root)
  output_linked (x ∷ xs) =
      link_cases M L (x ∷ xs) (λ _ k. rw k)
      (λ _ k. rw (k, chain_enough (length xs) (failure M.is_state (x ∷ xs)) (failure_shorter M L x xs)))

  -- a store of one more state, if the chain of its link's target is stored
  store_kept : (done : List (List ℕ)) (e : Stored) (s : List ℕ) → Kept M done e → (Memᴰ s done → ⊥)
      → Chained e.outs (place_at e (link M s)) (onward (link M s) (output M)) → Kept M (done ++ (s ∷ [])) (store M e s)
  store_kept done e s K new c = record { chained = chained; within = within; absent = absent }
    where
      under : place_at e (link M s) ≤ length e.outs
      under = place_within M done e K (link M s)

      top : top_of (reverse (M.own s)) (length e.outs) (place_at e (link M s)) ≤ length (store M e s).outs
      top =
          omega (
            arith,
            top_within (reverse (M.own s)) (length e.outs) (place_at e (link M s)) under,
            length-reverse (M.own s),
            store_length M e s,
          )

      mine : Chained (store M e s).outs ((store M e s).place s) (output M s)
      mine = rw (output_linked s) (store_chained M e s (onward (link M s) (output M)) under c)

      earlier : (w : List ℕ) → Memᴰ w done → Chained (store M e s).outs ((store M e s).place w) (output M w)
      earlier w m =
          rw (store_other M e s w (λ q. new (subst (λ (l : List ℕ). Memᴰ l done) q m)))
          (store_keeps M e s (e.place w) (output M w) (K.chained w m))

      chained : (w : List ℕ) → Memᴰ w (done ++ (s ∷ [])) → Chained (store M e s).outs ((store M e s).place w) (output M w)
      chained w m = ⊎_elim (earlier w) (λ k. let q : w ≡ s = Memᴰ.eq_of_singleton k in rw q mine) (Memᴰ.append_cases done m)

      within : (w : List ℕ) → (store M e s).place w ≤ length (store M e s).outs
      within w =
          test (same w s)
          (λ h. rw (same_eq w s h, store_here M e s) top)
          (λ h. rw (store_other M e s w (λ q. clash (eq_same w s q) h)) (omega (arith, K.within w, store_length M e s)))

      absent : (w : List ℕ) → (Memᴰ w (done ++ (s ∷ [])) → ⊥) → (store M e s).place w ≡ 0
      absent w h =
          store_other M e s w (λ q. h (Memᴰ.append_right done (Memᴰ.head q)))
          ∙ K.absent w (λ m. h (Memᴰ.append_left (s ∷ []) m))

  -- ---- along a list of the states

  module _ (B : List (List ℕ)) (T : Listing M.is_state B) where
    -- what is stored after k states, and after all
    abbrev after : ℕ → Stored
    after k = store_all M nothing (take k B)

    abbrev all : Stored
    all = store_all M nothing B

    new_at : (k : ℕ) → k < length B → Memᴰ (get_or B k []) (take k B) → ⊥
    new_at k h m = sorted_take Apart B T.once k [] (get_or B k []) h m refl

    -- the link of the state at k: dead, or root's own, or to a state before it
    at_target : (P : Link → Type 0) (k : ℕ) → k < length B → P dead → (get_or B k [] ≡ [] → P (to []))
        → ((r : List ℕ) → Memᴰ r (take k B) → P (to r)) → P (link M (get_or B k []))
    at_target P k h fallen root earlier = go (get_or B k []) refl
      where
        go : (s : List ℕ) → get_or B k [] ≡ s → P (link M s)
        go [] q = rw (ruled M L).root (root q)
        go (x ∷ xs) q =
            link_cases M L (x ∷ xs) (λ _ e. rw e fallen)
            (λ _ e. rw e
            (earlier (failure M.is_state (x ∷ xs))
            (listing_before M.is_state B T k (failure M.is_state (x ∷ xs)) h (failure_is_state M L (x ∷ xs))
            (omega (arith, ap length q, failure_shorter M L x xs)))))

    -- (o5) the link's target of the state at k stands before it; only root's is root itself
    pub target_before : (k : ℕ) → k < length B → (r : List ℕ) → link M (get_or B k []) ≡ to r
        → ((get_or B k [] ≡ []) × (r ≡ [])) ⊎ Memᴰ r (take k B)
    target_before k h r =
        at_target (λ l. l ≡ to r → ((get_or B k [] ≡ []) × (r ≡ [])) ⊎ Memᴰ r (take k B)) k h
        (λ e. absurd (false≢true (ap is_to e))) (λ q e. inl (q, sym (ap landed e)))
        (λ w m e. inr (subst (λ (l : List ℕ). Memᴰ l (take k B)) (ap landed e) m))

    root_output : output M [] ≡ []
    unfolding chain
    root_output = refl

    -- root has no place before it is stored
    new_root : (k : ℕ) → k < length B → Kept M (take k B) (after k) → get_or B k [] ≡ [] → (after k).place [] ≡ 0
    new_root k h K q = K.absent [] (λ m. new_at k h (rw q m))

    -- where the next store piles on
    head_chained : (k : ℕ) → k < length B → Kept M (take k B) (after k)
        → Chained (after k).outs (place_at (after k) (link M (get_or B k []))) (onward (link M (get_or B k [])) (output M))
    head_chained k h K =
        at_target (λ l. Chained (after k).outs (place_at (after k) l) (onward l (output M))) k h refl
        (λ q. rw root_output (new_root k h K q)) K.chained

    pub kept_at : (k : ℕ) → k ≤ length B → Kept M (take k B) (after k)
    unfolding store_all
    kept_at zero h = record { chained = λ s m. absurd (Memᴰ.not-nil m); within = λ s. omega arith; absent = λ s m. refl }
    kept_at (suc k) h =
        let ih = kept_at k (omega arith) in
        rw (store_all_suc M B k h, take-suc B k [] h)
        (store_kept (take k B) (after k) (get_or B k []) ih (new_at k h) (head_chained k h ih))

    pub kept : Kept M B all
    kept = subst (λ (l : List (List ℕ)). Kept M l (store_all M nothing l)) (take-length B) (kept_at (length B) (omega arith))

    -- (o1) from a state's place the chain lists what the state puts out
    pub output_stored : (s : List ℕ) → M.is_state s ≡ true → Chained all.outs (all.place s) (output M s)
    output_stored s h = kept.chained s ((T.exact s).1 h)

    root_place : all.place [] ≡ 0
    root_place = rw root_output at (output_stored [] L.states.root)

    -- (o3) places lie in the list, and only states have one
    pub stored_within : (s : List ℕ) → all.place s ≤ length all.outs
    stored_within s = kept.within s

    pub stored_absent : (s : List ℕ) → M.is_state s ≡ false → all.place s ≡ 0
    stored_absent s h = kept.absent s (λ m. clash ((T.exact s).0 m) h)

    -- what has a place after k states keeps it
    pub place_final : (k : ℕ) (w : List ℕ) → Memᴰ w (take k B) → all.place w ≡ (after k).place w
    place_final k w m =
        ap (λ (l : List (List ℕ)). (store_all M nothing l).place w) (sym (take-append-drop k B))
        ∙ ap (λ (e : Stored). e.place w) (store_all_append M nothing (take k B) (drop k B))
        ∙ store_all_other M (after k) (drop k B) w (λ i. sorted_across Apart (take k B) (drop k B) apart w w m i refl)
      where
        apart : Sorted Apart (take k B ++ drop k B)
        apart = rw (take-append-drop k B) T.once

    -- (o5) so does the chain that the state at k is piled on
    pub head_final : (k : ℕ) → k < length B → place_at all (link M (get_or B k [])) ≡ place_at (after k) (link M (get_or B k []))
    head_final k h =
        at_target (λ l. place_at all l ≡ place_at (after k) l) k h refl (λ q. root_place ∙ sym (new_root k h (kept_at k (omega arith)) q))
        (place_final k)

    -- where the chain of the state at k begins
    pub place_at_lem : (k : ℕ) → k < length B
        → all.place (get_or B k [])
        ≡ top_of (reverse (M.own (get_or B k []))) (length (after k).outs) (place_at (after k) (link M (get_or B k [])))
    place_at_lem k h =
        place_final (suc k) (get_or B k []) (rw (take-suc B k [] h) (Memᴰ.append_right (take k B) (Memᴰ.head refl)))
        ∙ ap (λ (e : Stored). e.place (get_or B k [])) (store_all_suc M B k h)
        ∙ store_here M (after k) (get_or B k [])

    -- (o3) a state without own outputs shares its link's chain
    pub place_shared : (s : List ℕ) → M.is_state s ≡ true → M.own s ≡ [] → all.place s ≡ place_at all (link M s)
    place_shared s h q = go (member_at B [] ((T.exact s).1 h))
      where
        go : (k : ℕ) × (k < length B) × (get_or B k [] ≡ s) → all.place s ≡ place_at all (link M s)
        go r =
            let none : M.own (get_or B r.0 []) ≡ [] = rw r.2 q in
            rw (← r.2) (place_at_lem r.0 r.1 ∙ rw none (sym (head_final r.0 r.1)))
