-- The loop over the breadth-first order: after i states the tables hold what is stored over the first i states of the order.
use mathlib.Core.Path.{◌≡◌, refl, sym, ap, ◌∙◌, subst}
use mathlib.Core.List.Memᴰ
use mathlib.Core.List.{List, [], ◌∷◌, ◌++◌, reverse, reverse_aux, Memᴰ}
use mathlib.Core.Logic.{◌⊎◌, inl, inr, ⊎_elim}
use Prim.Native.Nat.{ℕ, suc, ◌+◌, ◌≤◌, ◌<◌}
use native.Mathlib.Decide.{ℕ_discrete}
use native.Mathlib.Omega.{arith}
use lib.ListN.{length, get_or, set, take, drop, length-reverse, length-map}
use lib.Seq.{sets, sets-eq, take-suc, take-length}
use Rattle.paper.specs.Patterns.{Entry, Kind}
use Rattle.paper.specs.Automaton.{Machine, machine, own_of, Link, dead, to, link}
use Rattle.paper.proofs.Machines.{lawful}
use Rattle.paper.proofs.Leftmost.{in_own}
use Rattle.list.specs.Limits.{alphabet}
use Rattle.zeros.specs.Rows.{field}
use Rattle.plan.specs.Names.{names, Distinct}
use Rattle.plan.specs.Outputs.{Out, Stored, piled, place_at, store, store_all, nothing}
use Rattle.plan.proofs.Outputs.{store_length, store_here, store_other, store_all_suc, target_before}
use Rattle.plan.proofs.Counts.{stored_count, stored_count_at}
use Rattle.plan.proofs.Machines.{machine_quiet}
use Rattle.trie.specs.Owned.{owns_of, Pile}
use Rattle.links.specs.Notes.{with_place}
use Rattle.links.specs.Linked.{Named, Leads, ordered}
use Rattle.outputs.specs.Rows.{out_row, out_rows}
use Rattle.outputs.specs.Stacked.{Sized, Stackable, Stacked}
use Rattle.outputs.specs.Placed.{all_stored, Tabled, Placed}
use Rattle.outputs.proofs.Order.{listing, in_order, order_length}
use Rattle.outputs.proofs.Noting.{place_kept, place_here, place_other}

-- ---- lists

sets_append : {A : Type 0} (l : List A) (i : ℕ) (vs ws : List A) → sets l i (vs ++ ws) ≡ sets (sets l i vs) (i + length vs) ws
sets_append l i [] ws = let e : i + 0 ≡ i = omega arith in rw e
sets_append l i (v ∷ vs) ws = let e : i + suc (length vs) ≡ suc i + length vs = omega arith in rw e (sets_append (set l i v) (suc i) vs ws)

rows_append : (values : List ℕ) (a b : List Out) → out_rows values (a ++ b) ≡ out_rows values a ++ out_rows values b
rows_append values [] b = refl
rows_append values (x ∷ a) b = ap (λ (l : List (List ℕ)). out_row values x ∷ l) (rows_append values a b)

in_reverse : (l more : List Entry) {x : Entry} → Memᴰ x (reverse_aux l more) → Memᴰ x l ⊎ Memᴰ x more
in_reverse [] more m = inr m
in_reverse (y ∷ l) more m =
    ⊎_elim (λ k. inl (Memᴰ.tail k)) (λ k. ⊎_elim (λ e. inl (Memᴰ.head e)) inr (Memᴰ.cases_cons k))
    (in_reverse l (y ∷ more) m)

of_reverse : (l : List Entry) {x : Entry} → Memᴰ x (reverse l) → Memᴰ x l
of_reverse l m = ⊎_elim (λ k. k) (λ k. absurd (Memᴰ.not-nil k)) (in_reverse l [] m)

-- ---- the loop

-- what is stored over the first i states of the order
abbrev pub stored_to : Kind → List Entry → ℕ → Stored
stored_to kind es i = store_all (machine kind es) nothing (take i (ordered es))

-- root and the first i states have their places, dead has none, and the outputs stand from the front
pub record Storing (kind : Kind) (es : List Entry) (values : List ℕ) (notes₀ outs₀ : List (List ℕ)) (i : ℕ) (notes outs : List (List ℕ))
    (stored : ℕ) : Type 0 where
  pub count : stored ≡ length (stored_to kind es i).outs
  pub rows : outs ≡ sets outs₀ 0 (out_rows values (stored_to kind es i).outs)
  pub place : (t : ℕ) (s : List ℕ) → Named (names alphabet es) t s → Memᴰ s ([] ∷ take i (ordered es))
      → field notes t 2 ≡ (stored_to kind es i).place s
  pub dead : field notes 1 2 ≡ 0
  pub kept : (k f : ℕ) → f < 6 → (f ≡ 2 → ⊥) → field notes k f ≡ field notes₀ k f

leads_inside : (ns : List (List ℕ)) (k : Link) (l : ℕ) → 2 ≤ length ns → Leads ns k l → l < length ns
leads_inside ns dead l two e = omega arith
leads_inside ns (to r) l two N = N.inside

module _ {kind : Kind} {es : List Entry} {trie owns notes₀ : List (List ℕ)} {values : List ℕ} {slots states : ℕ}
    (T : Tabled kind es trie owns notes₀ values slots states) where
  abbrev M : Machine
  M = machine kind es

  abbrev ns : List (List ℕ)
  ns = names alphabet es

  pub two_states : 2 ≤ states
  two_states = omega (arith, T.made.trie.two, T.made.states_are)

  pub two_notes : 2 ≤ length notes₀
  two_notes = omega (arith, two_states, T.note_room)

  -- there is one state more than the order has, dead
  pub states_count : states ≡ suc (length (ordered es))
  states_count = T.made.states_are ∙ order_length es T.within T.made.trie

  same_number : (t k : ℕ) (s : List ℕ) → Named ns t s → Named ns k s → t ≡ k
  unfolding Distinct
  same_number t k s N L = T.made.trie.distinct t k N.inside L.inside (N.is ∙ sym L.is)

  root_named : Named ns 0 []
  root_named = record { inside = omega (arith, T.made.trie.two); apart = λ e. omega arith; is = T.made.trie.root }

  pub storing : (outs₀ : List (List ℕ)) → field notes₀ 0 2 ≡ 0 → field notes₀ 1 2 ≡ 0 → Storing kind es values notes₀ outs₀ 0 notes₀ outs₀ 0
  unfolding store_all
  storing outs₀ rooted none =
      record {
        count = refl;
        rows = refl;
        place = λ t s N m.
            let e : s ≡ [] = Memᴰ.eq_of_singleton m in
            let z : t ≡ 0 = same_number t 0 [] (rw e at N) root_named in
            rw z rooted;
        dead = none;
        kept = λ k f b n. refl;
      }

  -- ---- one state

  module _ {outs₀ : List (List ℕ)} {i : ℕ} {notes outs : List (List ℕ)} {stored : ℕ}
      (Q : Storing kind es values notes₀ outs₀ i notes outs stored) (h : i < length (ordered es)) where
    -- the state, its number, the number of the state that it links to, its own outputs, and what is stored before it
    abbrev s : List ℕ
    s = get_or (ordered es) i []

    abbrev t : ℕ
    t = field notes i 0

    abbrev l : ℕ
    l = field notes t 1

    abbrev own : List Entry
    own = reverse (own_of es s)

    abbrev e : Stored
    e = stored_to kind es i

    pub state_named : Named ns t s
    state_named = rw (Q.kept i 0 (omega arith) (λ z. omega arith)) (T.linked.order i h)

    leads : Leads ns (link M s) l
    leads =
        rw (Q.kept t 1 (omega arith) (λ z. omega arith), ← state_named.is) (T.linked.link t state_named.inside state_named.apart)

    pub link_inside : l < length ns
    link_inside = leads_inside ns (link M s) l T.made.trie.two leads

    -- the state that it links to has its place already
    head_is : field notes l 2 ≡ place_at e (link M s)
    head_is = go (link M s) refl leads
      where
        go : (k : Link) → link M s ≡ k → Leads ns k l → field notes l 2 ≡ place_at e k
        go dead q z = rw z Q.dead
        go (to r) q N =
            Q.place l r N
            (⊎_elim (λ a. Memᴰ.head a.1) (λ m. Memᴰ.tail m)
            (target_before M (lawful kind es T.proper) (machine_quiet kind es T.proper) (ordered es) (listing es T.within)
            i h r q))

    state_pile : Pile (owns_of owns) T.accepted (field trie t 4) own
    state_pile =
        subst (λ (w : List ℕ). Pile (owns_of owns) T.accepted (field trie t 4) (reverse (own_of es w))) state_named.is
        (T.made.piled T.own_room t state_named.inside state_named.apart)

    in_state : {x : Entry} → Memᴰ x own → Memᴰ x es × (x.word ≡ s)
    in_state m = in_own es s (of_reverse (own_of es s) m)

    state_sized : Sized (field trie t 3) own
    state_sized x m =
        ap length ((in_state m).1 ∙ sym state_named.is) ∙ sym (T.made.trie.deep t state_named.inside state_named.apart)

    next_is : stored_to kind es (suc i) ≡ store M e s
    next_is = store_all_suc M (ordered es) i h

    next_outs : (stored_to kind es (suc i)).outs ≡ e.outs ++ piled own (length e.outs) (place_at e (link M s))
    next_outs = rw next_is (unfold store in refl)

    next_count : length (stored_to kind es (suc i)).outs ≡ stored + length own
    next_count = rw next_is (omega (arith, store_length M e s, length-reverse (own_of es s), Q.count))

    next_few : stored + length own ≤ T.accepted
    next_few = omega (arith, next_count, stored_count_at kind es (ordered es) (listing es T.within) (suc i), T.made.count_is)

    pub stackable : Stackable owns values slots (field trie t 4) stored
    stackable =
        record {
          own = own;
          bound = T.accepted;
          within = T.own_room;
          pile = state_pile;
          valued = λ x m. T.valued x (in_state m).0;
          room = omega (arith, next_few, T.out_room);
          few = omega (arith, next_few, T.few);
        }

    -- the tables after the state was stored
    module _ {notes' outs' : List (List ℕ)} {count : ℕ} (room : states ≤ length notes)
        (kept : (n : ℕ) (pile : List Entry) → Pile (owns_of owns) n (field trie t 4) pile → Sized (field trie t 3) pile
        → Stacked values pile t stored notes notes' outs outs' count) where
      D : Stacked values own t stored notes notes' outs outs' count
      D = kept T.accepted own state_pile state_sized

      inside : t < length notes
      inside = omega (arith, state_named.inside, T.made.states_are)

      top_here : D.top ≡ (stored_to kind es (suc i)).place s
      top_here = D.chain.top_is ∙ rw (next_is, store_here M e s, head_is, Q.count)

      next_rows : outs' ≡ sets outs₀ 0 (out_rows values (stored_to kind es (suc i)).outs)
      next_rows =
          let new : List Out = piled own (length e.outs) (place_at e (link M s)) in
          let at : 0 + length (out_rows values e.outs) ≡ length e.outs = omega (arith, length-map e.outs (out_row values)) in
          D.chain.rows
          ∙ rw (next_outs, rows_append values e.outs new, head_is, Q.count, Q.rows)
          (sym (sets_append outs₀ 0 (out_rows values e.outs) (out_rows values new)
          ∙ ap (λ (n : ℕ). sets (sets outs₀ 0 (out_rows values e.outs)) n (out_rows values new)) at))

      -- a state of which it is known that it was taken is this one or was taken before
      taken_before : (w : List ℕ) → (w ≡ s → ⊥) → Memᴰ w ([] ∷ take (suc i) (ordered es)) → Memᴰ w ([] ∷ take i (ordered es))
      taken_before w n m =
          ⊎_elim (λ q. Memᴰ.head q)
          (λ k. ⊎_elim (λ j. Memᴰ.tail j) (λ j. absurd (n (Memᴰ.eq_of_singleton j)))
          (Memᴰ.append_cases (take i (ordered es)) (rw (take-suc (ordered es) i [] h) at k)))
          (Memᴰ.cases_cons m)

      next_place : (k : ℕ) (w : List ℕ) → Named ns k w → Memᴰ w ([] ∷ take (suc i) (ordered es))
          → field (with_place notes t D.top) k 2 ≡ (stored_to kind es (suc i)).place w
      next_place k w N m =
          elim (ℕ_discrete k t) [
            | yes q ↦
                let same : w ≡ s = sym N.is ∙ ap (λ (j : ℕ). get_or ns j []) q ∙ state_named.is in
                rw (q, same) (place_here notes t D.top inside ∙ top_here)
            | no q ↦
                let differs : w ≡ s → ⊥ = λ z. q (same_number k t s (rw z at N) state_named) in
                rw (next_is, store_other M e s w differs) (place_other notes t D.top k q ∙ Q.place k w N (taken_before w differs m))
          ]

      pub storing_more : Storing kind es values notes₀ outs₀ (suc i) notes' outs' count
      storing_more =
          record {
            count = D.chain.count_is ∙ sym next_count;
            rows = next_rows;
            place = rw D.noted next_place;
            dead = rw D.noted (place_other notes t D.top 1 (λ q. state_named.apart (sym q)) ∙ Q.dead);
            kept = λ k f b n. rw D.noted (place_kept notes t D.top inside f b n k ∙ Q.kept k f b n);
          }

  -- ---- all states

  pub storing_all : {outs₀ notes outs : List (List ℕ)} {i stored : ℕ} → slots ≡ length outs₀ → i ≡ length (ordered es)
      → Storing kind es values notes₀ outs₀ i notes outs stored → Placed kind es values notes₀ notes outs₀ outs stored
  storing_all {outs₀} {notes} {outs} {i} {stored} same ended Q =
      record {
        count_is = Q.count ∙ rw whole counted;
        rows = Q.rows ∙ rw whole laid;
        place = λ k h z.
            Q.place k (get_or ns k []) (record { inside = h; apart = z; is = refl })
            (Memᴰ.tail (rw whole (in_order es T.within T.made.trie k h z)))
            ∙ rw whole;
        dead = Q.dead;
        kept = Q.kept;
      }
    where
      whole : take i (ordered es) ≡ ordered es
      whole = rw ended (take-length (ordered es))

      counted : length (all_stored kind es).outs ≡ length es
      counted = stored_count kind es (ordered es) (listing es T.within)

      all : List (List ℕ)
      all = out_rows values (all_stored kind es).outs

      laid : sets outs₀ 0 all ≡ all ++ drop (length es) outs₀
      laid =
          let size : 0 + length all ≡ length es = omega (arith, length-map (all_stored kind es).outs (out_row values), counted) in
          sets-eq all outs₀ 0 (omega (arith, T.out_room, T.made.count_is)) ∙ ap (λ (n : ℕ). all ++ drop n outs₀) size
