-- The queue of the breadth-first order, and the links of what it holds: at place h of the order the states before it have their links, and
-- the children of those, which stand in the queue, have theirs but for own outputs.
use mathlib.Core.Path.{◌≡◌, refl, sym, ap, ap₂, ◌∙◌, subst}
use mathlib.Core.Bool.{Bool, true, false}
use mathlib.Core.List.Memᴰ
use mathlib.Core.List.{List, [], ◌∷◌, ◌++◌, append-nil, append_assoc, Memᴰ}
use mathlib.Core.Logic.{⊎_elim}
use Prim.Native.Nat.{ℕ, suc, ◌+◌, ◌≤◌, ◌<◌}
use native.Mathlib.Decide.{ℕ_discrete}
use native.Mathlib.Omega.{arith}
use lib.ListN.{length, get_or, take, drop, length-append, take-append-drop}
use lib.Seq.{get_or-append_seam, get_or-take, take-take, take-suc, take_all}
use Rattle.paper.specs.Lists.{snoc}
use Rattle.paper.specs.Patterns.{Entry, Kind}
use Rattle.paper.specs.Automaton.{is_state, link}
use Rattle.paper.proofs.Tests.{clash}
use Rattle.paper.proofs.Links.{Lawful, ruled}
use Rattle.list.specs.Limits.{alphabet, most_bytes}
use Rattle.plan.specs.Names.{names}
use Rattle.plan.specs.Breadth.{kids, below, Bounded, Apart}
use Rattle.plan.proofs.Breadth.{breadth_below, breadth_exact, breadth_once, below_take_suc, begun_is, begun_length, begun_ends}
use Rattle.plan.proofs.Lists.{get_member, sorted_take}
use Rattle.trie.specs.Trie.{Slots, Kid, Least, Trie}
use Rattle.trie.proofs.Walks.{agree}
use Rattle.trie.proofs.Seeking.{least_label, least_kid, least_next}
use Rattle.links.specs.Notes.{Notes}
use Rattle.links.specs.Linked.{Named, Leads, ordered, Linked}
use Rattle.links.specs.Queue.{ns, M, B, queued_before, Final, Hunted, Ordered, Queued}
use Rattle.trie.proofs.Kids.{kids_from, kids_all, kids_none, kids_some}
use Rattle.links.proofs.States.{numbered, kid_state, kid_named, named_once, root_named, named_root}

module _ (kind : Kind) (es : List Entry) where
  -- while the children of the state at h are put into the queue: those in `done` are, the next is t with a byte from lo on
  pub record Linking (N : Notes) (h lo t end : ℕ) : Type 0 where
    pub least : Least alphabet (ns kind es) (get_or (B kind es) h []) lo t
    pub done : List (List ℕ)
    pub split : kids alphabet (is_state es) (get_or (B kind es) h []) ≡ done ++ kids_from alphabet (is_state es) (get_or (B kind es) h []) lo
    pub count : end ≡ length (queued_before kind es h) + length done
    pub order : Ordered kind es N end
    pub final : Final kind es N (take (suc h) (B kind es))
    pub hunted : Hunted kind es N (queued_before kind es h ++ done)

-- what is among the first is among more of the first
pub take_more : {A : Type 0} {x : A} (h i : ℕ) (l : List A) → h ≤ i → Memᴰ x (take h l) → Memᴰ x (take i l)
take_more {A} {x} h i l le m =
    subst (λ (k : List A). Memᴰ x k) (take-append-drop h (take i l))
    (Memᴰ.append_left (drop h (take i l)) (subst (λ (k : List A). Memᴰ x k) (sym (take-take h i l le)) m))

module _ (kind : Kind) (es : List Entry) (K : Slots) (I : Trie alphabet K (names alphabet es)) (L : Bounded alphabet most_bytes (is_state es)) where
  S : List ℕ → Bool
  S = is_state es

  -- ---- places of the order

  -- what has been put into the queue is no more than the order
  pub begun_fits : (h : ℕ) → length (queued_before kind es h) ≤ length (B kind es)
  begun_fits h = begun_length alphabet most_bytes (is_state es) L h

  -- the queue is the first part of the order
  at_begun : (h i : ℕ) → i < length (queued_before kind es h) → get_or (B kind es) i [] ≡ get_or (queued_before kind es h) i []
  at_begun h i l =
      sym (get_or-take (length (queued_before kind es h)) (B kind es) i [] l) ∙ ap (λ (x : List (List ℕ)). get_or x i []) (sym (begun_is alphabet most_bytes (is_state es) L h))

  pub begun_next : (h : ℕ) → h < length (B kind es) → queued_before kind es (suc h) ≡ queued_before kind es h ++ kids alphabet (is_state es) (get_or (B kind es) h [])
  begun_next h l = ap (λ (x : List (List ℕ)). [] ∷ x) (below_take_suc alphabet (is_state es) (B kind es) h l)

  -- the child after `done` stands right behind them
  next_place : (h : ℕ) (done rest : List (List ℕ)) (w : List ℕ) → h < length (B kind es) → kids alphabet (is_state es) (get_or (B kind es) h []) ≡ done ++ (w ∷ rest)
      → (length (queued_before kind es h) + length done < length (B kind es)) × (get_or (B kind es) (length (queued_before kind es h) + length done) [] ≡ w)
  next_place h done rest w l e =
      let all : queued_before kind es (suc h) ≡ queued_before kind es h ++ done ++ (w ∷ rest)
      = begun_next h l ∙ ap (λ (x : List (List ℕ)). queued_before kind es h ++ x) e ∙ sym (append_assoc (queued_before kind es h) done (w ∷ rest)) in
      let n : length (queued_before kind es h ++ done) ≡ length (queued_before kind es h) + length done = length-append (queued_before kind es h) done in
      let inside : length (queued_before kind es h) + length done < length (queued_before kind es (suc h))
      = omega (arith, ap length all, length-append (queued_before kind es h ++ done) (w ∷ rest), n) in (
        omega (arith, inside, begun_fits (suc h)),
        at_begun (suc h) (length (queued_before kind es h) + length done) inside
            ∙ ap₂ (λ (x : List (List ℕ)) (i : ℕ). get_or x i []) all (sym n)
            ∙ get_or-append_seam (queued_before kind es h ++ done) w rest [],
      )

  -- what stands at a later place is not among the first
  pub later_not : (h i : ℕ) → h ≤ i → i < length (B kind es) → Memᴰ (get_or (B kind es) i []) (take h (B kind es)) → ⊥
  later_not h i l b m =
      sorted_take Apart (B kind es) (breadth_once alphabet most_bytes (is_state es) L) i [] (get_or (B kind es) i []) b (take_more h i (B kind es) l m) refl

  -- ---- the loop over the children

  -- the state at h is one of the order
  pub in_order : (N : Notes) (h tail : ℕ) → Queued kind es N h tail → h < tail → h < length (B kind es)
  in_order N h tail Q l = omega (arith, Q.count, begun_fits h)

  -- its number and its first child, with its own link noted
  pub linking_open : (N : Notes) (h tail s : ℕ) → Queued kind es N h tail → h < tail → Named (ns kind es) s (get_or (B kind es) h [])
      → Final kind es N (take (suc h) (B kind es)) → Linking kind es N h 0 (K.first s) tail
  linking_open N h tail s Q l named final =
      record {
        least = subst (λ (w : List ℕ). Least alphabet (ns kind es) w 0 (K.first s)) named.is (I.child s named.inside);
        done = [];
        split = kids_all alphabet (is_state es) (get_or (B kind es) h []);
        count = omega (arith, Q.count);
        order = Q.order;
        final = final;
        hunted = subst (λ (x : List (List ℕ)). Hunted kind es N x) (sym (append-nil (queued_before kind es h))) Q.hunted;
      }

  module _ (N : Notes) (h lo t end : ℕ) (A : Linking kind es N h lo t end) (l : h < length (B kind es)) where
    abbrev u : List ℕ
    u = get_or (ordered es) h []

    abbrev rest_from : ℕ → List (List ℕ)
    rest_from c = kids_from alphabet (is_state es) u (suc c)

    module _ (nz : t ≡ 0 → ⊥) where
      abbrev c : ℕ
      c = K.label t

      kid : Kid alphabet (ns kind es) u (K.label t) t
      kid = least_kid I A.least nz

      pub next_state : is_state es (snoc u (K.label t)) ≡ true
      next_state = kid_state es K I L kid

      pub next_named : Named (ns kind es) t (snoc u (K.label t))
      next_named = kid_named es K I L kid

      split_more : kids alphabet (is_state es) u ≡ A.done ++ (snoc u (K.label t) ∷ rest_from (K.label t))
      split_more =
          let e = least_label I A.least nz in
          let here : is_state es (snoc u A.least.stop) ≡ true = rw (← e) next_state in
          A.split ∙ ap (λ (x : List (List ℕ)). A.done ++ x)
          (kids_some alphabet (is_state es) (ns kind es) (agree es) A.least nz here ∙ rw e)

      there : (end < length (B kind es)) × (get_or (B kind es) end [] ≡ snoc u (K.label t))
      there =
          let p = next_place h A.done (rest_from (K.label t)) (snoc u (K.label t)) l split_more in
          (omega (arith, A.count, p.0), ap (λ (i : ℕ). get_or (B kind es) i []) A.count ∙ p.1)

      -- there is a row for it
      pub end_inside : end < length (B kind es)
      end_inside = there.0

      -- the notes with the child's link and its place in the queue
      pub linking_more : (O : Notes) (v : ℕ) → h < end → O.link t ≡ v → ((k : ℕ) → (k ≡ t → ⊥) → O.link k ≡ N.link k)
          → O.order end ≡ t → ((i : ℕ) → (i ≡ end → ⊥) → O.order i ≡ N.order i)
          → ((M kind es).stops (snoc u (K.label t)) ≡ false → Leads (ns kind es) (link (M kind es) (snoc u (K.label t))) v)
          → Linking kind es O h (suc (K.label t)) (K.sibling t) (suc end)
      linking_more O v queued link_new link_old order_new order_old good =
          record {
            least = least_next I A.least nz;
            done = A.done ++ (snoc u (K.label t) ∷ []);
            split = split_more ∙ sym (append_assoc A.done (snoc u (K.label t) ∷ []) (rest_from (K.label t)));
            count = omega (arith, A.count, length-append A.done (snoc u (K.label t) ∷ []));
            order = order;
            final = final;
            hunted = hunted;
          }
        where
          order : Ordered kind es O (suc end)
          order i b =
              elim (ℕ_discrete i end) [
                | yes e ↦ rw (e, order_new, there.1) next_named
                | no e ↦ rw (order_old i e) (A.order i (omega arith))
              ]

          -- the new child stands after what is final
          final : Final kind es O (take (suc h) (B kind es))
          final k b z m =
              elim (ℕ_discrete k t) [
                | yes e ↦ absurd (later_not (suc h) end queued there.0
                    (subst (λ (w : List ℕ). Memᴰ w (take (suc h) (B kind es))) (ap (λ (j : ℕ). get_or (ns kind es) j []) e ∙ next_named.is ∙ sym there.1) m))
                | no e ↦ rw (link_old k e) (A.final k b z m)
              ]

          hunted : Hunted kind es O (queued_before kind es h ++ (A.done ++ (snoc u (K.label t) ∷ [])))
          hunted k b z m q =
              elim (ℕ_discrete k t) [
                | yes e ↦
                    let name : get_or (ns kind es) k [] ≡ snoc u (K.label t) = ap (λ (j : ℕ). get_or (ns kind es) j []) e ∙ next_named.is in
                    rw (name, e, link_new) (good (rw name at q))
                | no e ↦
                    rw (link_old k e)
                    (⊎_elim (λ i. A.hunted k b z i q)
                    (λ i. absurd (⊎_elim (λ f. e (named_once es K I L (record { inside = b; apart = z; is = f }) next_named)) (λ j. Memᴰ.not-nil j) (Memᴰ.cases_cons i)))
                    (Memᴰ.append_cases (queued_before kind es h ++ A.done)
                    (subst (λ (x : List (List ℕ)). Memᴰ (get_or (ns kind es) k []) x) (sym (append_assoc (queued_before kind es h) A.done (snoc u (K.label t) ∷ []))) m)))
              ]

    -- no child is left
    pub linking_close : t ≡ 0 → Queued kind es N (suc h) end
    linking_close z =
        let none = kids_none alphabet (is_state es) (ns kind es) (agree es) A.least z in
        let all : queued_before kind es (suc h) ≡ queued_before kind es h ++ A.done
        = begun_next h l ∙ ap (λ (x : List (List ℕ)). queued_before kind es h ++ x) (A.split ∙ rw none (append-nil A.done)) in
        record {
          count = omega (arith, A.count, ap length all, length-append (queued_before kind es h) A.done);
          order = A.order;
          final = A.final;
          hunted = subst (λ (x : List (List ℕ)). Hunted kind es N x) (sym all) A.hunted;
        }

  -- ---- a state that stops, before its children

  take_next : (h : ℕ) → h < length (B kind es) → take (suc h) (B kind es) ≡ take h (B kind es) ++ (get_or (B kind es) h [] ∷ [])
  take_next h l = take-suc (B kind es) h [] l

  -- the state at h and those before it
  pub final_next : (N : Notes) (h s : ℕ) → h < length (B kind es) → Named (ns kind es) s (get_or (B kind es) h []) → Final kind es N (take h (B kind es))
      → Leads (ns kind es) (link (M kind es) (get_or (B kind es) h [])) (N.link s) → Final kind es N (take (suc h) (B kind es))
  final_next N h s l named old new k b z m =
      ⊎_elim (λ i. old k b z i)
      (λ i. let name : get_or (ns kind es) k [] ≡ get_or (B kind es) h []
      = ⊎_elim (λ e. e) (λ j. absurd (Memᴰ.not-nil j)) (Memᴰ.cases_cons i) in
      let same : k ≡ s = named_once es K I L (record { inside = b; apart = z; is = name }) named in
      rw (name, same) new)
      (Memᴰ.append_cases (take h (B kind es)) (subst (λ (x : List (List ℕ)). Memᴰ (get_or (ns kind es) k []) x) (take_next h l) m))

  module _ (A : Lawful (M kind es)) (N : Notes) (h tail s : ℕ) (Q : Queued kind es N h tail) (l : h < tail) (named : Named (ns kind es) s (get_or (B kind es) h [])) where
    inside : h < length (B kind es)
    inside = in_order N h tail Q l

    -- the state at h is in the queue
    queued : Memᴰ (get_or (ns kind es) s []) (queued_before kind es h)
    queued =
        subst (λ (w : List ℕ). Memᴰ w (queued_before kind es h)) (sym (at_begun h h (omega (arith, Q.count))) ∙ sym named.is)
        (get_member (queued_before kind es h) h [] (omega (arith, Q.count)))

    pub stop_not : (M kind es).stops (get_or (B kind es) h []) ≡ false → Final kind es N (take (suc h) (B kind es))
    stop_not z =
        final_next N h s inside named Q.final
        (subst (λ (w : List ℕ). Leads (ns kind es) (link (M kind es) w) (N.link s)) named.is
        (Q.hunted s named.inside named.apart queued (rw named.is z)))

    module _ (O : Notes) (link_new : O.link s ≡ 1) (link_old : (k : ℕ) → (k ≡ s → ⊥) → O.link k ≡ N.link k)
        (order_old : (i : ℕ) → O.order i ≡ N.order i) (stops : (M kind es).stops (get_or (B kind es) h []) ≡ true) where
      final_before : Final kind es O (take h (B kind es))
      final_before k b z m =
          elim (ℕ_discrete k s) [
            | yes e ↦ absurd (later_not h h (omega arith) inside
                (subst (λ (w : List ℕ). Memᴰ w (take h (B kind es))) (ap (λ (j : ℕ). get_or (ns kind es) j []) e ∙ named.is) m))
            | no e ↦ rw (link_old k e) (Q.final k b z m)
          ]

      pub stop_queued : Queued kind es O h tail
      stop_queued =
          record {
            count = Q.count;
            order = λ i b. rw (order_old i) (Q.order i b);
            final = final_before;
            hunted = λ k b z m q.
                elim (ℕ_discrete k s) [
                  | yes e ↦ clash stops (rw (ap (λ (j : ℕ). get_or (ns kind es) j []) e ∙ named.is) at q)
                  | no e ↦ rw (link_old k e) (Q.hunted k b z m q)
                ];
          }

      pub stop_final : Final kind es O (take (suc h) (B kind es))
      stop_final =
          let state : is_state es (get_or (B kind es) h []) ≡ true
          = subst (λ (w : List ℕ). is_state es w ≡ true) named.is (numbered es K I L s named.inside named.apart) in
          final_next O h s inside named final_before (rw ((ruled (M kind es) A).stopped (get_or (B kind es) h []) state stops) link_new)

  -- ---- the beginning: root is in the queue and links to itself

  pub queued_root : (N : Notes) → Lawful (M kind es) → N.order 0 ≡ 0 → N.link 0 ≡ 0 → Queued kind es N 0 1
  unfolding below
  queued_root N A o k =
      record {
        count = refl;
        order = λ i b. let e : i ≡ 0 = omega arith in rw (e, o, first) (root_named es K I L);
        final = λ j b z m. absurd (Memᴰ.not-nil m);
        hunted = λ j b z m q.
            let name : get_or (ns kind es) j [] ≡ [] = ⊎_elim (λ e. e) (λ i. absurd (Memᴰ.not-nil i)) (Memᴰ.cases_cons m) in
            let same : j ≡ 0 = named_root es K I L (record { inside = b; apart = z; is = name }) in
            rw (name, (ruled (M kind es) A).root, same, k) (root_named es K I L);
      }
    where
      first : get_or (B kind es) 0 [] ≡ []
      first = ap (λ (x : List (List ℕ)). get_or x 0 []) (breadth_below alphabet most_bytes (is_state es) L)

  -- ---- the end

  -- the queue is empty: all is linked
  pub queued_all : (N : Notes) (h tail : ℕ) → Queued kind es N h tail → h ≡ tail → Linked kind es N
  queued_all N h tail Q e =
      let whole : h ≡ length (B kind es)
      = begun_ends alphabet most_bytes (is_state es) L h (omega (arith, Q.count, begun_fits h)) (omega (arith, Q.count)) in
      record {
        order = λ i b. Q.order i (omega arith);
        link = λ k b z. Q.final k b z
            (subst (λ (x : List (List ℕ)). Memᴰ (get_or (ns kind es) k []) x) (sym (take_all h (B kind es) (omega arith)))
            ((breadth_exact alphabet most_bytes (is_state es) L (get_or (ns kind es) k [])).1 (numbered es K I L k b z)));
      }
