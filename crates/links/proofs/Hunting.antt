-- The hunt from a state's link along the chain: the next state has the byte, or is root, or is dead; else the hunt goes on from its link.
use mathlib.Core.Path.{◌≡◌, refl, sym, ap, ◌∙◌, subst}
use mathlib.Core.Bool.{false}
use mathlib.Core.List.{List, [], ◌∷◌}
use Prim.Native.Nat.{ℕ, suc, ◌<◌}
use native.Mathlib.Omega.{arith}
use lib.Dec.{eqb}
use lib.ListN.{length, get_or}
use Rattle.paper.specs.Lists.{pick, snoc}
use Rattle.paper.specs.Patterns.{Entry, Kind}
use Rattle.paper.specs.Automaton.{machine, is_state, Link, dead, to, link}
use Rattle.std.proofs.lemmas.Bool.{ne_eqb, eq-eqb}
use Rattle.paper.proofs.Links.{Lawful, link_cases, failure_shorter, hunts, hunts_hit, hunts_root, hunts_miss}
use Rattle.list.specs.Limits.{alphabet, most_bytes}
use Rattle.plan.specs.Names.{names}
use Rattle.plan.specs.Breadth.{Bounded}
use Rattle.trie.specs.Trie.{Slots, Trie}
use Rattle.trie.proofs.Walks.{agree}
use Rattle.links.specs.Linked.{Named, Leads, Step}
use Rattle.links.proofs.States.{kid_state, kid_named, named_root, root_named}

-- what a link leads to is shorter than n
abbrev pub Short : ℕ → Link → Type 0
Short n dead = Unit {0}
Short n (to v) = length v < n

-- what is left of the chain at f, as a number that falls
abbrev pub chain_left : Slots → ℕ → ℕ
chain_left K f = pick (eqb f 1) 0 (suc (K.depth f))

module _ (kind : Kind) (es : List Entry) (K : Slots) (I : Trie alphabet K (names alphabet es)) (L : Bounded alphabet most_bytes (is_state es))
    (A : Lawful (machine kind es)) where
  -- the hunt for the byte c from the link of a state of length n is at f
  pub record Hunting (n c : ℕ) (from : Link) (f : ℕ) : Type 0 where
    pub at : Link
    pub leads : Leads (names alphabet es) at f
    pub short : Short n at
    pub same : hunts (machine kind es) at c ≡ hunts (machine kind es) from c

  link_short : (x : ℕ) (xs : List ℕ) → Short (length (x ∷ xs)) (link (machine kind es) (x ∷ xs))
  link_short x xs =
      link_cases (machine kind es) A (x ∷ xs) (λ _ e. rw e tt) (λ _ e. rw e (omega (arith, failure_shorter (machine kind es) A x xs)))

  pub hunting : (x : ℕ) (xs : List ℕ) (c f : ℕ) → Leads (names alphabet es) (link (machine kind es) (x ∷ xs)) f
      → Hunting (length (x ∷ xs)) c (link (machine kind es) (x ∷ xs)) f
  hunting x xs c f q = record { at = link (machine kind es) (x ∷ xs); leads = q; short = link_short x xs; same = refl }

  -- dead's number is no state's, and a state's is not dead's
  pub is_dead_lem : {n c f : ℕ} {from : Link} → Hunting n c from f → f ≡ 1 → hunts (machine kind es) from c ≡ dead
  is_dead_lem {n} {c} {f} {from} H e = go H.at H.leads H.same
    where
      go : (l : Link) → Leads (names alphabet es) l f → hunts (machine kind es) l c ≡ hunts (machine kind es) from c → hunts (machine kind es) from c ≡ dead
      go dead q s = sym s
      go (to v) q s = absurd (q.apart e)

  -- at a state of the chain
  pub record At (n c : ℕ) (from : Link) (f : ℕ) : Type 0 where
    pub string : List ℕ
    pub named : Named (names alphabet es) f string
    pub shorter : length string < n
    pub same : hunts (machine kind es) (to string) c ≡ hunts (machine kind es) from c

  pub not_dead : {n c f : ℕ} {from : Link} → Hunting n c from f → (f ≡ 1 → ⊥) → At n c from f
  not_dead {n} {c} {f} {from} H z = go H.at H.leads H.short H.same
    where
      go : (l : Link) → Leads (names alphabet es) l f → Short n l → hunts (machine kind es) l c ≡ hunts (machine kind es) from c → At n c from f
      go dead q s e = absurd (z q)
      go (to v) q s e = record { string = v; named = q; shorter = s; same = e }

  module _ {n c f : ℕ} {from : Link} (P : At n c from f) (small : c < alphabet) (g : ℕ)
      (T : Step alphabet (names alphabet es) (get_or (names alphabet es) f []) c g) where
    step_here : Step alphabet (names alphabet es) P.string c g
    step_here = subst (λ (w : List ℕ). Step alphabet (names alphabet es) w c g) P.named.is T

    absent : g ≡ 0 → is_state es (snoc P.string c) ≡ false
    absent z = sym (agree es P.string c small) ∙ step_here.none z

    -- it has the byte
    pub found_child : (g ≡ 0 → ⊥) → Leads (names alphabet es) (hunts (machine kind es) from c) g
    found_child nz =
        let k = step_here.some nz in
        rw (← (sym (hunts_hit (machine kind es) A P.string c (kid_state es K I L k)) ∙ P.same)) (kid_named es K I L k)

    -- it is root and has not
    pub found_root : g ≡ 0 → f ≡ 0 → Leads (names alphabet es) (hunts (machine kind es) from c) 0
    found_root z e =
        let root : P.string ≡ [] = sym P.named.is ∙ ap (λ (k : ℕ). get_or (names alphabet es) k []) e ∙ I.root in
        let none : is_state es (c ∷ []) ≡ false = subst (λ (w : List ℕ). is_state es (snoc w c) ≡ false) root (absent z) in
        let at : hunts (machine kind es) (to []) c ≡ hunts (machine kind es) from c = subst (λ (w : List ℕ). hunts (machine kind es) (to w) c ≡ hunts (machine kind es) from c) root P.same in
        rw (← (sym (hunts_root (machine kind es) A c none) ∙ at)) (root_named es K I L)

    -- else the hunt goes on from its link
    pub hunt_on : (m : ℕ) → g ≡ 0 → (f ≡ 0 → ⊥) → Leads (names alphabet es) (link (machine kind es) (get_or (names alphabet es) f [])) m
        → Hunting n c from m × (chain_left K m < chain_left K f)
    hunt_on m z nz q = go P.string refl
      where
        go : (v : List ℕ) → P.string ≡ v → Hunting n c from m × (chain_left K m < chain_left K f)
        go [] e = absurd (nz (named_root es K I L (subst (λ (w : List ℕ). Named (names alphabet es) f w) e P.named)))
        go (x ∷ xs) e =
            let name : get_or (names alphabet es) f [] ≡ x ∷ xs = P.named.is ∙ e in
            let miss : is_state es (snoc (x ∷ xs) c) ≡ false = rw e at (absent z) in
            let leads : Leads (names alphabet es) (link (machine kind es) (x ∷ xs)) m = rw name at q in (
              record {
                at = link (machine kind es) (x ∷ xs);
                leads = leads;
                short = shorten (link (machine kind es) (x ∷ xs)) (link_short x xs) (rw e at P.shorter);
                same = sym (hunts_miss (machine kind es) A x xs c miss) ∙ rw (← e) P.same;
              },
              falls (link (machine kind es) (x ∷ xs)) leads (link_short x xs) name,
            )
          where
            shorten : (l : Link) → Short (length (x ∷ xs)) l → length (x ∷ xs) < n → Short n l
            shorten dead s h = tt
            shorten (to v) s h = omega arith

            falls : (l : Link) → Leads (names alphabet es) l m → Short (length (x ∷ xs)) l → get_or (names alphabet es) f [] ≡ x ∷ xs → chain_left K m < chain_left K f
            falls dead p s name = rw (eq-eqb m 1 p, ne_eqb f 1 P.named.apart) (omega arith)
            falls (to v) p s name =
                rw (ne_eqb m 1 p.apart, ne_eqb f 1 P.named.apart)
                (omega (arith, I.deep m p.inside p.apart, I.deep f P.named.inside P.named.apart, ap length p.is, ap length name))
