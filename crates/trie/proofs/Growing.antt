-- A trie with one state more is the trie of the names with one name more.
use mathlib.Core.Path.{◌≡◌, refl, sym, ap, ◌∙◌}
use mathlib.Core.Bool.{false}
use mathlib.Core.List.{List, [], ◌∷◌, ◌++◌}
use Prim.Native.Nat.{ℕ, suc, ◌≤◌, ◌<◌}
use native.Mathlib.Decide.{dec_lt, ℕ_discrete}
use native.Mathlib.Omega.{arith}
use lib.ListN.{length, get_or}
use Rattle.paper.specs.Lists.{snoc}
use Rattle.paper.proofs.Tests.{test}
use Rattle.paper.proofs.Strings.{length_snoc, snoc_byte, snoc_parent}
use Rattle.plan.specs.Names.{has, Distinct}
use Rattle.plan.proofs.Names.{Index, index, more_length, more_old, more_new, more_absent, more_distinct, not_absent}
use Rattle.trie.specs.Trie.{Slots, Kid, Least, Born, Trie, Gap, Inserted}

pub nil_snoc : (u : List ℕ) (c : ℕ) → [] ≡ snoc u c → ⊥
nil_snoc u c e = omega (arith, ap (λ (l : List ℕ). length l) e, length_snoc u c)

snoc_longer : (u : List ℕ) (c : ℕ) → snoc u c ≡ u → ⊥
snoc_longer u c e = omega (arith, ap (λ (l : List ℕ). length l) e, length_snoc u c)

-- ---- what stays with one name more

module _ (a : ℕ) (names : List (List ℕ)) (w : List ℕ) where
  pub kid_more : (u : List ℕ) (c t : ℕ) → Kid a names u c t → Kid a (names ++ (w ∷ [])) u c t
  kid_more u c t k =
      record {
        above = k.above;
        inside = omega (arith, more_length names w, k.inside);
        byte = k.byte;
        named = more_old names w t k.inside ∙ k.named;
      }

  -- what does not look at the new name stays
  least_keep : (u : List ℕ) (lo t : ℕ) (l : Least a names u lo t) → ((d : ℕ) → lo ≤ d → d < l.stop → snoc u d ≡ w → ⊥)
      → Least a (names ++ (w ∷ [])) u lo t
  least_keep u lo t l n =
      record {
        stop = l.stop;
        low = l.low;
        gap = λ d h k. more_absent names w (snoc u d) (l.gap d h k) (n d h k);
        none = l.none;
        some = λ z. kid_more u l.stop t (l.some z);
      }

module _ (a : ℕ) (K : Slots) (names : List (List ℕ)) (I : Trie a K names) where
  -- a name that is absent has no child
  pub none_below : (w : List ℕ) (d : ℕ) → d < a → has names w ≡ false → has names (snoc w d) ≡ false
  none_below w d b h = test (has names (snoc w d)) (λ t. absurd (clash (index names (snoc w d) t))) (λ f. f)
    where
      clash : Index names (snoc w d) → ⊥
      clash i =
          elim (ℕ_discrete i.at 0) [
            | yes z ↦ nil_snoc w d (sym I.root ∙ ap (λ (k : ℕ). get_or names k []) (sym z) ∙ i.is)
            | no z ↦ elim (ℕ_discrete i.at 1) [
              | yes o ↦ let e : a ≡ d = snoc_byte [] w a d (sym I.dead ∙ ap (λ (k : ℕ). get_or names k []) (sym o) ∙ i.is) in omega arith
              | no o ↦ let r = I.born i.at (omega arith) i.inside in
                  not_absent names w r.parent (omega (arith, r.before, i.inside))
                  (snoc_parent (get_or names r.parent []) w r.byte d (sym r.is ∙ i.is)) h
            ]
          ]

  module _ (L : Slots) (s b d prev next : ℕ) (inside : s < length names) (apart : s ≡ 1 → ⊥) (small : b < a)
      (G : Gap a names (get_or names s []) b prev next) (D : d ≡ suc (length (get_or names s []))) (J : Inserted K L (length names) s b d prev next) where
    abbrev u : List ℕ
    u = get_or names s []

    abbrev w : List ℕ
    w = snoc (get_or names s []) b

    abbrev n : ℕ
    n = length names

    abbrev new : List (List ℕ)
    new = names ++ (snoc (get_or names s []) b ∷ [])

    -- the new child
    kid_new : Kid a new u b n
    kid_new = record { above = omega (arith, I.two); inside = omega (arith, more_length names w); byte = small; named = more_new names w }

    -- the slot that leads to the new child
    least_new : (lo : ℕ) → lo ≡ G.lo → Least a new u lo n
    least_new lo e =
        record {
          stop = b;
          low = omega (arith, G.lo_le);
          gap = λ c h k. more_absent names w (snoc u c) (G.least.gap c (omega arith) (omega (arith, G.later))) (λ q. omega (arith, snoc_byte u u c b q));
          none = λ z. absurd (omega (arith, I.two));
          some = λ z. kid_new;
        }

    -- the slot that leads on from it
    least_next : Least a new u (suc b) next
    least_next =
        record {
          stop = G.least.stop;
          low = G.later;
          gap = λ c h k. more_absent names w (snoc u c) (G.least.gap c (omega (arith, G.lo_le)) k) (λ q. omega (arith, snoc_byte u u c b q));
          none = G.least.none;
          some = λ z. kid_more a names w u G.least.stop next (G.least.some z);
        }

    -- it has no child itself
    least_leaf : Least a new w 0 0
    least_leaf =
        record {
          stop = a;
          low = omega arith;
          gap = λ c h k. more_absent names w (snoc w c) (none_below w c k G.absent) (λ q. snoc_longer w c q);
          none = λ z. refl;
          some = λ z. absurd (z refl);
        }

    -- other states' first children
    least_other : (k : ℕ) → k < n → (k ≡ s → ⊥) → Least a new (get_or names k []) 0 (K.first k)
    unfolding Distinct
    least_other k h ne =
        least_keep a names w (get_or names k []) 0 (K.first k) (I.child k h)
        (λ c l e q. ne (I.distinct k s h inside (snoc_parent (get_or names k []) u c b q)))

    -- the parent's own, where the new child is not the first
    least_parent : (prev ≡ 0 → ⊥) → Least a new u 0 (K.first s)
    least_parent nz =
        let f = G.after nz in
        let l = I.child s inside in
        least_keep a names w u 0 (K.first s) l
        (λ c h k q. let e : c ≡ b = snoc_byte u u c b q in
        not_absent names (snoc u f.byte) prev f.kid.inside f.kid.named (l.gap f.byte (omega arith) (omega (arith, f.lo_is, G.lo_le))))

    -- the slots of states that are not prev
    least_sibling : (k c : ℕ) (v : List ℕ) → k < n → c < a → get_or names k [] ≡ snoc v c → ((prev ≡ 0 → ⊥) → k ≡ prev → ⊥)
        → Least a new v (suc c) (K.sibling k)
    unfolding Distinct
    least_sibling k c v h hc e ne =
        let l = I.next k c v h hc e in
        least_keep a names w v (suc c) (K.sibling k) l
        (λ x y g q.
        let eb : x ≡ b = snoc_byte v u x b q in
        let ev : v ≡ u = snoc_parent v u x b q in
        let ek : get_or names k [] ≡ snoc u c = e ∙ ap (λ (z : List ℕ). snoc z c) ev in
        elim (dec_lt c G.lo) [
          | yes below ↦ elim (ℕ_discrete prev 0) [
            | yes z ↦ omega (arith, G.front z)
            | no z ↦ let f = G.after z in
                elim (ℕ_discrete c f.byte) [
                  | yes m ↦ ne z (I.distinct k prev h f.kid.inside (ek ∙ ap (λ (i : ℕ). snoc u i) m ∙ sym f.kid.named))
                  | no m ↦ not_absent names (snoc v f.byte) prev f.kid.inside (f.kid.named ∙ ap (λ (z : List ℕ). snoc z f.byte) (sym ev))
                      (l.gap f.byte (omega (arith, f.lo_is)) (omega (arith, f.lo_is, G.lo_le)))
                ]
          ]
          | no below ↦ not_absent names (snoc u c) k h ek (G.least.gap c (omega arith) (omega (arith, G.later)))
        ])

    -- ---- each slot afterwards

    first_at : (k : ℕ) → k < suc n → Least a new (get_or new k []) 0 (L.first k)
    first_at k h =
        elim (ℕ_discrete k n) [
          | yes e ↦ rw (e, more_new names w, J.first_new) least_leaf
          | no e ↦ let hk : k < n = omega arith in
              rw (more_old names w k hk)
              (elim (ℕ_discrete k s) [
                | yes q ↦ rw q
                    (elim (ℕ_discrete prev 0) [
                      | yes z ↦ rw (J.first_parent z) (least_new 0 (sym (G.front z)))
                      | no z ↦ rw (J.first_other s (λ x. omega arith) (λ x y. z x)) (least_parent z)
                    ])
                | no q ↦ rw (J.first_other k e (λ x y. q y)) (least_other k hk q)
              ])
        ]

    next_at : (k c : ℕ) (v : List ℕ) → k < suc n → c < a → get_or new k [] ≡ snoc v c → Least a new v (suc c) (L.sibling k)
    next_at k c v h hc e =
        elim (ℕ_discrete k n) [
          | yes q ↦
              let x : w ≡ snoc v c = sym (more_new names w) ∙ ap (λ (i : ℕ). get_or new i []) (sym q) ∙ e in
              rw (q, J.sibling_new, ← snoc_parent u v b c x, ← snoc_byte u v b c x) least_next
          | no q ↦
              let hk : k < n = omega arith in
              let ek : get_or names k [] ≡ snoc v c = sym (more_old names w k hk) ∙ e in
              elim (ℕ_discrete k prev) [
                | yes m ↦ elim (ℕ_discrete prev 0) [
                  | yes z ↦ absurd (nil_snoc v c (sym I.root ∙ ap (λ (i : ℕ). get_or names i []) (sym (m ∙ z)) ∙ ek))
                  | no z ↦
                      let f = G.after z in
                      let x : snoc u f.byte ≡ snoc v c = sym f.kid.named ∙ ap (λ (i : ℕ). get_or names i []) (sym m) ∙ ek in
                      rw (m, J.sibling_prev z, ← snoc_parent u v f.byte c x, ← snoc_byte u v f.byte c x) (least_new (suc f.byte) (sym f.lo_is))
                ]
                | no m ↦ rw (J.sibling_other k q (λ x y. m y)) (least_sibling k c v hk hc ek (λ x y. m y))
              ]
        ]

    label_at : (k c : ℕ) (v : List ℕ) → k < suc n → c < a → get_or new k [] ≡ snoc v c → L.label k ≡ c
    label_at k c v h hc e =
        elim (ℕ_discrete k n) [
          | yes q ↦
              let x : w ≡ snoc v c = sym (more_new names w) ∙ ap (λ (i : ℕ). get_or new i []) (sym q) ∙ e in
              rw (q, J.label_new) (snoc_byte u v b c x)
          | no q ↦ let hk : k < n = omega arith in rw (J.label_other k q) (I.labelled k c v hk hc (sym (more_old names w k hk) ∙ e))
        ]

    deep_at : (k : ℕ) → k < suc n → (k ≡ 1 → ⊥) → L.depth k ≡ length (get_or new k [])
    deep_at k h z =
        elim (ℕ_discrete k n) [
          | yes q ↦ rw (q, J.depth_new, more_new names w, length_snoc u b) D
          | no q ↦ let hk : k < n = omega arith in rw (J.depth_other k q, more_old names w k hk) (I.deep k hk z)
        ]

    born_at : (k : ℕ) → 1 < k → k < suc n → Born a new k
    born_at k o h =
        elim (ℕ_discrete k n) [
          | yes q ↦ record {
            parent = s;
            byte = b;
            before = omega arith;
            apart = apart;
            small = small;
            is = rw (q, more_new names w, more_old names w s inside);
          }
          | no q ↦
              let hk : k < n = omega arith in
              let r = I.born k o hk in
              record {
                parent = r.parent;
                byte = r.byte;
                before = r.before;
                apart = r.apart;
                small = r.small;
                is = rw (more_old names w k hk, more_old names w r.parent (omega (arith, r.before))) r.is;
              }
        ]

    pub grown : Trie a L new
    grown =
        record {
          two = omega (arith, more_length names w, I.two);
          root = more_old names w 0 (omega (arith, I.two)) ∙ I.root;
          dead = more_old names w 1 (omega (arith, I.two)) ∙ I.dead;
          distinct = more_distinct names w I.distinct G.absent;
          born = λ k o h. born_at k o (omega (arith, more_length names w));
          child = λ k h. first_at k (omega (arith, more_length names w));
          next = λ k c v h hc e. next_at k c v (omega (arith, more_length names w)) hc e;
          labelled = λ k c v h hc e. label_at k c v (omega (arith, more_length names w)) hc e;
          deep = λ k h z. deep_at k (omega (arith, more_length names w)) z;
        }
