-- The walk over the children of the state whose turn it is: what the two loops over children and the hunt inside need of each other.
use mathlib.Core.Path.{◌≡◌, refl, sym, ap, ◌∙◌, subst}
use mathlib.Core.Bool.{true, false}
use mathlib.Core.List.Memᴰ
use mathlib.Core.List.{List, [], ◌∷◌, Memᴰ}
use Prim.Native.Nat.{ℕ, suc, ◌+◌, ◌≤◌, ◌<◌}
use native.Mathlib.Omega.{arith}
use lib.ListN.{length, get_or, take}
use lib.Seq.{take-suc}
use Rattle.paper.specs.Lists.{snoc}
use Rattle.paper.specs.Patterns.{Entry, Kind}
use Rattle.paper.specs.Automaton.{machine, is_state, Link, link}
use Rattle.paper.proofs.Links.{ruled, hunts, child_rule}
use Rattle.zeros.specs.Rows.{field}
use Rattle.list.specs.Limits.{alphabet, most_bytes}
use Rattle.plan.specs.Names.{names}
use Rattle.plan.proofs.Names.{index}
use Rattle.plan.proofs.Lists.{get_member}
use Rattle.plan.proofs.Breadth.{breadth_listing, breadth_fits, listing_before}
use Rattle.trie.specs.Trie.{slots_of}
use Rattle.trie.proofs.Seeking.{least_inside, least_kid}
use Rattle.trie.proofs.Making.{names_cover}
use Rattle.links.specs.Notes.{Notes, notes_of}
use Rattle.links.specs.Linked.{Named, Leads, Step, ordered}
use Rattle.links.specs.Queue.{Queued, Ready, Poised, Noted, Tops}
use Rattle.links.proofs.States.{numbered, root_named, named_root}
use Rattle.links.proofs.Queue.{Linking, take_more, in_order, linking_open, linking_more, linking_close, end_inside, next_state}
use Rattle.links.proofs.Hunting.{Hunting, hunting, At, is_dead_lem, not_dead, found_child, found_root, hunt_on, chain_left}
use Rattle.links.proofs.Turning.{bounded, laws}

-- the links of all states shorter than n are noted
abbrev pub Chained : (kind : Kind) (es : List Entry) → Notes → ℕ → Type 0
Chained kind es N n = (k : ℕ) → k < length (names alphabet es) → (k ≡ 1 → ⊥) → length (get_or (names alphabet es) k []) < n
    → Leads (names alphabet es) (link (machine kind es) (get_or (names alphabet es) k [])) (N.link k)

-- the hunt of one build, over the state whose trie stands
abbrev pub HuntIn : (kind : Kind) (es : List Entry) (rows : List (List ℕ)) (room : ℕ) → Ready kind es rows room → ℕ → ℕ → Link → ℕ → Type 0
HuntIn kind es rows room R n c from f = Hunting kind es (slots_of rows) R.trie (bounded R) (laws R) n c from f

-- the order is no longer than the list of names
pub order_fits : {kind : Kind} {es : List Entry} {rows : List (List ℕ)} {room : ℕ} → Ready kind es rows room → length (ordered es) ≤ length (names alphabet es)
order_fits {kind} {es} R =
    breadth_fits alphabet most_bytes (is_state es) (bounded R) (names alphabet es)
    (λ w q. let i = index (names alphabet es) w (names_cover alphabet es w q) in
    subst (λ (v : List ℕ). Memᴰ v (names alphabet es)) i.is (get_member (names alphabet es) i.at [] i.inside))

module _ {kind : Kind} {es : List Entry} {trie notes : List (List ℕ)} {s h tail : ℕ} (P : Poised kind es trie notes s h tail) where
  abbrev R : Ready kind es trie (length notes)
  R = P.turn.ready

  abbrev ns : List (List ℕ)
  ns = names alphabet es

  abbrev u : List ℕ
  u = get_or (ordered es) h []

  inside : h < length (ordered es)
  inside = in_order kind es (slots_of trie) P.turn.ready.trie (bounded P.turn.ready) (notes_of notes) h tail P.turn.queued P.turn.here

  -- at the first child
  pub opened : Linking kind es (notes_of notes) h 0 ((slots_of trie).first s) tail
  opened =
      linking_open kind es (slots_of trie) P.turn.ready.trie (bounded P.turn.ready) (notes_of notes) h tail s P.turn.queued P.turn.here P.turn.named P.final

  module _ {N : Notes} {lo t end : ℕ} (A : Linking kind es N h lo t end) where
    -- the queue reaches past the state whose turn it is
    ahead : h < end
    ahead = omega (arith, P.turn.here, P.turn.queued.count, A.count)

    -- no child is left
    pub closed : t ≡ 0 → Queued kind es N (suc h) end
    closed z = linking_close kind es (slots_of trie) P.turn.ready.trie (bounded P.turn.ready) N h lo t end A inside z

    -- the states shorter than this one have their links
    pub chained : Chained kind es N (length u)
    chained k b z l =
        A.final k b z
        (take_more h (suc h) (ordered es) (omega arith)
        (listing_before (is_state es) (ordered es) (breadth_listing alphabet most_bytes (is_state es) (bounded R)) h (get_or ns k []) inside
        (numbered es (slots_of trie) R.trie (bounded R) k b z) l))

    module _ (nz : t ≡ 0 → ⊥) where
      pub in_trie : t < length trie
      in_trie = omega (arith, least_inside P.turn.ready.trie A.least nz, P.turn.ready.trie_room)

      pub in_notes : t < length notes
      in_notes = omega (arith, least_inside P.turn.ready.trie A.least nz, P.turn.ready.notes_room)

      pub room_left : end < length notes
      room_left = omega (arith, end_inside kind es (slots_of trie) R.trie (bounded R) N h lo t end A inside nz, order_fits R, R.notes_room)

      pub label_small : (slots_of trie).label t < alphabet
      label_small = (least_kid P.turn.ready.trie A.least nz).byte

      -- the child is noted
      pub more : (O : Notes) (v : ℕ) → Noted N O t v end
          → ((machine kind es).stops (snoc u ((slots_of trie).label t)) ≡ false
          → Leads ns (link (machine kind es) (snoc u ((slots_of trie).label t))) v)
          → Linking kind es O h (suc ((slots_of trie).label t)) ((slots_of trie).sibling t) (end + 1)
      more O v W good =
          let e : end + 1 ≡ suc end = omega arith in
          rw e (linking_more kind es (slots_of trie) P.turn.ready.trie (bounded P.turn.ready) N h lo t end A inside nz O v ahead W.link_new W.link_old W.order_new W.order_old good)

      state : is_state es (snoc u ((slots_of trie).label t)) ≡ true
      state = next_state kind es (slots_of trie) P.turn.ready.trie (bounded P.turn.ready) N h lo t end A inside nz

      -- root's children link to root
      pub top_link : s ≡ 0 → (machine kind es).stops (snoc u ((slots_of trie).label t)) ≡ false
          → Leads ns (link (machine kind es) (snoc u ((slots_of trie).label t))) 0
      top_link e z =
          let root : u ≡ [] = sym P.turn.named.is ∙ ap (λ (k : ℕ). get_or ns k []) e ∙ R.trie.root in
          let q : is_state es ((slots_of trie).label t ∷ []) ≡ true = rw root at state in
          let y : (machine kind es).stops ((slots_of trie).label t ∷ []) ≡ false = rw root at z in
          rw (root, (ruled (machine kind es) (laws R)).top ((slots_of trie).label t) q y) (root_named es (slots_of trie) R.trie (bounded R))

      -- the others' children link to where the hunt ends
      pub child_link : (s ≡ 0 → ⊥) → (v : ℕ) → Leads ns (hunts (machine kind es) (link (machine kind es) u) ((slots_of trie).label t)) v
          → (machine kind es).stops (snoc u ((slots_of trie).label t)) ≡ false
          → Leads ns (link (machine kind es) (snoc u ((slots_of trie).label t))) v
      child_link inner v = go u refl P.turn.named state
        where
          go : (w : List ℕ) → w ≡ u → Named ns s w → is_state es (snoc w ((slots_of trie).label t)) ≡ true
              → Leads ns (hunts (machine kind es) (link (machine kind es) w) ((slots_of trie).label t)) v
              → (machine kind es).stops (snoc w ((slots_of trie).label t)) ≡ false
              → Leads ns (link (machine kind es) (snoc w ((slots_of trie).label t))) v
          go [] e d q f z = absurd (inner (named_root es (slots_of trie) R.trie (bounded R) d))
          go (x ∷ xs) e d q f z = rw (child_rule (machine kind es) (laws R) x xs ((slots_of trie).label t) q z) f

  -- the hunt begins at the state's link
  pub hunt_from : (s ≡ 0 → ⊥) → (c : ℕ) → HuntIn kind es trie (length notes) P.turn.ready (length u) c (link (machine kind es) u) (field notes s 1)
  hunt_from inner c = go u P.turn.named
      (subst (λ (w : List ℕ). Leads ns (link (machine kind es) w) (field notes s 1)) P.turn.named.is
      (P.final s P.turn.named.inside P.turn.named.apart
      (rw (P.turn.named.is, take-suc (ordered es) h [] inside) (Memᴰ.append_right (take h (ordered es)) (Memᴰ.head refl)))))
    where
      go : (w : List ℕ) → Named ns s w → Leads ns (link (machine kind es) w) (field notes s 1)
          → HuntIn kind es trie (length notes) P.turn.ready (length w) c (link (machine kind es) w) (field notes s 1)
      go [] d q = absurd (inner (named_root es (slots_of trie) R.trie (bounded R) d))
      go (x ∷ xs) d q = hunting kind es (slots_of trie) R.trie (bounded R) (laws R) x xs c (field notes s 1) q

-- one turn of the hunt, and its three ends
module _ {kind : Kind} {es : List Entry} {rows : List (List ℕ)} {room : ℕ} (R : Ready kind es rows room) {n c f : ℕ} {from : Link}
    (H : HuntIn kind es rows room R n c from f) where
  abbrev hns : List (List ℕ)
  hns = names alphabet es

  pub at_dead : f ≡ 1 → Leads hns (hunts (machine kind es) from c) 1
  at_dead e = rw (is_dead_lem kind es (slots_of rows) R.trie (bounded R) (laws R) H e) refl

  module _ (nd : f ≡ 1 → ⊥) where
    here : At kind es (slots_of rows) R.trie (bounded R) (laws R) n c from f
    here = not_dead kind es (slots_of rows) R.trie (bounded R) (laws R) H nd

    pub chain_inside : f < length hns
    chain_inside = here.named.inside

    module _ (small : c < alphabet) (g : ℕ) (T : Step alphabet hns (get_or hns f []) c g) where
      pub at_child : (g ≡ 0 → ⊥) → Leads hns (hunts (machine kind es) from c) g
      at_child nz = found_child kind es (slots_of rows) R.trie (bounded R) (laws R) here small g T nz

      pub at_root_lem : g ≡ 0 → f ≡ 0 → Leads hns (hunts (machine kind es) from c) 0
      at_root_lem z e = found_root kind es (slots_of rows) R.trie (bounded R) (laws R) here small g T z e

      pub onward : (N : Notes) (m : ℕ) → g ≡ 0 → (f ≡ 0 → ⊥) → Chained kind es N n → m ≡ N.link f
          → HuntIn kind es rows room R n c from m × (chain_left (slots_of rows) m < chain_left (slots_of rows) f)
      onward N m z nz C e =
          hunt_on kind es (slots_of rows) R.trie (bounded R) (laws R) here small g T m z nz
          (rw e (C f here.named.inside here.named.apart (omega (arith, ap length here.named.is, here.shorter))))

-- what a call of the walk is about: the state, its link and its first child
pub record Setting (kind : Kind) (es : List Entry) (trie notes : List (List ℕ)) (tops : List ℕ) (s h tail above t : ℕ) : Type 0 where
  pub poised : Poised kind es trie notes s h tail
  pub tops_are : Tops (names alphabet es) tops
  pub inner : s ≡ 0 → ⊥
  pub above_is : above ≡ field notes s 1
  pub first_is : t ≡ (slots_of trie).first s

pub setting_hunt : {kind : Kind} {es : List Entry} {trie notes : List (List ℕ)} {tops : List ℕ} {s h tail above t : ℕ} (G : Setting kind es trie notes tops s h tail above t)
    (c : ℕ) → HuntIn kind es trie (length notes) G.poised.turn.ready (length (get_or (ordered es) h [])) c (link (machine kind es) (get_or (ordered es) h [])) above
setting_hunt G c = rw G.above_is (hunt_from G.poised G.inner c)
