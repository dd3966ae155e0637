-- What the tables say of a placed state is what the layout says: its cell, its base, the cell it links to, its outputs, byte and depth.
use mathlib.Core.Path.{◌≡◌, refl, sym, ap, ◌∙◌, subst}
use mathlib.Core.Bool.{true}
use mathlib.Core.List.{List, []}
use Prim.Native.Nat.{ℕ, ◌*◌, ◌<◌}
use native.Mathlib.Decide.{ℕ_discrete}
use native.Mathlib.Omega.{arith}
use lib.Bits.{bit_xor}
use lib.ListN.{length, get_or}
use Rattle.zeros.specs.Rows.{field}
use Rattle.paper.specs.Lists.{snoc}
use Rattle.paper.specs.Patterns.{Entry}
use Rattle.paper.specs.Automaton.{is_state, Link, dead, to}
use Rattle.paper.proofs.Strings.{length_snoc}
use Rattle.paper.proofs.Links.{Ended, none as nothing, last, ended}
use Rattle.list.specs.Limits.{alphabet, block, most_bytes}
use Rattle.plan.specs.Names.{names}
use Rattle.plan.specs.Breadth.{Bounded}
use Rattle.plan.specs.Placement.{Layout, base_of, cell_of, Alphabet}
use Rattle.plan.specs.Cells.{link_cell}
use Rattle.plan.proofs.Machines.{machine_bounded}
use Rattle.plan.proofs.Xor.{xor_twice}
use Rattle.plan.proofs.Owners.{cell_root, cell_child, child_home, base_zero, cell_once, cell_within}
use Rattle.trie.specs.Trie.{slots_of, Kid, Trie}
use Rattle.trie.proofs.Walks.{walk_begin, walk_end, walk_kid}
use Rattle.links.specs.Linked.{Named, Leads}
use Rattle.links.proofs.States.{numbered, kid_named, named_once, named_root}
use Rattle.cells.specs.Columns.{Writable}
use Rattle.cells.specs.Writing.{seat_of, target_of, output_of, group_base, own_byte, depth_of, Readable}
use Rattle.cells.proofs.Values.{childless, by_first, own_byte_lem}

-- a byte has 8 bits
pub bytes : Alphabet block
bytes = record { bits = 8; power = refl; two = omega arith }

module _ {es : List Entry} {l : Layout} {link_of : List ℕ → Link} {place_of : List ℕ → ℕ} {trie notes spots : List (List ℕ)} {states blocks : ℕ}
    (W : Writable es l link_of place_of trie notes spots states blocks) where
  abbrev ns : List (List ℕ)
  ns = names alphabet es

  abbrev I : Trie alphabet (slots_of trie) ns
  I = W.stands.trie

  pub bounded : Bounded alphabet most_bytes (is_state es)
  bounded = machine_bounded alphabet most_bytes es W.stands.within

  -- a number below the states but dead's is a state's
  pub named : (k : ℕ) → k < states → (k ≡ 1 → ⊥) → Named ns k (get_or ns k [])
  named k h z = record { inside = omega (arith, W.states_are); apart = z; is = refl }

  pub named_state : {k : ℕ} {s : List ℕ} → Named ns k s → is_state es s ≡ true
  named_state {k} {s} N =
      subst (λ (w : List ℕ). is_state es w ≡ true) N.is (numbered es (slots_of trie) I bounded k N.inside N.apart)

  pub below_states : {k : ℕ} {s : List ℕ} → Named ns k s → k < states
  below_states N = omega (arith, N.inside, W.states_are)

  -- a state that is not root is its parent's child on its byte
  pub to_kid : {k c : ℕ} {u : List ℕ} → Named ns k (snoc u c) → Kid alphabet ns u c k
  to_kid {k} {c} {u} N =
      record {
        above = above;
        inside = N.inside;
        byte = bounded.byte u c (named_state N);
        named = N.is;
      }
    where
      not_root : k ≡ 0 → ⊥
      not_root z =
          omega (arith, length_snoc u c, ap length (sym I.root ∙ sym (ap (λ (i : ℕ). get_or ns i []) z) ∙ N.is))

      above : 1 < k
      above = elim (ℕ_discrete k 0) [ yes z ↦ absurd (not_root z) | no z ↦ elim (ℕ_discrete k 1) [ yes e ↦ absurd (N.apart e) | no e ↦ omega arith ] ]

  -- ---- its cell

  pub seat_is : {k : ℕ} {s : List ℕ} → Named ns k s → seat_of notes k ≡ cell_of l s
  seat_is {k} {s} N = go (ended s) N
    where
      go : {w : List ℕ} → Ended w → Named ns k w → seat_of notes k ≡ cell_of l w
      go nothing M = rw (named_root es (slots_of trie) I bounded M) (W.laid.seated.root ∙ sym (cell_root l))
      go (last u c) M =
          let H = child_home alphabet most_bytes bytes (is_state es) bounded l W.full u c (named_state M) in
          W.laid.seated.child H.one H.listed c k (rw H.mine (to_kid M))
          ∙ sym (cell_child l u c ∙ ap (λ (b : ℕ). bit_xor b c) H.based)

  pub seat_inside : {k : ℕ} {s : List ℕ} → Named ns k s → seat_of notes k < blocks * block
  seat_inside {k} {s} N =
      rw (seat_is N, W.blocks_are) (cell_within alphabet most_bytes bytes (is_state es) bounded l W.full s (named_state N))

  -- no two states have one cell
  pub seat_once : {i k : ℕ} {s t : List ℕ} → Named ns i s → Named ns k t → seat_of notes i ≡ seat_of notes k → i ≡ k
  seat_once {i} {k} {s} {t} N M e =
      let same : s ≡ t = cell_once alphabet most_bytes bytes (is_state es) bounded l W.full s t (named_state N) (named_state M)
      (sym (seat_is N) ∙ e ∙ seat_is M) in
      named_once es (slots_of trie) I bounded N (rw same M)

  -- ---- its base

  pub base_is : {k : ℕ} {s : List ℕ} → Named ns k s → group_base trie notes k ≡ base_of l s
  base_is {k} {s} N = rw (← N.is) (elim (ℕ_discrete (field trie k 0) 0) [ yes z ↦ none z | no n ↦ first n ])
    where
      none : field trie k 0 ≡ 0 → group_base trie notes k ≡ base_of l (get_or ns k [])
      none z =
          childless trie notes k z
          ∙ sym ((base_zero alphabet most_bytes bytes (is_state es) bounded l W.full (get_or ns k [])).1
          (walk_end W.stands (walk_begin W.stands k N.inside) z))

      first : (field trie k 0 ≡ 0 → ⊥) → group_base trie notes k ≡ base_of l (get_or ns k [])
      first n =
          let K : Kid alphabet ns (get_or ns k []) (field trie (field trie k 0) 2) (field trie k 0)
          = walk_kid W.stands (walk_begin W.stands k N.inside) n in
          by_first trie notes k n
          ∙ ap (λ (i : ℕ). bit_xor i (field trie (field trie k 0) 2))
          (seat_is (kid_named es (slots_of trie) I bounded K) ∙ cell_child l (get_or ns k []) (field trie (field trie k 0) 2))
          ∙ xor_twice (base_of l (get_or ns k [])) (field trie (field trie k 0) 2)

  -- ---- the rest of its cell

  leads : {k : ℕ} {s : List ℕ} → Named ns k s → Leads ns (link_of s) (field notes k 1)
  leads {k} {s} N = rw (← N.is) (W.link k N.inside N.apart)

  pub target_is : {k : ℕ} {s : List ℕ} → Named ns k s → target_of notes k ≡ link_cell l (link_of s)
  target_is {k} {s} N = go (link_of s) (leads N)
    where
      go : (t : Link) → Leads ns t (field notes k 1) → target_of notes k ≡ link_cell l t
      go dead e = rw e W.laid.seated.dead
      go (to r) M = seat_is M

  pub output_is : {k : ℕ} {s : List ℕ} → Named ns k s → output_of notes k ≡ place_of s
  output_is {k} {s} N = W.place k N.inside N.apart ∙ ap place_of N.is

  pub byte_is : (u : List ℕ) (c : ℕ) {k : ℕ} → Named ns k (snoc u c) → own_byte trie k ≡ c
  byte_is u c {k} N =
      let K : Kid alphabet ns u c k = to_kid N in
      own_byte_lem trie notes k (λ z. omega (arith, K.above)) ∙ I.labelled k c u K.inside K.byte K.named

  pub depth_is : {k : ℕ} {s : List ℕ} → Named ns k s → depth_of trie k ≡ length s
  depth_is {k} {s} N = I.deep k N.inside N.apart ∙ ap length N.is

  -- ---- it can be read

  link_inside : {k : ℕ} {s : List ℕ} → Named ns k s → field notes k 1 < length ns
  link_inside {k} {s} N = go (link_of s) (leads N)
    where
      go : (t : Link) → Leads ns t (field notes k 1) → field notes k 1 < length ns
      go dead e = omega (arith, I.two)
      go (to r) M = M.inside

  first_inside : (k : ℕ) → k < length ns → field trie k 0 < length ns
  first_inside k h =
      elim (ℕ_discrete (field trie k 0) 0) [
        | yes z ↦ omega (arith, I.two)
        | no n ↦ (walk_kid W.stands (walk_begin W.stands k h) n).inside
      ]

  letter : (k : ℕ) → k < length ns → (k ≡ 1 → ⊥) → (k ≡ 0 → ⊥) → field trie k 2 < alphabet
  letter k h z n =
      let b = I.born k (omega arith) h in
      rw (I.labelled k b.byte (get_or ns b.parent []) h b.small b.is) b.small

  pub readable : (k : ℕ) → k < states → (k ≡ 1 → ⊥) → Readable trie notes k
  readable k h z =
      let N = named k h z in
      record {
        in_trie = omega (arith, N.inside, W.stands.room);
        in_notes = omega (arith, W.notes_room);
        first_in_trie = omega (arith, first_inside k N.inside, W.stands.room);
        first_in_notes = omega (arith, first_inside k N.inside, W.notes_room, W.states_are);
        link_in_notes = omega (arith, link_inside N, W.notes_room, W.states_are);
        byte = letter k N.inside z;
        short = rw (depth_is N) (bounded.short (get_or ns k []) (named_state N));
      }
