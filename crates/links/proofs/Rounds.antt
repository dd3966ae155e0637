-- The breadth-first order as a whole: before the first turn, between two turns, and after the last.
use mathlib.Core.Path.{◌≡◌, sym, ap, ◌∙◌, subst}
use mathlib.Core.List.{List, []}
use Prim.Native.Nat.{ℕ, suc, ◌≤◌, ◌<◌}
use native.Mathlib.Omega.{arith}
use lib.ListN.{length, get_or, take, length-append}
use lib.Seq.{get_or-take, length-take-le}
use Rattle.paper.specs.Patterns.{Entry, Kind}
use Rattle.paper.specs.Automaton.{machine, is_state}
use Rattle.paper.proofs.Links.{ruled}
use Rattle.zeros.specs.Rows.{field}
use Rattle.list.specs.Limits.{alphabet, most_bytes}
use Rattle.plan.specs.Names.{names}
use Rattle.plan.specs.Breadth.{kids}
use Rattle.plan.proofs.Lists.{get_member}
use Rattle.plan.proofs.Breadth.{breadth_below}
use Rattle.trie.specs.Trie.{slots_of}
use Rattle.links.specs.Notes.{Notes, notes_of}
use Rattle.links.specs.Linked.{Named, ordered, Linked}
use Rattle.links.specs.Queue.{queued_before, Queued, Ready, Turn, Poised}
use Rattle.links.proofs.States.{root_named}
use Rattle.links.proofs.Queue.{later_not, in_order, begun_next, final_next, queued_root, queued_all}
use Rattle.links.proofs.Walking.{order_fits}
use Rattle.links.proofs.Turning.{bounded, laws}

-- the same trie with notes of the same length
pub ready_for : {kind : Kind} {es : List Entry} {rows : List (List ℕ)} {room room' : ℕ} → Ready kind es rows room → room' ≡ room → Ready kind es rows room'
ready_for {kind} {es} {rows} R e = subst (λ (n : ℕ). Ready kind es rows n) (sym e) R

module _ {kind : Kind} {es : List Entry} {trie : List (List ℕ)} {room : ℕ} (R : Ready kind es trie room) where
  first : get_or (ordered es) 0 [] ≡ []
  first = ap (λ (x : List (List ℕ)). get_or x 0 []) (breadth_below alphabet most_bytes (is_state es) (bounded R))

  some : 0 < length (ordered es)
  some = rw (breadth_below alphabet most_bytes (is_state es) (bounded R)) (omega arith)

  -- a turn puts no less into the queue than it takes
  pub grown : {N O : Notes} {h tail next : ℕ} → Queued kind es N h tail → h < tail → Queued kind es O (suc h) next → suc h ≤ next
  grown {N} {O} {h} {tail} {next} Q l P =
      omega (
        arith,
        Q.count,
        P.count,
        ap length (begun_next kind es (slots_of trie) R.trie (bounded R) h (in_order kind es (slots_of trie) R.trie (bounded R) N h tail Q l)),
        length-append (queued_before kind es h) (kids alphabet (is_state es) (get_or (ordered es) h [])),
      )

  pub begins : {N : Notes} {tail : ℕ} → Queued kind es N 1 tail → 1 ≤ tail
  begins Q = omega (arith, Q.count)

module _ {kind : Kind} {es : List Entry} {trie : List (List ℕ)} (notes : List (List ℕ)) (R : Ready kind es trie (length notes)) where
  -- root is in the queue and links to itself
  pub poised_root : field notes 0 0 ≡ 0 → field notes 0 1 ≡ 0 → Poised kind es trie notes 0 0 1
  poised_root o k =
      let Q = queued_root kind es (slots_of trie) R.trie (bounded R) (notes_of notes) (laws R) o k in
      let root : Named (names alphabet es) 0 (get_or (ordered es) 0 []) = rw (first R) (root_named es (slots_of trie) R.trie (bounded R)) in
      record {
        turn = record { ready = R; queued = Q; here = omega arith; named = root };
        final = final_next kind es (slots_of trie) R.trie (bounded R) (notes_of notes) 0 0 (some R) root Q.final
            (rw (first R, (ruled (machine kind es) (laws R)).root, k) (root_named es (slots_of trie) R.trie (bounded R)));
      }

  module _ {h tail : ℕ} (Q : Queued kind es (notes_of notes) h tail) where
    -- there is a row for the place
    pub place_inside : h < tail → h < length notes
    place_inside l =
        omega (arith, in_order kind es (slots_of trie) R.trie (bounded R) (notes_of notes) h tail Q l, order_fits R, R.notes_room)

    -- it is the turn of the state that stands there
    pub turned : (l : h < tail) (s : ℕ) → s ≡ field notes h 0 → Turn kind es trie notes s h tail
    turned l s e = record { ready = R; queued = Q; here = l; named = rw e (Q.order h l) }

    -- after the last turn
    pub finished : h ≡ tail → Linked kind es (notes_of notes)
    finished e = queued_all kind es (slots_of trie) R.trie (bounded R) (notes_of notes) h tail Q e

  -- only root's place is the first
  pub not_root : {s h tail : ℕ} → Turn kind es trie notes s h tail → 0 < h → s ≡ 0 → ⊥
  not_root {s} {h} {tail} T pos e =
      let inside = in_order kind es (slots_of trie) R.trie (bounded R) (notes_of notes) h tail T.queued T.here in
      let name : get_or (ordered es) h [] ≡ get_or (take h (ordered es)) 0 []
      = sym T.named.is ∙ ap (λ (k : ℕ). get_or (names alphabet es) k []) e ∙ R.trie.root ∙ sym (first R) ∙ sym (get_or-take h (ordered es) 0 [] pos) in
      later_not kind es (slots_of trie) R.trie (bounded R) h h (omega arith) inside
      (rw name (get_member (take h (ordered es)) 0 [] (omega (arith, length-take-le h (ordered es) (omega arith)))))
