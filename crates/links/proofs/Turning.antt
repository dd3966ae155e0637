-- The turn of a state, from what a caller shows: its laws, whether it stops, and its children.
use mathlib.Core.Path.{◌≡◌, refl, ◌∙◌, subst}
use mathlib.Core.Bool.{Bool, true, false, not, ◌&&◌}
use mathlib.Core.List.{List, []}
use Prim.Native.Nat.{ℕ}
use lib.Dec.{eqb}
use lib.ListN.{get_or}
use Rattle.paper.specs.Lists.{is_nil}
use Rattle.paper.specs.Patterns.{Entry, Kind, standard, leftmost}
use Rattle.paper.specs.Automaton.{machine, is_state, own_of, stops_of}
use Rattle.std.proofs.lemmas.Bool.{ne_eqb, eq-eqb}
use Rattle.paper.proofs.Links.{Lawful}
use Rattle.paper.proofs.Machines.{lawful}
use Rattle.list.specs.Limits.{alphabet, most_bytes}
use Rattle.plan.specs.Names.{names}
use Rattle.plan.specs.Breadth.{Bounded}
use Rattle.plan.proofs.Machines.{machine_bounded}
use Rattle.trie.specs.Trie.{slots_of}
use Rattle.links.specs.Linked.{ordered, is_leftmost}
use Rattle.links.specs.Queue.{Ready, Turn}

module _ {kind : Kind} {es : List Entry} {rows : List (List ℕ)} {room : ℕ} (R : Ready kind es rows room) where
  pub bounded : Bounded alphabet most_bytes (is_state es)
  bounded = machine_bounded alphabet most_bytes es R.within

  pub laws : Lawful (machine kind es)
  laws = lawful kind es R.proper

-- a state stops exactly if the kind is leftmost and its slot tells an own output
stops_told : (kind : Kind) (es : List Entry) (w : List ℕ) (b : Bool) → b ≡ is_nil (own_of es w) → stops_of kind es w ≡ (is_leftmost kind && not b)
stops_told standard es w b e = refl
stops_told (leftmost c) es w b e = rw e

module _ {kind : Kind} {es : List Entry} {trie notes : List (List ℕ)} {s h tail : ℕ} (T : Turn kind es trie notes s h tail) where
  stops_is : stops_of kind es (get_or (ordered es) h []) ≡ (is_leftmost kind && not (eqb ((slots_of trie).own s) 0))
  stops_is =
      subst (λ (w : List ℕ). stops_of kind es w ≡ (is_leftmost kind && not (eqb ((slots_of trie).own s) 0))) T.named.is
      (stops_told kind es (get_or (names alphabet es) s []) (eqb ((slots_of trie).own s) 0) (T.ready.owned.tells s T.named.inside T.named.apart))

  pub stops_yes : is_leftmost kind ≡ true → ((slots_of trie).own s ≡ 0 → ⊥) → stops_of kind es (get_or (ordered es) h []) ≡ true
  stops_yes m nz = stops_is ∙ rw (m, ne_eqb ((slots_of trie).own s) 0 nz)

  pub stops_none : (slots_of trie).own s ≡ 0 → stops_of kind es (get_or (ordered es) h []) ≡ false
  stops_none z = stops_is ∙ go (is_leftmost kind)
    where
      go : (b : Bool) → (b && not (eqb ((slots_of trie).own s) 0)) ≡ false
      go true = rw (eq-eqb ((slots_of trie).own s) 0 z)
      go false = refl

  pub stops_never : is_leftmost kind ≡ false → stops_of kind es (get_or (ordered es) h []) ≡ false
  stops_never m = stops_is ∙ rw m
