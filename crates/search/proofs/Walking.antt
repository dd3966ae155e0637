-- The walk on a byte against its definition: one equation for each way of the code, and what the loop keeps.
use mathlib.Core.Path.{◌≡◌, refl, sym, ◌∙◌}
use mathlib.Core.Bool.{Bool, true, false}
use mathlib.Core.List.{List}
use Prim.Native.Nat.{ℕ, zero, suc, ◌+◌, ◌≤◌, ◌<◌}
use native.Mathlib.Omega.{arith}
use lib.ListN.{get_or}
use Rattle.std.specs.Prelude.{Option, Some, None, Result, Ok}
use Rattle.std.proofs.lemmas.Bool.{eq-eqb, ne_eqb}
use Rattle.table.specs.Readers.{link_of}
use Rattle.table.proofs.Claims.{claims}
use Rattle.table.specs.declared.CellId.{CellId}
use Rattle.table.specs.declared.Damage.{Damage}
use Rattle.table.specs.Readers.{damage}
use Rattle.search.specs.Values.{root, cell}
use Rattle.search.specs.Walk.{byte_taken, falls_at, take_of}

-- a link leads to a smaller depth
pub link_falls : (links depth : List ℕ) (cells : ℕ) (s t : CellId) → link_of links depth cells s.0 ≡ Ok t → get_or depth t.0 0 < get_or depth s.0 0
link_falls links depth cells s t e = ((claims.leads links depth cells s.0 t.0).0 e).falls

module _ (falling : Bool) (probe : ℕ → ℕ → Result (Option CellId) Damage) (link : ℕ → Result CellId Damage) (c : ℕ) where
  -- ---- the ways of one turn

  pub at_child : (n : ℕ) (s child : CellId) (m : ℕ) → probe s.0 c ≡ Ok (Some child) → take_of (suc n) falling probe link s c m ≡ byte_taken child m
  unfolding take_of
  at_child n s child m e = rw e

  pub at_damage : (n : ℕ) (s : CellId) (m : ℕ) → probe s.0 c ≡ damage → take_of (suc n) falling probe link s c m ≡ damage
  unfolding take_of
  at_damage n s m e = rw e

  pub at_root_lem : (n : ℕ) (s : CellId) (m : ℕ) → probe s.0 c ≡ Ok None → s.0 ≡ root → take_of (suc n) falling probe link s c m ≡ byte_taken (cell root) m
  unfolding take_of
  at_root_lem n s m e z = rw (e, eq-eqb s.0 root z)

  pub at_broken : (n : ℕ) (s : CellId) (m : ℕ) → probe s.0 c ≡ Ok None → (s.0 ≡ root → ⊥) → link s.0 ≡ damage
      → take_of (suc n) falling probe link s c m ≡ damage
  unfolding take_of
  at_broken n s m e nz k = rw (e, ne_eqb s.0 root nz, k)

  pub at_dead : (n : ℕ) (s t : CellId) (m : ℕ) → probe s.0 c ≡ Ok None → (s.0 ≡ root → ⊥) → link s.0 ≡ Ok t → falls_at falling t ≡ true
      → take_of (suc n) falling probe link s c m ≡ byte_taken (cell root) (m + 1)
  unfolding take_of
  at_dead n s t m e nz k f = rw (e, ne_eqb s.0 root nz, k, f)

  pub at_link : (n : ℕ) (s t : CellId) (m : ℕ) → probe s.0 c ≡ Ok None → (s.0 ≡ root → ⊥) → link s.0 ≡ Ok t → falls_at falling t ≡ false
      → take_of (suc n) falling probe link s c m ≡ take_of n falling probe link t c (m + 1)
  unfolding take_of
  at_link n s t m e nz k f = rw (e, ne_eqb s.0 root nz, k, f)

  -- ---- what the loop keeps, from a first state and count on

  -- `left` bounds the links that are still to come
  pub record Walking (depth : List ℕ) (from : CellId) (count : ℕ) (s : CellId) (moves : ℕ) : Type 0 where
    pub left : ℕ
    pub same : take_of (suc left) falling probe link s c moves ≡ take_of (suc (get_or depth from.0 0)) falling probe link from c count
    pub enough : get_or depth s.0 0 ≤ left
    pub few : moves + left ≤ count + get_or depth from.0 0

  pub begin : (depth : List ℕ) (from : CellId) (count : ℕ) → Walking depth from count from count
  begin depth from count = record { left = get_or depth from.0 0; same = refl; enough = omega arith; few = omega arith }

  module _ {depth : List ℕ} {from : CellId} {count : ℕ} {s : CellId} {m : ℕ} (W : Walking depth from count s m) where
    pub to_child : (child : CellId) → probe s.0 c ≡ Ok (Some child)
        → byte_taken child m ≡ take_of (suc (get_or depth from.0 0)) falling probe link from c count
    to_child child e = sym (at_child W.left s child m e) ∙ W.same

    pub to_damage : probe s.0 c ≡ damage → damage ≡ take_of (suc (get_or depth from.0 0)) falling probe link from c count
    to_damage e = sym (at_damage W.left s m e) ∙ W.same

    pub to_root : probe s.0 c ≡ Ok None → s.0 ≡ root
        → byte_taken (cell root) m ≡ take_of (suc (get_or depth from.0 0)) falling probe link from c count
    to_root e z = sym (at_root_lem W.left s m e z) ∙ W.same

    pub to_broken : probe s.0 c ≡ Ok None → (s.0 ≡ root → ⊥) → link s.0 ≡ damage
        → damage ≡ take_of (suc (get_or depth from.0 0)) falling probe link from c count
    to_broken e nz k = sym (at_broken W.left s m e nz k) ∙ W.same

    pub to_dead : (t : CellId) → probe s.0 c ≡ Ok None → (s.0 ≡ root → ⊥) → link s.0 ≡ Ok t → true ≡ falls_at falling t
        → byte_taken (cell root) (m + 1) ≡ take_of (suc (get_or depth from.0 0)) falling probe link from c count
    to_dead t e nz k f = sym (at_dead W.left s t m e nz k (sym f)) ∙ W.same

  pub turn : {depth : List ℕ} {from : CellId} {count : ℕ} {s : CellId} {m : ℕ} → Walking depth from count s m → (t : CellId)
      → probe s.0 c ≡ Ok None
      → (s.0 ≡ root → ⊥)
      → link s.0 ≡ Ok t
      → false ≡ falls_at falling t
      → get_or depth t.0 0 < get_or depth s.0 0
      → Walking depth from count t (m + 1)
  turn {depth} {from} {count} {s} {m} W t e nz k f d = by W.left W.same W.enough W.few
    where
      by : (left : ℕ) → take_of (suc left) falling probe link s c m ≡ take_of (suc (get_or depth from.0 0)) falling probe link from c count
          → get_or depth s.0 0 ≤ left
          → m + left ≤ count + get_or depth from.0 0
          → Walking depth from count t (m + 1)
      by zero same enough few = absurd (omega (arith, d))
      by (suc left) same enough few =
          record { left = left; same = sym (at_link (suc left) s t m e nz k (sym f)) ∙ same; enough = omega (arith, d); few = omega arith }
