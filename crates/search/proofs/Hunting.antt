-- A hunt answers damage exactly where it meets damage, and what it comes to is a cell. The tables have room for their cells; of the readers only
-- what is claimed of them is used.
use mathlib.Core.Path.{◌≡◌, refl}
use mathlib.Core.Bool.{Bool, true, false, ◌&&◌}
use mathlib.Core.Logic.{◌⊎◌, inl, inr, ⊎_elim, ◌↔◌}
use Prim.Native.Nat.{ℕ, zero, suc, ◌+◌, ◌≤◌, ◌<◌}
use native.Mathlib.Omega.{arith}
use lib.Bits.{bit_xor}
use lib.Dec.{eqb, ltb}
use lib.ListN.{length, get_or}
use Rattle.std.specs.Prelude.{IsErr, Option, Some, None, Result, Ok, Err}
use Rattle.std.proofs.lemmas.Bool.{false_from_ne_true, eqb-false, ne_eqb, ltb-true, ltb-false}
use Rattle.paper.proofs.Tests.{test, clash}
use Rattle.table.specs.Readers.{there}
use Rattle.table.specs.Agrees.{Tables, Rooms, probe_in, link_in}
use Rattle.table.specs.Claims.{LinksTo}
use Rattle.table.specs.declared.CellId.{CellId}
use Rattle.table.proofs.Claims as readers
use Rattle.table.specs.declared.Damage.{Damage}
use Rattle.table.specs.Readers.{damage}
use Rattle.search.specs.Values.{root, dead, cell}
use Rattle.search.specs.Walk.{take_of}
use Rattle.search.specs.Damage.{HuntMeets, child_past_cells, target_past_cells, target_not_smaller, at_target}

-- for equations between two constructors, of which `cc` makes 0 ≡ 1
pub never : ◌≡◌ {A = ℕ} 0 1 → ⊥
never z = omega arith

-- what a `?` hands on is damage: there is one alone
pub handed_on : {A : Type 0} → (r : Result A Damage) → IsErr r → r ≡ damage
handed_on (Ok x) h = absurd (never (cc h))
handed_on (Err d) h = refl

-- ---- the readers' answers

-- where a state's child on a byte would be
abbrev child_in : Tables → ℕ → ℕ → ℕ
child_in T s c = bit_xor (get_or T.base s 0) c

-- where a state links to
abbrev target_in : Tables → ℕ → ℕ
target_in T s = get_or T.link s 0

-- a state's depth
abbrev pub depth_in : Tables → ℕ → ℕ
depth_in T s = get_or T.depth s 0

-- what is there is one of the cells, and what is past them is not there
there_below : (cells slots i : ℕ) → there cells slots i ≡ true → i < cells
there_below cells slots i e = (((readers.claims).is_there cells slots i).0 e).0

not_there : (cells slots i : ℕ) → cells ≤ i → there cells slots i ≡ false
not_there cells slots i h = false_from_ne_true (there cells slots i) (λ e. omega (arith, there_below cells slots i e))

module _ (T : Tables) where
  -- a child that is found is a cell
  child_below : (s c : ℕ) (t : CellId) → probe_in T s c ≡ Ok (Some t) → t.0 < T.cells
  child_below s c t e =
      there_below T.cells (length T.check) t.0 (((readers.claims).finds T.base T.check T.cells s c t.0).0 e).cell

  -- a link leads to t exactly if t is a cell of a smaller depth
  leads : (s t : ℕ) → (link_in T s ≡ Ok (cell t)) ↔ LinksTo T.link T.depth T.cells s t
  leads s t = (readers.claims).leads T.link T.depth T.cells s t

  -- the target of a link is a cell, and its depth is smaller
  target_below : (s : ℕ) (t : CellId) → link_in T s ≡ Ok t → t.0 < T.cells
  target_below s t e = there_below T.cells (length T.depth) t.0 ((leads s t.0).0 e).cell

  target_smaller : (s : ℕ) (t : CellId) → link_in T s ≡ Ok t → depth_in T t.0 < depth_in T s
  target_smaller s t e = ((leads s t.0).0 e).falls

  -- where the child would be past the cells a probe tells damage
  damage_probe : (s c : ℕ) → (get_or T.base s 0 ≡ 0 → ⊥) → T.cells ≤ child_in T s c → probe_in T s c ≡ damage
  damage_probe s c b h =
      ((readers.claims).damaged T.base T.check T.cells s c).1
      (inr (b, not_there T.cells (length T.check) (child_in T s c) h))

  -- a link that leads nowhere tells damage
  not_linked : (s : ℕ) → ((t : ℕ) → LinksTo T.link T.depth T.cells s t → ⊥) → link_in T s ≡ damage
  not_linked s n = go (link_in T s) refl
    where
      go : (r : Result CellId Damage) → link_in T s ≡ r → link_in T s ≡ damage
      go (Ok t) e = absurd (n t.0 ((leads s t.0).0 e))
      go (Err _) e = e

  -- so does one whose target is past the cells, or has a depth that isn't smaller
  damage_past : (s : ℕ) → T.cells ≤ target_in T s → link_in T s ≡ damage
  damage_past s h = not_linked s (λ t L. omega (arith, L.target, there_below T.cells (length T.depth) t L.cell))

  damage_deep : (s : ℕ) → depth_in T s ≤ depth_in T (target_in T s) → link_in T s ≡ damage
  damage_deep s h = not_linked s (λ t L. omega (arith, rw L.target at L.falls))

  -- in columns with room there is no other damage
  module _ (R : Rooms T) where
    -- a cell is there in a column with room
    inside : (i slots : ℕ) → i < T.cells → T.cells ≤ slots → there T.cells slots i ≡ true
    inside i slots h room = ((readers.claims).is_there T.cells slots i).1 (h, omega arith)

    -- what is not there is past the cells
    past : (i slots : ℕ) → T.cells ≤ slots → there T.cells slots i ≡ false → T.cells ≤ i
    past i slots room e =
        test (ltb i T.cells) (λ h. clash (inside i slots (ltb-true i T.cells h) room) e) (λ h. ltb-false i T.cells h)

    probe_damage : (s c : ℕ) → s < T.cells → probe_in T s c ≡ damage → (get_or T.base s 0 ≡ 0 → ⊥) × (T.cells ≤ child_in T s c)
    probe_damage s c h e =
        ⊎_elim (λ q. clash (inside s (length T.base) h R.base_room) q)
        (λ q. (q.0, past (child_in T s c) (length T.check) R.check_room q.1))
        (((readers.claims).damaged T.base T.check T.cells s c).0 e)

    link_damage : (s : ℕ) → s < T.cells → link_in T s ≡ damage
        → (T.cells ≤ target_in T s) ⊎ (depth_in T s ≤ depth_in T (target_in T s))
    link_damage s h e =
        test (ltb (target_in T s) T.cells)
        (λ a. test (ltb (depth_in T (target_in T s)) (depth_in T s)) (λ b. absurd (led a b))
        (λ b. inr (ltb-false (depth_in T (target_in T s)) (depth_in T s) b)))
        (λ a. inl (ltb-false (target_in T s) T.cells a))
      where
        led : ltb (target_in T s) T.cells ≡ true → ltb (depth_in T (target_in T s)) (depth_in T s) ≡ true → ⊥
        led a b =
            let l : link_in T s ≡ Ok (cell (target_in T s))
            = (leads s (target_in T s)).1
            (record {
              linking = inside s (length T.link) h R.link_room;
              state = inside s (length T.depth) h R.depth_room;
              target = refl;
              cell = inside (target_in T s) (length T.depth) (ltb-true (target_in T s) T.cells a) R.depth_room;
              falls = ltb-true (depth_in T (target_in T s)) (depth_in T s) b;
            }) in
            never (cc)

-- ---- the hunt

-- the hunt on a byte from a state, with so much fuel
abbrev pub hunt_in : ℕ → Bool → Tables → CellId → ℕ → ℕ → Result (CellId × ℕ) Damage
hunt_in n falling T s c m = take_of n falling (probe_in T) (link_in T) s c m

-- a byte that is taken is no damage
stays : {t : CellId} {m : ℕ} → ◌≡◌ {A = Result (CellId × ℕ) Damage} (Ok (t, m)) damage → ⊥
stays e = never (cc)

-- what a byte comes to, if it is taken, is a cell
abbrev pub Within : ℕ → Result (CellId × ℕ) Damage → Type 0
Within cells (Ok p) = (p.0).0 < cells
Within cells (Err _) = Unit {0}

module _ (T : Tables) (R : Rooms T) (falling : Bool) (c : ℕ) where
  -- a hunt that answers damage meets it here or at the target, if it is so from there
  meets_here : (n : ℕ) (s : CellId) (m : ℕ) → s.0 < T.cells
      → ((t : CellId) → t.0 < T.cells → depth_in T t.0 < depth_in T s.0 → hunt_in n falling T t c (m + 1) ≡ damage
      → HuntMeets falling T c t)
      → hunt_in (suc n) falling T s c m ≡ damage
      → HuntMeets falling T c s
  unfolding take_of
  meets_here n s m h next e = probed (probe_in T s.0 c) refl
    where
      linked_on : probe_in T s.0 c ≡ Ok None → eqb s.0 root ≡ false → (r : Result CellId Damage) → link_in T s.0 ≡ r → HuntMeets falling T c s
      linked_on p z (Ok t) l =
          test (falling && eqb t.0 dead) (λ f. absurd (stays (rw (p, z, l, f) at e)))
          (λ f. at_target s t p (eqb-false s.0 root z) l f
          (next t (target_below T s.0 t l) (target_smaller T s.0 t l) (rw (p, z, l, f) at e)))
      linked_on p z (Err _) l =
          ⊎_elim (λ q. target_past_cells s p (eqb-false s.0 root z) q) (λ q. target_not_smaller s p (eqb-false s.0 root z) q)
          (link_damage T R s.0 h l)

      probed : (r : Result (Option CellId) Damage) → probe_in T s.0 c ≡ r → HuntMeets falling T c s
      probed (Ok (Some t)) p = absurd (stays (rw p at e))
      probed (Ok None) p =
          test (eqb s.0 root) (λ z. absurd (stays (rw (p, z) at e))) (λ z. linked_on p z (link_in T s.0) refl)
      probed (Err _) p = let q = probe_damage T R s.0 c h p in child_past_cells s q.0 q.1

  -- a hunt that meets damage here or at the target answers so, if it does from there
  answers_here : (n : ℕ) (s : CellId) (m : ℕ)
      → ((t : CellId) → t.0 < T.cells → depth_in T t.0 < depth_in T s.0 → HuntMeets falling T c t
      → hunt_in n falling T t c (m + 1) ≡ damage)
      → HuntMeets falling T c s
      → hunt_in (suc n) falling T s c m ≡ damage
  unfolding take_of
  answers_here n s m next (child_past_cells _ b l) = rw (damage_probe T s.0 c b l)
  answers_here n s m next (target_past_cells _ p z l) = rw (p, ne_eqb s.0 root z, damage_past T s.0 l)
  answers_here n s m next (target_not_smaller _ p z l) = rw (p, ne_eqb s.0 root z, damage_deep T s.0 l)
  answers_here n s m next (at_target _ t p z l f M) =
      rw (p, ne_eqb s.0 root z, l, f) (next t (target_below T s.0 t l) (target_smaller T s.0 t l) M)

  -- with fuel above the state's depth, a hunt answers damage exactly where it meets damage
  pub hunting : (n : ℕ) (s : CellId) (m : ℕ) → s.0 < T.cells → depth_in T s.0 ≤ n
      → (hunt_in (suc n) falling T s c m ≡ damage) ↔ HuntMeets falling T c s
  hunting zero s m h d = (meets_here zero s m h (λ t l f q. absurd (omega arith)), answers_here zero s m (λ t l f q. absurd (omega arith)))
  hunting (suc n) s m h d = (
    meets_here (suc n) s m h (λ t l f. (hunting n t (m + 1) l (omega arith)).0),
    answers_here (suc n) s m (λ t l f. (hunting n t (m + 1) l (omega arith)).1),
  )

  -- from a cell a hunt comes to a cell, if it does from the target
  within_here : (n : ℕ) (s : CellId) (m : ℕ) → s.0 < T.cells
      → ((t : CellId) → t.0 < T.cells → Within T.cells (hunt_in n falling T t c (m + 1)))
      → Within T.cells (hunt_in (suc n) falling T s c m)
  unfolding take_of
  within_here n s m h next = probed (probe_in T s.0 c) refl
    where
      linked_on : probe_in T s.0 c ≡ Ok None → eqb s.0 root ≡ false → (r : Result CellId Damage) → link_in T s.0 ≡ r
          → Within T.cells (hunt_in (suc n) falling T s c m)
      linked_on p z (Ok t) l =
          test (falling && eqb t.0 dead) (λ f. rw (p, z, l, f) (omega arith)) (λ f. rw (p, z, l, f) (next t (target_below T s.0 t l)))
      linked_on p z (Err _) l = rw (p, z, l) tt

      probed : (r : Result (Option CellId) Damage) → probe_in T s.0 c ≡ r → Within T.cells (hunt_in (suc n) falling T s c m)
      probed (Ok (Some t)) p = rw p (child_below T s.0 c t p)
      probed (Ok None) p = test (eqb s.0 root) (λ z. rw (p, z) (omega arith)) (λ z. linked_on p z (link_in T s.0) refl)
      probed (Err _) p = rw p tt

  -- from a cell a hunt comes to a cell, with any fuel
  pub hunt_within : (n : ℕ) (s : CellId) (m : ℕ) → s.0 < T.cells → Within T.cells (hunt_in n falling T s c m)
  unfolding take_of
  hunt_within zero s m h = tt
  hunt_within (suc n) s m h = within_here n s m h (λ t l. hunt_within n t (m + 1) l)
