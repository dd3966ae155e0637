-- The cells of a full layout: what each holds, and that a probe is exact.
use mathlib.Core.Path.{◌≡◌, refl, sym, ap, ap₂, ◌∙◌, subst}
use mathlib.Core.Bool.{Bool, true, false}
use mathlib.Core.List.{List, [], ◌∷◌}
use mathlib.Core.Logic.{◌≢◌, ◌↔◌}
use mathlib.Core.Option
use mathlib.Core.Option.{Option, none, some}
use Prim.Native.Nat.{ℕ, ◌*◌, ◌/◌, ◌≤◌, ◌<◌}
use native.Mathlib.Nat.{div-eq_of_lt, zero-add}
use native.Mathlib.Decide.{ℕ_discrete}
use native.Mathlib.Omega.{arith}
use lib.Bits.{bit_xor, xor_zero_l}
use lib.ListN.{length, get_or}
use Rattle.paper.specs.Lists.{snoc}
use Rattle.paper.specs.Automaton.{Link, to}
use Rattle.paper.proofs.Tests.{clash}
use Rattle.paper.proofs.Links.{Ended, none as nothing, last, ended}
use Rattle.plan.specs.Breadth.{Bounded}
use Rattle.plan.specs.Placement.{Layout, vacant, used_base, base_of, cell_of, owner_of, Alphabet}
use Rattle.plan.specs.Cells.{unused_in, spare_check, last_byte, check_by, check_of, Cell, link_cell, cell_by, cell_at, cells, Smallest}
use Rattle.plan.specs.Cells.{Full}
use Rattle.plan.proofs.Xor.{xor_base, xor_back}
use Rattle.plan.proofs.Scans.{each_length, each_get}
use Rattle.plan.proofs.Layouts.{to_used}
use Rattle.plan.proofs.Blocks.{unused_some, vacant_unused, block_zero}
use Rattle.plan.proofs.Owners.{cell_root, cell_child, based_home, child_home, home_based, base_once, owner_state, state_owner}
use Rattle.plan.proofs.Owners.{dead_owner, vacant_owner}

-- ---- checks

last_snoc : (x : ℕ) (s : List ℕ) (c : ℕ) → last_byte x (snoc s c) ≡ c
unfolding last_byte
last_snoc x [] c = refl
last_snoc x (y ∷ s) c = last_snoc y s c

check_by_child : (s : List ℕ) (c spare : ℕ) → check_by (some (snoc s c)) spare ≡ c
unfolding last_byte
check_by_child [] c spare = refl
check_by_child (x ∷ s) c spare = last_snoc x s c

-- a check that is not a byte leads back to the base that nobody has
spare_back : (a : ℕ) (l : Layout) (b c : ℕ) → spare_check a l (bit_xor b c) ≡ c → Option.get_or (unused_in a l (bit_xor b c / a)) 0 ≡ b
unfolding spare_check
spare_back a l b c e = xor_base (Option.get_or (unused_in a l (bit_xor b c / a)) 0) b (bit_xor b c) (e ∙ sym (xor_back b c))

module _ (a n : ℕ) (A : Alphabet a) (S : List ℕ → Bool) (L : Bounded a n S) (l : Layout) (F : Full a S l) where
  -- in block 0 the unused base is 0, so the check is the index
  pub spare_zero : (j : ℕ) → j < a → spare_check a l j ≡ j
  unfolding spare_check
  spare_zero j h = rw (div-eq_of_lt h, block_zero a l A F.good) (xor_zero_l j)

  root_owner : owner_of l 0 ≡ some []
  root_owner = rw (cell_root l) at (state_owner a n A S L l F [] L.root)

  -- root's and dead's check is the index
  pub low_check : (j : ℕ) → j ≤ 1 → check_of a l j ≡ j
  unfolding check_of
  low_check j h =
      elim (ℕ_discrete j 1) [
        | yes e ↦ rw (e, dead_owner a n A S L l F) (spare_zero 1 (omega (arith, A.two)))
        | no e ↦ let z : j ≡ 0 = omega arith in rw (z, root_owner) (spare_zero 0 (omega (arith, A.two)))
      ]

  -- (q5) a vacant cell's check leads to it from the smallest unused base of its block
  pub vacant_check : (j : ℕ) → vacant l j ≡ true → (u : ℕ) × Smallest a l (j / a) u × (bit_xor u (check_of a l j) ≡ j)
  unfolding check_of spare_check
  vacant_check j v =
      let r = vacant_unused a l A F.good j v in
      (r.0, unused_some a l (j / a) r.0 r.1, rw (vacant_owner a n A S L l F j v, r.1) (xor_back r.0 j))

  -- a child's check is its byte
  pub child_check : (s : List ℕ) (c : ℕ) → S (snoc s c) ≡ true → check_of a l (cell_of l (snoc s c)) ≡ c
  unfolding check_of
  child_check s c h = rw (state_owner a n A S L l F (snoc s c) h) (check_by_child s c (spare_check a l (cell_of l (snoc s c))))

  -- ---- (q6) a probe is exact

  unused_other : (s : List ℕ) (k : ℕ) → base_of l s ≢ 0 → Option.get_or (unused_in a l k) 0 ≡ base_of l s → ⊥
  unused_other s k h = go (unused_in a l k) refl
    where
      go : (o : Option ℕ) → unused_in a l k ≡ o → Option.get_or o 0 ≡ base_of l s → ⊥
      go none e q = h (sym q)
      go (some u) e q =
          let H = based_home a n A S L l F s h in
          clash (to_used l H.one H.listed) (subst (λ (b : ℕ). used_base l b ≡ false) (q ∙ H.based) (unused_some a l k u e).unused)

  accepted_child : (s : List ℕ) (c : ℕ) → base_of l s ≢ 0 → check_of a l (bit_xor (base_of l s) c) ≡ c → S (snoc s c) ≡ true
  unfolding check_of
  accepted_child s c h k = go (owner_of l (bit_xor (base_of l s) c)) refl k
    where
      spare : spare_check a l (bit_xor (base_of l s) c) ≡ c → S (snoc s c) ≡ true
      spare e = absurd (unused_other s (bit_xor (base_of l s) c / a) h (spare_back a l (base_of l s) c e))

      child : {w : List ℕ} → Ended w → S w ≡ true → cell_of l w ≡ bit_xor (base_of l s) c
          → check_by (some w) (spare_check a l (bit_xor (base_of l s) c)) ≡ c → S (snoc s c) ≡ true
      child nothing t at e = spare e
      child (last u d) t at e =
          let byte : d ≡ c = sym (check_by_child u d (spare_check a l (bit_xor (base_of l s) c))) ∙ e in
          let base : base_of l s ≡ base_of l u
          = xor_base (base_of l s) (base_of l u) c (sym at ∙ cell_child l u d ∙ ap (bit_xor (base_of l u)) byte) in
          ap₂ (λ (w : List ℕ) (b : ℕ). S (snoc w b)) (base_once a n A S L l F s u h base) (sym byte) ∙ t

      go : (o : Option (List ℕ)) → owner_of l (bit_xor (base_of l s) c) ≡ o → check_by o (spare_check a l (bit_xor (base_of l s) c)) ≡ c
          → S (snoc s c) ≡ true
      go none q e = spare e
      go (some w) q e = let r = owner_state a n A S L l F (bit_xor (base_of l s) c) w q in child (ended w) r.0 r.1 e

  -- from a base that is not 0 the check of the cell at base xor c is c, exactly where s has the child c
  pub probe_exact : (s : List ℕ) (c : ℕ) → ((base_of l s ≢ 0) × (check_of a l (bit_xor (base_of l s) c) ≡ c)) ↔ (S (snoc s c) ≡ true)
  probe_exact s c = (
    λ r. accepted_child s c r.0 r.1,
    λ h. (home_based a n A S L l F s (child_home a n A S L l F s c h), rw (← cell_child l s c) (child_check s c h)),
  )

  -- ---- what the cells hold

  module _ (link_of : List ℕ → Link) (place_of : List ℕ → ℕ) where
    pub root_cell : cell_at a l link_of place_of 0 ≡ record { base = base_of l []; link = 0; output = place_of []; check = 0; depth = 0 }
    unfolding cell_at
    root_cell = rw (low_check 0 (omega arith), root_owner)

    pub dead_cell : cell_at a l link_of place_of 1 ≡ record { base = 0; link = 0; output = 0; check = 1; depth = 0 }
    unfolding cell_at
    dead_cell = rw (low_check 1 (omega arith), dead_owner a n A S L l F)

    pub vacant_cell : (j : ℕ) → vacant l j ≡ true
        → cell_at a l link_of place_of j ≡ record { base = 0; link = 0; output = 0; check = check_of a l j; depth = 0 }
    unfolding cell_at
    vacant_cell j v = rw (vacant_owner a n A S L l F j v)

    -- a state's cell, if root links to root
    pub state_cell_lem : link_of [] ≡ to [] → (s : List ℕ) → S s ≡ true
        → cell_at a l link_of place_of (cell_of l s)
        ≡ record {
          base = base_of l s;
          link = link_cell l (link_of s);
          output = place_of s;
          check = check_of a l (cell_of l s);
          depth = length s;
        }
    unfolding cell_at
    state_cell_lem r [] h = rw (state_owner a n A S L l F [] h, r, cell_root l)
    state_cell_lem r (x ∷ xs) h = rw (state_owner a n A S L l F (x ∷ xs) h)

-- the check of a cell, whoever sits there
pub cell_check : (a : ℕ) (l : Layout) (link_of : List ℕ → Link) (place_of : List ℕ → ℕ) (j : ℕ)
    → (cell_at a l link_of place_of j).check ≡ check_of a l j
unfolding cell_at
cell_check a l link_of place_of j = go (owner_of l j)
  where
    go : (o : Option (List ℕ)) → (cell_by l link_of place_of o (check_of a l j)).check ≡ check_of a l j
    go none = refl
    go (some []) = refl
    go (some (x ∷ xs)) = refl

-- ---- the list of cells

pub cells_length : (a : ℕ) (l : Layout) (link_of : List ℕ → Link) (place_of : List ℕ → ℕ) → length (cells a l link_of place_of) ≡ l.blocks * a
unfolding cells
cells_length a l link_of place_of = each_length (cell_at a l link_of place_of) 0 (l.blocks * a)

pub cells_at : (a : ℕ) (l : Layout) (link_of : List ℕ → Link) (place_of : List ℕ → ℕ) (j : ℕ) (d : Cell) → j < l.blocks * a
    → get_or (cells a l link_of place_of) j d ≡ cell_at a l link_of place_of j
unfolding cells
cells_at a l link_of place_of j d h =
    each_get (cell_at a l link_of place_of) 0 (l.blocks * a) j d h ∙ ap (cell_at a l link_of place_of) (zero-add j)
