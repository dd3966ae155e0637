-- The trial of a base: along the children of a state, as long as their cells are vacant.
use mathlib.Core.Path.{◌≡◌, refl, sym, ap, ◌∙◌}
use mathlib.Core.Bool.{Bool, true, false, not, ◌&&◌}
use mathlib.Core.List.{List, []}
use Prim.Native.Nat.{ℕ, ◌<◌}
use native.Mathlib.Omega.{arith}
use lib.Bits.{bit_xor}
use lib.Dec.{eqb}
use lib.ListN.{length, get_or}
use Rattle.zeros.specs.Rows.{field}
use Rattle.paper.specs.Patterns.{Entry}
use Rattle.std.proofs.lemmas.Bool.{not-true, not-false, eq-eqb, ne_eqb}
use Rattle.list.specs.Limits.{alphabet}
use Rattle.plan.specs.Names.{names}
use Rattle.plan.specs.Groups.{Group}
use Rattle.plan.specs.Placement.{Layout, all_of, vacant, used_base, fits}
use Rattle.plan.proofs.Xor.{xor_below}
use Rattle.trie.proofs.Walks.{Walk, walk_begin, walk_end, walk_kid, walk_first, walk_next, rest}
use Rattle.spots.specs.Charted.{Try, GroupAt, room_at}
use Rattle.spots.proofs.Charting.{bytes}

-- the cells of these bytes are vacant at the base
abbrev pub vacant_at : Layout → ℕ → List ℕ → Bool
vacant_at l base left = all_of (λ c. vacant l (bit_xor base c)) left

-- the trial stands at the child t: what is left to try settles the whole
pub record Trying (es : List Entry) (l : Layout) (s base t : ℕ) : Type 0 where
  pub left : List ℕ
  pub walk : Walk es (get_or (names alphabet es) s []) left t
  pub same : vacant_at l base left ≡ room_at es l s base

module _ {es : List Entry} {l : Layout} {trie rows : List (List ℕ)} {s base : ℕ} (R : Try es l trie rows s base) where
  pub try_base : base < length rows
  try_base = omega (arith, R.below, R.room)

  pub trying : Trying es l s base (field trie s 0)
  trying = record { left = _; walk = walk_begin R.stands s R.inside; same = refl }

  module _ {t : ℕ} (A : Trying es l s base t) where
    module _ (nz : t ≡ 0 → ⊥) where
      pub try_cell : bit_xor base (field trie t 2) < length rows
      try_cell =
          omega (arith, xor_below alphabet bytes base (field trie t 2) R.blocks (walk_kid R.stands A.walk nz).byte R.below, R.room)

      -- whether its cell is vacant
      try_vacant : eqb (field rows (bit_xor base (field trie t 2)) 0) 0 ≡ vacant l (bit_xor base (field trie t 2))
      try_vacant = R.charted.vacancy (bit_xor base (field trie t 2)) try_cell

      try_first : (vacant l (bit_xor base (field trie t 2)) && vacant_at l base (rest R.stands A.walk nz)) ≡ room_at es l s base
      unfolding all_of
      try_first = sym (ap (vacant_at l base) (walk_first R.stands A.walk nz)) ∙ A.same

      -- the trial of its cell
      try_cell_is : {byte : ℕ} {b : Bool} → byte ≡ field trie t 2 → eqb (field rows (bit_xor base byte) 0) 0 ≡ b
          → (b && vacant_at l base (rest R.stands A.walk nz)) ≡ room_at es l s base
      try_cell_is {byte} {b} e v =
          ap (λ (x : Bool). x && vacant_at l base (rest R.stands A.walk nz))
          (sym v ∙ ap (λ (c : ℕ). eqb (field rows (bit_xor base c) 0) 0) e ∙ try_vacant)
          ∙ try_first

      pub try_more : {byte : ℕ} → byte ≡ field trie t 2 → eqb (field rows (bit_xor base byte) 0) 0 ≡ true → Trying es l s base (field trie t 1)
      try_more e v =
          record {
            left = rest R.stands A.walk nz;
            walk = walk_next R.stands A.walk nz;
            same = try_cell_is e v;
          }

      pub try_fails : {byte : ℕ} → byte ≡ field trie t 2 → eqb (field rows (bit_xor base byte) 0) 0 ≡ false → false ≡ room_at es l s base
      try_fails e v = try_cell_is e v

    pub try_ends : t ≡ 0 → true ≡ room_at es l s base
    unfolding all_of
    try_ends z = sym (ap (vacant_at l base) (walk_end R.stands A.walk z)) ∙ A.same

  -- ---- whether the state may have the base

  pub fits_not_zero : (g : Group) → base ≡ 0 → false ≡ fits l g base
  unfolding fits
  fits_not_zero g z = rw (eq-eqb base 0 z)

  pub fits_not_used : (g : Group) → (base ≡ 0 → ⊥) → not (eqb (field rows base 1) 0) ≡ true → false ≡ fits l g base
  unfolding fits
  fits_not_used g nz u =
      let used : used_base l base ≡ true = not-false (used_base l base) (sym (R.charted.bases base try_base) ∙ not-true (eqb (field rows base 1) 0) u) in
      rw (ne_eqb base 0 nz, used)

  pub fits_room : (g : Group) → GroupAt es s g → (base ≡ 0 → ⊥) → not (eqb (field rows base 1) 0) ≡ false → room_at es l s base ≡ fits l g base
  unfolding fits
  fits_room g e nz u =
      let unused : used_base l base ≡ false = not-true (used_base l base) (sym (R.charted.bases base try_base) ∙ not-false (eqb (field rows base 1) 0) u) in
      rw (ne_eqb base 0 nz, unused, e)
