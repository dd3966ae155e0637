-- What is proved of the readers' answers, in the words of document 01. The proofs stand in ../proofs.
use Rattle.std.specs.Prelude.{◌≡◌, true, false, List, ◌⊎◌, ◌↔◌, ℕ, ◌-◌, ◌≤◌, ◌<◌, length, get_or, Some, None, Ok}
use Rattle.std.specs.Int.Bits.{bit_xor}
use Rattle.zeros.specs.Rows.{field}
use Rattle.table.specs.Slots.{column_slots}
use Rattle.table.specs.Readers.{there, damage, probe_of, link_of, place_of, output_of}

-- so many cells lie within each column
pub record Under (n base link output check depth : ℕ) : Type 0 where
  pub in_base : n ≤ base
  pub in_link : n ≤ link
  pub in_output : n ≤ output
  pub in_check : n ≤ check
  pub in_depth : n ≤ depth

-- the state is a cell with a base other than 0, t is that base xor the byte, t is a cell, and its check is the byte
pub record ChildAt (base check : List ℕ) (cells s c t : ℕ) : Type 0 where
  pub state : there cells (length base) s ≡ true
  pub parent : get_or base s 0 ≡ 0 → ⊥
  pub target : t ≡ bit_xor (get_or base s 0) c
  pub cell : there cells (length check) t ≡ true
  pub byte : get_or check t 0 ≡ c

-- the state is no cell; or it has a base other than 0, and that base xor the byte is no cell
abbrev pub NoCell : List ℕ → List ℕ → ℕ → ℕ → ℕ → Type 0
NoCell base check cells s c =
    (there cells (length base) s ≡ false) ⊎ ((get_or base s 0 ≡ 0 → ⊥) × (there cells (length check) (bit_xor (get_or base s 0) c) ≡ false))

-- t is the state's target, both are cells, and t's depth is smaller
pub record LinksTo (links depth : List ℕ) (cells s t : ℕ) : Type 0 where
  pub linking : there cells (length links) s ≡ true
  pub state : there cells (length depth) s ≡ true
  pub target : t ≡ get_or links s 0
  pub cell : there cells (length depth) t ≡ true
  pub falls : get_or depth t 0 < get_or depth s 0

-- the state is a cell, and p is its output place, which is not 0
pub record BeginsAt (output : List ℕ) (cells s p : ℕ) : Type 0 where
  pub state : there cells (length output) s ≡ true
  pub place : p ≡ get_or output s 0
  pub some_place : p ≡ 0 → ⊥

-- the place is one of the outputs and has a row, the three numbers are that row's, the next place is below its own, and the length is
-- neither 0 nor above the end
pub record GivenAt (outs : List (List ℕ)) (accepted place end value size next : ℕ) : Type 0 where
  pub some_place : 1 ≤ place
  pub inside : place ≤ accepted
  pub lent : place ≤ length outs
  pub value_is : value ≡ field outs (place - 1) 0
  pub size_is : size ≡ field outs (place - 1) 1
  pub next_is : next ≡ field outs (place - 1) 2
  pub falls : next < place
  pub filled : 1 ≤ size
  pub fits : size ≤ end

-- a place other than 0 that is past the outputs or past the rows, or whose next place isn't below it, or whose length is 0 or above the end
abbrev pub BrokenAt : List (List ℕ) → ℕ → ℕ → ℕ → Type 0
BrokenAt outs accepted place end =
    (place ≡ 0 → ⊥)
    × ((accepted < place)
    ⊎ ((length outs < place)
    ⊎ ((place ≤ field outs (place - 1) 2) ⊎ ((field outs (place - 1) 1 ≡ 0) ⊎ (end < field outs (place - 1) 1)))))

-- what is proved of the readers
pub record ReaderClaims : Type 0 where
  -- a cell of a column is there exactly if it is one of the cells in use and the column has it
  pub is_there : (cells slots i : ℕ) → (there cells slots i ≡ true) ↔ ((i < cells) × (i < slots))
  -- what lies within the slots of the cells lies within each column
  pub in_columns : (n base link output check depth : ℕ) → n ≤ column_slots base link output check depth → Under n base link output check depth
  -- a probe finds t exactly if t is the state's child on the byte
  pub finds : (base check : List ℕ) (cells s c t : ℕ) → (probe_of base check cells s c ≡ Ok (Some (record { 0 = t }))) ↔ ChildAt base check cells s c t
  -- from base 0 nothing is found, whatever the other cells hold
  pub childless : (base check : List ℕ) (cells s c : ℕ) → there cells (length base) s ≡ true → get_or base s 0 ≡ 0
      → probe_of base check cells s c ≡ Ok None
  -- a probe tells damage exactly if it would need a cell that is not there
  pub damaged : (base check : List ℕ) (cells s c : ℕ) → (probe_of base check cells s c ≡ damage) ↔ NoCell base check cells s c
  -- a link leads to t exactly if t is the state's target, both are cells, and t's depth is smaller; all else is damage
  pub leads : (links depth : List ℕ) (cells s t : ℕ) → (link_of links depth cells s ≡ Ok (record { 0 = t })) ↔ LinksTo links depth cells s t
  -- the outputs of a state begin at p exactly if p is the place in the state's cell and is not 0
  pub begins_at : (output : List ℕ) (cells s p : ℕ) → (place_of output cells s ≡ Ok (Some p)) ↔ BeginsAt output cells s p
  -- a state has no outputs exactly if its cell has place 0
  pub without : (output : List ℕ) (cells s : ℕ)
      → (place_of output cells s ≡ Ok None) ↔ ((there cells (length output) s ≡ true) × (get_or output s 0 ≡ 0))
  -- its place is damaged exactly if the state is no cell
  pub astray : (output : List ℕ) (cells s : ℕ) → (place_of output cells s ≡ damage) ↔ (there cells (length output) s ≡ false)
  -- an output is given exactly if all of it is sound
  pub given : (outs : List (List ℕ)) (accepted place end value size next : ℕ)
      → (output_of outs accepted place end ≡ Ok (Some (record { value = value; length = size; next = next })))
      ↔ GivenAt outs accepted place end value size next
  -- there is nothing exactly at place 0
  pub ended : (outs : List (List ℕ)) (accepted place end : ℕ) → (output_of outs accepted place end ≡ Ok None) ↔ (place ≡ 0)
  -- an output is damaged exactly if its place is past the outputs, its next place isn't below it, or its length is 0 or above the end
  pub broken : (outs : List (List ℕ)) (accepted place end : ℕ)
      → (output_of outs accepted place end ≡ damage) ↔ BrokenAt outs accepted place end
