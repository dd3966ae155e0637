-- What the readers of the tables answer, on any tables and any numbers. A column is one field of every cell.
use Rattle.std.specs.Prelude.{Bool, ◌&&◌, List, ℕ, ◌-◌, eqb, ltb, leb, length, get_or, Option, Some, None, Result, Ok, Err}
use Rattle.std.specs.Int.Bits.{bit_xor}
use Rattle.zeros.specs.Rows.{field}
use Rattle.paper.specs.Lists.{pick}
use Rattle.table.specs.declared.CellId.{CellId}
use Rattle.table.specs.declared.Damage.{Damage}
use Rattle.table.specs.declared.Row.{Row}

-- damage: what is needed isn't there, or can't be right
abbrev pub damage : {A : Type 0} → Result A Damage
damage = Err (record {})

-- the cell i is there: it is below the cells, and the column has it
abbrev pub there : ℕ → ℕ → ℕ → Bool
there cells slots i = ltb i cells && ltb i slots

-- a probe: damage where the state or the base xor the byte is no cell; from base 0 nothing is found and no cell is read; else the check decides
unfoldable pub probe_of : List ℕ → List ℕ → ℕ → ℕ → ℕ → Result (Option CellId) Damage
probe_of base check cells s c =
    let t = bit_xor (get_or base s 0) c in
    pick (there cells (length base) s)
    (pick (eqb (get_or base s 0) 0) (Ok None)
    (pick (there cells (length check) t)
    (pick (eqb (get_or check t 0) c) (Ok (Some (record { 0 = t }))) (Ok None))
    damage))
    damage

-- a link: damage where the state or the target is no cell, or the target's depth isn't smaller
unfoldable pub link_of : List ℕ → List ℕ → ℕ → ℕ → Result CellId Damage
link_of links depth cells s =
    let t = get_or links s 0 in
    pick (there cells (length links) s)
    (pick (there cells (length depth) s)
    (pick (there cells (length depth) t)
    (pick (ltb (get_or depth t 0) (get_or depth s 0)) (Ok (record { 0 = t })) damage)
    damage)
    damage)
    damage

-- where the outputs of a state begin: damage where the state is no cell, nothing for place 0
unfoldable pub place_of : List ℕ → ℕ → ℕ → Result (Option ℕ) Damage
place_of output cells s =
    let p = get_or output s 0 in
    pick (there cells (length output) s)
    (pick (eqb p 0) (Ok None) (Ok (Some p)))
    damage

-- a match of this length can end there: it has a byte, and it begins in the text
abbrev pub can_end : ℕ → ℕ → Bool
can_end size end = ltb 0 size && leb size end

-- the output at a place, for a match that ends at `end`: nothing for place 0; damage where the place is past the outputs, the next place isn't
-- below its own, or no match of the length can end there. Rows are value, length, next place; places count from 1.
unfoldable pub output_of : List (List ℕ) → ℕ → ℕ → ℕ → Result (Option Row) Damage
output_of outs accepted place end =
    let i = place - 1 in
    pick (eqb place 0) (Ok None)
    (pick (there accepted (length outs) i)
    (pick (ltb (field outs i 2) place)
    (pick (can_end (field outs i 1) end)
    (Ok (Some (record { value = field outs i 0; length = field outs i 1; next = field outs i 2 })))
    damage)
    damage)
    damage)
