-- The walk, on any tables: a byte of it, and where a value is moved on by a byte.
use Rattle.std.specs.Prelude.{Bool, ◌&&◌, List, ℕ, zero, suc, ◌+◌, eqb, get_or, Option, Some, None, Result, Ok, Err}
use Rattle.paper.specs.Lists.{pick}
use Rattle.table.specs.Readers.{place_of}
use Rattle.table.specs.Agrees.{Tables, probe_in, link_in}
use Rattle.table.specs.declared.CellId.{CellId}
use Rattle.table.specs.declared.Damage.{Damage}
use Rattle.table.specs.Readers.{damage}
use Rattle.search.specs.declared.Search.{Search}
use Rattle.search.specs.Values.{root, dead, cell, value_of}

-- ---- what follows from a reader's answer

-- what is given, as a child or an output; nothing; or damage
abbrev pub on_given : {A B : Type 0} → Result (Option B) Damage → (B → A) → A → A → A
on_given (Ok (Some x)) f nothing broken = f x
on_given (Ok None) f nothing broken = nothing
on_given (Err _) f nothing broken = broken

-- what is sound, as a target or a value; or damage
abbrev pub on_sound : {A B : Type 0} → Result B Damage → (B → A) → A → A
on_sound (Ok x) f broken = f x
on_sound (Err _) f broken = broken

-- the place of the first output, 0 for none, or damage
abbrev pub on_begins : {A : Type 0} → Result (Option ℕ) Damage → (ℕ → A) → A → A
on_begins (Ok (Some p)) f broken = f p
on_begins (Ok None) f broken = f 0
on_begins (Err _) f broken = broken

-- ---- a byte

-- the byte is taken, and the state is this one: one move
abbrev pub byte_taken : CellId → ℕ → Result (CellId × ℕ) Damage
byte_taken s moves = Ok (s, moves + 1)

-- the walk falls to root at a link to this cell: a leftmost walk does at dead
abbrev pub falls_at : Bool → CellId → Bool
falls_at leftmost target = leftmost && eqb target.0 dead

-- the state after a byte, and the moves: links are followed until a state has the byte or root is reached, then it is taken, each of them one
-- move. The first number bounds the links; since depths fall along links, one more than the state's depth is enough.
unfoldable pub take_of : ℕ → Bool → (ℕ → ℕ → Result (Option CellId) Damage) → (ℕ → Result CellId Damage) → CellId → ℕ → ℕ → Result (CellId × ℕ) Damage
take_of zero leftmost probe link s c moves = damage
take_of (suc n) leftmost probe link s c moves =
    on_given (probe s.0 c) (λ child. byte_taken child moves)
    (pick (eqb s.0 root) (byte_taken (cell root) moves)
    (on_sound (link s.0)
    (λ target. pick (falls_at leftmost target) (byte_taken (cell root) (moves + 1)) (take_of n leftmost probe link target c (moves + 1)))
    damage))
    damage

-- the same on these tables
abbrev pub take_in : Bool → Tables → CellId → ℕ → ℕ → Result (CellId × ℕ) Damage
take_in leftmost T s c moves = take_of (suc (get_or T.depth s.0 0)) leftmost (probe_in T) (link_in T) s c moves

-- ---- a value

-- a state and the moves, or damage
abbrev pub on_taken : {A : Type 0} → Result (CellId × ℕ) Damage → (CellId → ℕ → A) → A → A
on_taken (Ok p) f broken = f p.0 p.1
on_taken (Err _) f broken = broken

-- where the outputs begin that a walk gives at a state; a leftmost walk gives none at root
abbrev pub begins_of : Bool → List ℕ → ℕ → CellId → Result (Option ℕ) Damage
begins_of leftmost output cells s = pick (leftmost && eqb s.0 root) (Ok None) (place_of output cells s.0)

-- the same on these tables
abbrev pub begins_in : Bool → Tables → CellId → Result (Option ℕ) Damage
begins_in leftmost T s = begins_of leftmost T.output T.cells s

-- the value after one byte more
unfoldable pub step_of : Bool → Tables → Search → ℕ → Result Search Damage
step_of leftmost T v c =
    on_taken (take_in leftmost T v.state c v.moves)
    (λ s moves. on_begins (begins_in leftmost T s) (λ p. Ok (value_of s p (v.place + 1) moves)) damage)
    damage
