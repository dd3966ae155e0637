-- How outputs are stored, over strings: one list of all outputs, in which each output has the place of the next one of its chain.
-- A state's own outputs are piled on the chain of the state that it links to, so that chains share their ends.
use Rattle.std.specs.Prelude.{◌≡◌, List, [], ◌∷◌, ◌++◌, reverse, ℕ, zero, suc, ◌+◌, ◌≤◌, ◌<◌, length, get_or}
use Rattle.paper.specs.Lists.{pick, same, is_nil}
use Rattle.paper.specs.Patterns.{Entry}
use Rattle.paper.specs.Automaton.{Machine, Link, dead, to, link}

-- a stored output: its row, its length, and the place of the next one in the chain, 0 for none
pub record Out : Type 0 where
  pub row : ℕ
  pub size : ℕ
  pub next : ℕ

-- what is stored so far, and where each state's chain begins: places count from 1, and 0 is none
pub record Stored : Type 0 where
  pub outs : List Out
  pub place : List ℕ → ℕ

-- entries one on the other, the first on `head` and each next on the one before; n are stored already
unfoldable pub piled : List Entry → ℕ → ℕ → List Out
piled [] n head = []
piled (x ∷ xs) n head = record { row = x.row; size = length x.word; next = head } ∷ piled xs (suc n) (suc n)

-- where the chain begins then: at the last of the pile, or at `head` if the pile is empty
abbrev pub top_of : List Entry → ℕ → ℕ → ℕ
top_of l n head = pick (is_nil l) head (n + length l)

-- where the chain of a link's target begins; dead has none
abbrev pub place_at : Stored → Link → ℕ
place_at e dead = 0
place_at e (to r) = e.place r

-- a state's own outputs, last first, on the chain of the state that it links to; so the chain shows them in list order
unfoldable pub store : Machine → Stored → List ℕ → Stored
store M e s =
    let mine = reverse (M.own s) in
    let n = length e.outs in
    let head = place_at e (link M s) in
    record { outs = e.outs ++ piled mine n head; place = λ w. pick (same w s) (top_of mine n head) (e.place w) }

-- the states in turn
unfoldable pub store_all : Machine → Stored → List (List ℕ) → Stored
store_all M e [] = e
store_all M e (s ∷ ss) = store_all M (store M e s) ss

-- before the first
abbrev pub nothing : Stored
nothing = record { outs = []; place = λ w. 0 }

-- what is read where no output is
abbrev pub no_out : Out
no_out = record { row = 0; size = 0; next = 0 }

-- the output at a place
abbrev pub out_at : List Out → ℕ → Out
out_at outs zero = no_out
out_at outs (suc k) = get_or outs k no_out

-- at place p there is an output, it is the entry's, and the next one's place is below p
pub record Shows (outs : List Out) (p : ℕ) (x : Entry) : Type 0 where
  pub some_place : 0 < p
  pub within : p ≤ length outs
  pub same_row : (out_at outs p).row ≡ x.row
  pub same_size : (out_at outs p).size ≡ length x.word
  pub falls : (out_at outs p).next < p

-- the chain from a place lists these entries
abbrev pub Chained : List Out → ℕ → List Entry → Type 0
Chained outs p [] = p ≡ 0
Chained outs p (x ∷ xs) = Shows outs p x × Chained outs (out_at outs p).next xs
