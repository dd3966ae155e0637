-- One state's own outputs on a chain: what is asked of the tables, and what they hold then. The entries of a pile stand last first.
use Rattle.std.specs.Prelude.{◌≡◌, ℕ, ◌+◌, ◌≤◌, ◌<◌, length}
use mathlib.Core.List.{List, Memᴰ}
use Rattle.std.proofs.lemmas.List.Edits.{sets}
use Rattle.paper.specs.Patterns.{Entry}
use Rattle.list.specs.Limits.{most_listed}
use Rattle.zeros.specs.Rows.{field}
use Rattle.plan.specs.Outputs.{piled, top_of}
use Rattle.trie.specs.Owned.{owns_of, Pile}
use Rattle.links.specs.Notes.{with_place}
use Rattle.outputs.specs.Rows.{out_rows}

-- every entry has this many bytes
abbrev pub Sized : ℕ → List Entry → Type 0
Sized size own = (x : Entry) → Memᴰ x own → length x.word ≡ size

-- from `first` on lies a pile, its rows have values, and after `stored` outputs there are slots for it
pub record Stackable (owns : List (List ℕ)) (values : List ℕ) (slots first stored : ℕ) : Type 0 where
  pub own : List Entry
  pub bound : ℕ
  pub within : bound ≤ length owns
  pub pile : Pile (owns_of owns) bound first own
  pub valued : (x : Entry) → Memᴰ x own → x.row < length values
  pub room : stored + length own ≤ slots
  pub few : stored + length own ≤ most_listed

-- the pile is stored on the chain that begins at `head`
pub record OnChain (values : List ℕ) (own : List Entry) (stored head : ℕ) (outs₀ outs : List (List ℕ)) (count top : ℕ) : Type 0 where
  pub count_is : count ≡ stored + length own
  pub top_is : top ≡ top_of own stored head
  pub rows : outs ≡ sets outs₀ stored (out_rows values (piled own stored head))

-- the own outputs of state s are stored on the chain of the state that it links to, and s has their place
pub record Stacked (values : List ℕ) (own : List Entry) (s stored : ℕ) (notes₀ notes outs₀ outs : List (List ℕ)) (count : ℕ) : Type 0 where
  pub top : ℕ
  pub chain : OnChain values own stored (field notes₀ (field notes₀ s 1) 2) outs₀ outs count top
  pub noted : notes ≡ with_place notes₀ s top
