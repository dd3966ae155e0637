-- What is read for a state and for a cell, by the cases of the code.
use mathlib.Core.Path.{◌≡◌}
use mathlib.Core.Bool.{true}
use mathlib.Core.List.{List}
use Prim.Native.Nat.{ℕ, ◌≤◌, ◌<◌}
use lib.Bits.{bit_xor}
use lib.Dec.{eqb}
use Rattle.zeros.specs.Rows.{field}
use Rattle.std.proofs.lemmas.Bool.{eq-eqb, ne_eqb, lt-ltb, le-ltb}
use Rattle.cells.specs.Writing.{seat_of, group_base, own_byte, is_spare}

module _ (trie notes : List (List ℕ)) (s : ℕ) where
  pub childless : field trie s 0 ≡ 0 → group_base trie notes s ≡ 0
  unfolding group_base
  childless z = rw (eq-eqb (field trie s 0) 0 z)

  pub by_first : (field trie s 0 ≡ 0 → ⊥) → group_base trie notes s ≡ bit_xor (seat_of notes (field trie s 0)) (field trie (field trie s 0) 2)
  unfolding group_base
  by_first n = rw (ne_eqb (field trie s 0) 0 n)

  pub no_byte : s ≡ 0 → own_byte trie s ≡ 0
  unfolding own_byte
  no_byte z = rw (eq-eqb s 0 z)

  pub own_byte_lem : (s ≡ 0 → ⊥) → own_byte trie s ≡ field trie s 2
  unfolding own_byte
  own_byte_lem n = rw (ne_eqb s 0 n)

module _ (spots : List (List ℕ)) (j : ℕ) where
  pub low_spare : j < 2 → is_spare spots j ≡ true
  unfolding is_spare
  low_spare h = rw (lt-ltb j 2 h)

  pub high_spare : 2 ≤ j → is_spare spots j ≡ eqb (field spots j 0) 0
  unfolding is_spare
  high_spare h = rw (le-ltb j 2 h)
