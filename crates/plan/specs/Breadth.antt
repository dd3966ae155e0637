-- The states breadth first: by length, then by the place of the parent, then by byte. The number of letters `a` is an argument.
use Rattle.std.specs.Prelude.{◌≡◌, Bool, true, ◌↔◌, ℕ, zero, suc, ◌≤◌, ◌<◌, length}
use mathlib.Core.List.{List, [], ◌∷◌, ◌++◌, map, Memᴰ}
use Rattle.paper.specs.Lists.{snoc, those, each, Sorted}
use Rattle.paper.specs.Patterns.{Entry}

-- the bytes on which s has a child, rising
unfoldable pub kid_bytes : ℕ → (List ℕ → Bool) → List ℕ → List ℕ
kid_bytes a S s = those (λ c. S (snoc s c)) (each 0 a (λ c. c ∷ []))

-- the children of s by rising byte
unfoldable pub kids : ℕ → (List ℕ → Bool) → List ℕ → List (List ℕ)
kids a S s = map (snoc s) (kid_bytes a S s)

-- the children of some states, in their order
unfoldable pub below : ℕ → (List ℕ → Bool) → List (List ℕ) → List (List ℕ)
below a S [] = []
below a S (s ∷ ss) = kids a S s ++ below a S ss

-- the states of length d
unfoldable pub level : ℕ → (List ℕ → Bool) → ℕ → List (List ℕ)
level a S zero = [] ∷ []
level a S (suc d) = below a S (level a S d)

-- breadth first: the states of the lengths 0 to n
unfoldable pub breadth : ℕ → (List ℕ → Bool) → ℕ → List (List ℕ)
breadth a S n = each 0 (suc n) (level a S)

-- what the laws ask of a set of states: a set of states over a letters, none longer than n
pub record Bounded (a n : ℕ) (S : List ℕ → Bool) : Type 0 where
  pub root : S [] ≡ true
  pub closed : (s : List ℕ) (c : ℕ) → S (snoc s c) ≡ true → S s ≡ true
  pub byte : (s : List ℕ) (c : ℕ) → S (snoc s c) ≡ true → c < a
  pub short : (s : List ℕ) → S s ≡ true → length s ≤ n

-- what this asks of a list of patterns: letters below a, no pattern longer than n
pub record Within (a n : ℕ) (es : List Entry) : Type 0 where
  pub letters : (x : Entry) → Memᴰ x es → (c : ℕ) → Memᴰ c x.word → c < a
  pub short : (x : Entry) → Memᴰ x es → length x.word ≤ n

-- the two differ
abbrev pub Apart : List ℕ → List ℕ → Type 0
Apart x y = x ≡ y → ⊥

-- the first is no longer
abbrev pub NoLonger : List ℕ → List ℕ → Type 0
NoLonger x y = length x ≤ length y

-- a list of the states: exactly these, none twice, shorter ones first
pub record Listing (S : List ℕ → Bool) (B : List (List ℕ)) : Type 0 where
  pub exact : (s : List ℕ) → Memᴰ s B ↔ (S s ≡ true)
  pub once : Sorted Apart B
  pub rising : Sorted NoLonger B
