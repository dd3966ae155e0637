-- Sibling groups: a state with its child bytes, and the order in which document 01 takes them, depth first from a stack on which the
-- children go by rising byte. Here without a stack: a state's group, then the groups of its subtrees, the highest byte's first.
use Rattle.std.specs.Prelude.{◌≡◌, Bool, ◌↔◌, ℕ, zero, suc}
use mathlib.Core.List.{List, [], ◌∷◌, ◌++◌, reverse, Memᴰ}
use Rattle.paper.specs.Lists.{snoc, Sorted}
use Rattle.plan.specs.Breadth.{kid_bytes, kids}

-- a state, its lowest child byte, and its further child bytes, rising: a group is never empty
pub record Group : Type 0 where
  pub parent : List ℕ
  pub low : ℕ
  pub more : List ℕ

-- the child bytes of a group
abbrev pub bytes_of : Group → List ℕ
bytes_of g = g.low ∷ g.more

-- the group of a state with these child bytes; a childless state has none
abbrev pub group_of : List ℕ → List ℕ → List Group
group_of s [] = []
group_of s (c ∷ cs) = record { parent = s; low = c; more = cs } ∷ []

-- the group of a state, if it has children
abbrev pub own_group : ℕ → (List ℕ → Bool) → List ℕ → List Group
own_group a S s = group_of s (kid_bytes a S s)

-- f of each element, joined
unfoldable pub joined {ℓ} : {A B : Type ℓ} → (A → List B) → List A → List B
joined f [] = []
joined f (x ∷ xs) = f x ++ joined f xs

-- the groups of s and of all below it. The number bounds the depth; as many as the longest state has bytes is enough.
unfoldable pub groups_from : ℕ → (List ℕ → Bool) → ℕ → List ℕ → List Group
groups_from a S zero s = []
groups_from a S (suc d) s = own_group a S s ++ joined (λ t. groups_from a S d t) (reverse (kids a S s))

-- the groups of the states, no state being longer than n
unfoldable pub groups : ℕ → (List ℕ → Bool) → ℕ → List Group
groups a S n = groups_from a S (suc n) []

-- the groups that a stack stands for, from its top on
unfoldable pub flat : ℕ → (List ℕ → Bool) → ℕ → List (List ℕ) → List Group
flat a S n stack = joined (groups_from a S (suc n)) stack

-- the two are groups of different states
abbrev pub OtherParent : Group → Group → Type 0
OtherParent g h = g.parent ≡ h.parent → ⊥

-- the first is not the group of a child of the second's state
abbrev pub NotBelow : Group → Group → Type 0
NotBelow g h = (c : ℕ) → g.parent ≡ snoc h.parent c → ⊥

-- a list of all groups, in any order: exactly those whose bytes are their state's child bytes, and no state twice
pub record Grouping (a : ℕ) (S : List ℕ → Bool) (gs : List Group) : Type 0 where
  pub exact : (g : Group) → Memᴰ g gs ↔ (kid_bytes a S g.parent ≡ bytes_of g)
  pub once : Sorted OtherParent gs
