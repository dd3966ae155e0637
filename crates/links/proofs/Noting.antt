-- What the two writes of a child leave.
use mathlib.Core.Path.{◌≡◌, refl, ◌∙◌}
use mathlib.Core.List.{List, [], ◌∷◌}
use Prim.Native.Nat.{ℕ, ◌<◌}
use native.Mathlib.Omega.{arith}
use lib.ListN.{length, length-set}
use Rattle.zeros.specs.Rows.{field}
use Rattle.zeros.proofs.Rows.{field_set_same, field_set_other}
use Rattle.trie.proofs.Inserting.{kept_field}
use Rattle.links.specs.Notes.{notes_of, with_order, with_link}
use Rattle.links.specs.Queue.{Noted}

-- one link anew
pub link_here : (rows : List (List ℕ)) (s v : ℕ) → s < length rows → field (with_link rows s v) s 1 ≡ v
link_here rows s v h = field_set_same rows s 1 _ h

pub link_else : (rows : List (List ℕ)) (s v k : ℕ) → (k ≡ s → ⊥) → field (with_link rows s v) k 1 ≡ field rows k 1
link_else rows s v k n = field_set_other rows s k 1 _ n

pub link_order : (rows : List (List ℕ)) (s v : ℕ) → s < length rows → (i : ℕ) → field (with_link rows s v) i 0 ≡ field rows i 0
link_order rows s v h = kept_field rows s 0 _ h refl

pub noted : (rows : List (List ℕ)) (t v end : ℕ) → t < length rows → end < length rows → Noted (notes_of rows) (notes_of (with_order (with_link rows t v) end t)) t v end
noted rows t v end h l =
    let mid : List (List ℕ) = with_link rows t v in
    let r : List ℕ = field rows t 0 ∷ v ∷ field rows t 2 ∷ field rows t 3 ∷ field rows t 4 ∷ field rows t 5 ∷ [] in
    let long : end < length mid = omega (arith, length-set rows t r) in
    record {
      link_new = kept_field mid end 1 _ long refl t ∙ link_here rows t v h;
      link_old = λ k n. kept_field mid end 1 _ long refl k ∙ link_else rows t v k n;
      order_new = field_set_same mid end 0 _ long;
      order_old = λ i n. field_set_other mid end i 0 _ n ∙ link_order rows t v h i;
    }

-- root's two notes
pub record Rooted (rows : List (List ℕ)) (long : ℕ) : Type 0 where
  pub order : field rows 0 0 ≡ 0
  pub link : field rows 0 1 ≡ 0
  pub same : length rows ≡ long

pub rooted : (rows : List (List ℕ)) → 0 < length rows → Rooted (with_link (with_order rows 0 0) 0 0) (length rows)
rooted rows h =
    let r : List ℕ = 0 ∷ field rows 0 1 ∷ field rows 0 2 ∷ field rows 0 3 ∷ field rows 0 4 ∷ field rows 0 5 ∷ [] in
    let mid : List (List ℕ) = with_order rows 0 0 in
    let long : length mid ≡ length rows = length-set rows 0 r in
    record {
      order = link_order mid 0 0 (omega arith) 0 ∙ field_set_same rows 0 0 r h;
      link = link_here mid 0 0 (omega arith);
      same = length-set mid 0 (field mid 0 0 ∷ 0 ∷ field mid 0 2 ∷ field mid 0 3 ∷ field mid 0 4 ∷ field mid 0 5 ∷ []) ∙ long;
    }
