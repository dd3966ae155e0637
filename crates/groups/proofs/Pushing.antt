-- The children of a state on the stack: each goes above those before it, and the fields below the stack's stay.
use mathlib.Core.Path.{◌≡◌, refl, sym, ap, ◌∙◌, subst}
use mathlib.Core.List.{List, [], ◌∷◌, map, reverse_aux, reverse_aux-eq}
use Prim.Native.Nat.{ℕ, zero, suc, ◌+◌, ◌≤◌, ◌<◌}
use native.Mathlib.Omega.{arith}
use lib.ListN.{length}
use Rattle.zeros.specs.Rows.{field}
use Rattle.zeros.proofs.Rows.{field_set_same, field_set_other}
use Rattle.paper.specs.Lists.{snoc}
use Rattle.paper.specs.Patterns.{Entry}
use Rattle.paper.specs.Automaton.{is_state}
use Rattle.list.specs.Limits.{alphabet}
use Rattle.plan.specs.Names.{names}
use Rattle.plan.specs.Breadth.{kid_bytes, kids}
use Rattle.trie.specs.Trie.{slots_of}
use Rattle.trie.specs.Stands.{Stands}
use Rattle.trie.proofs.Inserting.{kept_field}
use Rattle.trie.proofs.Walks.{Walk, walk_begin, walk_end, walk_first, walk_next, walk_kid, rest}
use Rattle.links.specs.Linked.{Named}
use Rattle.groups.specs.Ordered.{with_stacked}
use Rattle.groups.specs.Stack.{Stack, with_kids, Pushable, Pushed}

-- a stack stays where its heights do
pub stack_same : (ns notes later stack : List (List ℕ)) → ((i : ℕ) → i < length stack → field later i 4 ≡ field notes i 4)
    → Stack ns notes stack → Stack ns later stack
stack_same ns notes later [] h k = tt
stack_same ns notes later (s ∷ below) h k =
    (rw (h (length below) (omega arith)) k.0, stack_same ns notes later below (λ i l. h i (omega arith)) k.1)

-- one height anew: the fields below the stack's stay everywhere
pub stacked_keeps : (rows : List (List ℕ)) (i v : ℕ) → i < length rows → (k f : ℕ) → f < 4 → field (with_stacked rows i v) k f ≡ field rows k f
stacked_keeps rows i v h k zero l = kept_field rows i 0 _ h refl k
stacked_keeps rows i v h k (suc zero) l = kept_field rows i 1 _ h refl k
stacked_keeps rows i v h k (suc (suc zero)) l = kept_field rows i 2 _ h refl k
stacked_keeps rows i v h k (suc (suc (suc zero))) l = kept_field rows i 3 _ h refl k
stacked_keeps rows i v h k (suc (suc (suc (suc f)))) l = absurd (omega arith)

pub stacked_here : (rows : List (List ℕ)) (i v : ℕ) → i < length rows → field (with_stacked rows i v) i 4 ≡ v
stacked_here rows i v h = field_set_same rows i 4 _ h

-- a state on top
stack_more : (ns notes stack : List (List ℕ)) (t : ℕ) (s : List ℕ) → length stack < length notes → Named ns t s → Stack ns notes stack
    → Stack ns (with_stacked notes (length stack) t) (s ∷ stack)
stack_more ns notes stack t s h n k = (
  rw (stacked_here notes (length stack) t h) n,
  stack_same ns notes (with_stacked notes (length stack) t) stack (λ i l. field_set_other notes (length stack) i 4 _ (λ e. omega arith)) k,
)

turned_long : (l r : List (List ℕ)) → length r ≤ length (reverse_aux l r)
turned_long [] r = omega arith
turned_long (x ∷ l) r = omega (arith, turned_long l (x ∷ r))

-- along the children of u: with those that are left the stack will be whole
pub record Pushing (es : List Entry) (notes₀ notes : List (List ℕ)) (u : List ℕ) (whole : List (List ℕ)) (top t : ℕ) : Type 0 where
  pub left : List ℕ
  pub walk : Walk es u left t
  pub stack : List (List ℕ)
  pub top_is : top ≡ length stack
  pub stack_is : Stack (names alphabet es) notes stack
  pub to_come : reverse_aux (map (snoc u) left) stack ≡ whole
  pub kept : (k f : ℕ) → f < 4 → field notes k f ≡ field notes₀ k f

pub begun : {es : List Entry} {trie notes : List (List ℕ)} {s height : ℕ} {u : List ℕ} {stack : List (List ℕ)}
    → Pushable es trie notes s height u stack → Pushing es notes notes u (with_kids es u stack) height ((slots_of trie).first s)
unfolding kids
begun {es} {trie} {notes} {s} {height} {u} {stack} P =
    record {
      left = kid_bytes alphabet (is_state es) u;
      walk = subst (λ (w : List ℕ). Walk es w (kid_bytes alphabet (is_state es) w) ((slots_of trie).first s)) P.named.is
          (walk_begin P.stands s P.named.inside);
      stack = stack;
      top_is = P.height_is;
      stack_is = P.stack_is;
      to_come = reverse_aux-eq (map (snoc u) (kid_bytes alphabet (is_state es) u)) stack;
      kept = λ k f l. refl;
    }

module _ {es : List Entry} {trie notes₀ notes : List (List ℕ)} (T : Stands es trie) {u : List ℕ} {whole : List (List ℕ)} {top t : ℕ}
    (A : Pushing es notes₀ notes u whole top t) where
  module _ (nz : t ≡ 0 → ⊥) where
    abbrev kid : List ℕ
    kid = snoc u ((slots_of trie).label t)

    next : reverse_aux (map (snoc u) (rest T A.walk nz)) (kid ∷ A.stack) ≡ whole
    next = ap (λ (l : List ℕ). reverse_aux (map (snoc u) l) A.stack) (sym (walk_first T A.walk nz)) ∙ A.to_come

    -- the stack is not whole yet
    pub higher : top < length whole
    higher = omega (arith, A.top_is, turned_long (map (snoc u) (rest T A.walk nz)) (kid ∷ A.stack), ap length next)

    kid_named : Named (names alphabet es) t kid
    kid_named = let k = walk_kid T A.walk nz in record { inside = k.inside; apart = λ e. omega (arith, k.above); is = k.named }

    pub onward : top < length notes → Pushing es notes₀ (with_stacked notes top t) u whole (top + 1) ((slots_of trie).sibling t)
    onward h =
        record {
          left = rest T A.walk nz;
          walk = walk_next T A.walk nz;
          stack = kid ∷ A.stack;
          top_is = omega (arith, A.top_is);
          stack_is = subst (λ (m : ℕ). Stack (names alphabet es) (with_stacked notes m t) (kid ∷ A.stack)) (sym A.top_is)
              (stack_more (names alphabet es) notes A.stack t kid (omega (arith, A.top_is)) kid_named A.stack_is);
          to_come = next;
          kept = λ k f l. stacked_keeps notes top t h k f l ∙ A.kept k f l;
        }

  pub ended : (stack : List (List ℕ)) → whole ≡ with_kids es u stack → t ≡ 0 → Pushed es notes₀ notes top u stack
  ended stack e z =
      let all : A.stack ≡ with_kids es u stack =
      ap (λ (l : List ℕ). reverse_aux (map (snoc u) l) A.stack) (sym (walk_end T A.walk z)) ∙ A.to_come ∙ e in
      record {
        height_is = A.top_is ∙ ap length all;
        stack_is = subst (Stack (names alphabet es) notes) all A.stack_is;
        kept = A.kept;
      }
