-- The loop of `add_all`: pattern by pattern, and what it accepts is what document 01 accepts.
use mathlib.Core.Path.{◌≡◌, refl, sym, ap, ◌∙◌, subst}
use mathlib.Core.Bool.{Bool, true, false, ◌&&◌, ◌||◌, or_comm, or_assoc}
use mathlib.Core.List.{List, [], ◌∷◌, ◌++◌, append-nil, append_assoc}
use Prim.Native.Nat.{ℕ, ◌+◌, ◌≤◌, ◌<◌}
use native.Mathlib.Numerals.{add-one}
use native.Mathlib.Omega.{arith}
use lib.ListN.{length, get_or, drop, length-append}
use lib.Seq.{drop-cons, drop-length}
use Rattle.paper.specs.Patterns.{Entry, longest, first, Kind, standard, leftmost, rows_from, rows, proper_prefix, barred, keep, accepted}
use Rattle.std.specs.Prelude.{Result, Ok, Err, IsErr}
use Rattle.paper.proofs.Tests.{test, clash}
use Rattle.list.specs.Limits.{alphabet}
use Rattle.plan.specs.Names.{names, names_from, root_and_dead}
use Rattle.plan.proofs.Names.{from_long}
use Rattle.trie.specs.Trie.{Slots}
use Rattle.trie.specs.Owned.{Owns}
use Rattle.trie.specs.Made.{Made, GrewOk, grown_by, drops_of, accept_on, entry}
use Rattle.trie.specs.declared.Grown.{Grown}
use Rattle.trie.specs.declared.FewStates.{FewStates}
use Rattle.trie.proofs.Making.{from_append}

-- ---- acceptance, pattern by pattern, is the paper's

barred_more : (es : List Entry) (x : Entry) (q : List ℕ) → barred (es ++ (x ∷ [])) q ≡ (proper_prefix x.word q || barred es q)
unfolding barred
barred_more [] x q = refl
barred_more (y ∷ es) x q =
    rw (barred_more es x q)
    (sym (or_assoc (proper_prefix y.word q) (proper_prefix x.word q) (barred es q))
    ∙ ap (λ (b : Bool). b || barred es q) (or_comm (proper_prefix y.word q) (proper_prefix x.word q))
    ∙ or_assoc (proper_prefix x.word q) (proper_prefix y.word q) (barred es q))

-- `taken` and the accepted bar the same
accept_keep : (es taken xs : List Entry) → ((q : List ℕ) → barred taken q ≡ barred es q) → accept_on true es xs ≡ es ++ keep taken xs
unfolding accept_on keep barred
accept_keep es taken [] h = sym (append-nil es)
accept_keep es taken (x ∷ xs) h =
    rw (← h x.word)
    (test (barred taken x.word) (λ b. rw b (accept_keep es taken xs h))
    (λ b. rw b
    (accept_keep (es ++ (x ∷ [])) (x ∷ taken) xs (λ q. ap (λ (c : Bool). proper_prefix x.word q || c) (h q) ∙ sym (barred_more es x q))
    ∙ append_assoc es (x ∷ []) (keep (x ∷ taken) xs))))

accept_all : (es xs : List Entry) → accept_on false es xs ≡ es ++ xs
unfolding accept_on
accept_all es [] = sym (append-nil es)
accept_all es (x ∷ xs) = accept_all (es ++ (x ∷ [])) xs ∙ append_assoc es (x ∷ []) xs

pub accept_is : (kind : Kind) (ps : List (List ℕ)) → accept_on (drops_of kind) [] (rows ps) ≡ accepted kind ps
unfolding accepted
accept_is standard ps = accept_all [] (rows ps)
accept_is (leftmost longest) ps = accept_all [] (rows ps)
accept_is (leftmost first) ps = accept_keep [] [] (rows ps) (λ q. refl)

-- ---- the states of more patterns are at least those of fewer

grown_extends : (drops : Bool) (es : List Entry) (x : Entry) → (more : List Entry) × (grown_by drops es x ≡ es ++ more)
grown_extends drops es x =
    test (drops && barred es x.word) (λ h. ([], rw h (sym (append-nil es)))) (λ h. ((x ∷ []), rw h))

accept_extends : (drops : Bool) (es xs : List Entry) → (more : List Entry) × (accept_on drops es xs ≡ es ++ more)
unfolding accept_on
accept_extends drops es [] = ([], sym (append-nil es))
accept_extends drops es (x ∷ xs) =
    let g = grown_extends drops es x in
    let r = accept_extends drops (grown_by drops es x) xs in
    (g.0 ++ r.0, r.1 ∙ ap (λ (l : List Entry). l ++ r.0) g.1 ∙ append_assoc es g.0 r.0)

pub accept_long : (drops : Bool) (es xs : List Entry) → length (names alphabet es) ≤ length (names alphabet (accept_on drops es xs))
unfolding names
accept_long drops es xs =
    let r = accept_extends drops es xs in
    rw (r.1, from_append (root_and_dead alphabet) es r.0) (from_long (names_from (root_and_dead alphabet) es) r.0)

-- ---- the loop

-- i patterns were looked at: the tables are those of the accepted of them, and what is left leads to what the whole list accepts
pub record Looked (drops : Bool) (ps : List (List ℕ)) (K : Slots) (O : Owns) (states count room i : ℕ) : Type 0 where
  pub es : List Entry
  pub made : Made K O states count room es
  pub left : accept_on drops es (rows_from i (drop i ps)) ≡ accept_on drops [] (rows ps)
  pub few : count ≤ i

pub looked_none : (drops : Bool) (ps : List (List ℕ)) (K : Slots) (O : Owns) (room : ℕ) → Made K O 2 0 room [] → Looked drops ps K O 2 0 room 0
looked_none drops ps K O room m = record { es = []; made = m; left = refl; few = omega arith }

module _ {drops : Bool} {ps : List (List ℕ)} {K : Slots} {O : Owns} {states count room i : ℕ} (A : Looked drops ps K O states count room i) where
  -- the pattern whose turn it is
  next_left : i < length ps → accept_on drops (grown_by drops A.es (entry i (get_or ps i []))) (rows_from (i + 1) (drop (i + 1) ps)) ≡ accept_on drops [] (rows ps)
  unfolding accept_on rows_from
  next_left h =
      rw (add-one i) (ap (λ (l : List Entry). accept_on drops A.es l) (sym (ap (rows_from i) (drop-cons ps i [] h))) ∙ A.left)

  pub looked_more : (L : Slots) (P : Owns) (more given : ℕ) (w : List ℕ) → i < length ps → w ≡ get_or ps i []
      → Made L P more given room (grown_by drops A.es (entry i w)) → Looked drops ps L P more given room (i + 1)
  looked_more L P more given w h e q =
      record { es = grown_by drops A.es (entry i (get_or ps i [])); made = m; left = next_left h; few = few }
    where
      m : Made L P more given room (grown_by drops A.es (entry i (get_or ps i [])))
      m = subst (λ (v : List ℕ). Made L P more given room (grown_by drops A.es (entry i v))) e q

      few : given ≤ i + 1
      few =
          let c = m.count_is in
          let d = A.made.count_is in
          test (drops && barred A.es (get_or ps i []))
          (λ e. let k : given ≡ length A.es = rw e at c in omega (arith, A.few))
          (λ e. let k : given ≡ length (A.es ++ (entry i (get_or ps i []) ∷ [])) = rw e at c in omega (arith, A.few, length-append A.es (entry i (get_or ps i []) ∷ [])))

  -- too many states already
  pub looked_full : (slots : ℕ) (w : List ℕ) → i < length ps → w ≡ get_or ps i [] → slots < length (names alphabet (grown_by drops A.es (entry i w)))
      → slots < length (names alphabet (accept_on drops [] (rows ps)))
  looked_full slots w h e l =
      let full : slots < length (names alphabet (grown_by drops A.es (entry i (get_or ps i []))))
      = subst (λ (v : List ℕ). slots < length (names alphabet (grown_by drops A.es (entry i v)))) e l in
      rw (← next_left h) (omega (arith, full, accept_long drops (grown_by drops A.es (entry i (get_or ps i []))) (rows_from (i + 1) (drop (i + 1) ps))))

  pub looked_all : i ≡ length ps → Made K O states count room (accept_on drops [] (rows ps))
  unfolding accept_on rows_from
  looked_all e =
      let none : drop i ps ≡ [] = ap (λ (k : ℕ). drop k ps) e ∙ drop-length ps in
      let same : A.es ≡ accept_on drops [] (rows ps) = ap (λ (l : List (List ℕ)). accept_on drops A.es (rows_from i l)) (sym none) ∙ A.left in
      rw (← same) A.made

names_none : length (names alphabet []) ≡ 2
unfolding names names_from root_and_dead
names_none = refl

-- two states are too many for fewer slots
pub never_two : (slots : ℕ) (drops : Bool) (ps : List (List ℕ)) → slots < 2 → slots < length (names alphabet (accept_on drops [] (rows ps)))
never_two slots drops ps h = omega (arith, accept_long drops [] (rows ps), names_none)

-- an answer handed on from states that pass the slots
pub grew_few : (slots : ℕ) (K : Slots) (O : Owns) (room : ℕ) (es : List Entry) (r : Result Grown FewStates) → IsErr r → slots < length (names alphabet es)
    → GrewOk slots K O room es r
grew_few slots K O room es (Ok grown) e l = absurd (clash e refl)
grew_few slots K O room es (Err few) e l = l

-- the same, for another way to say how many slots there are
pub looked_room : {drops : Bool} {ps : List (List ℕ)} {K : Slots} {O : Owns} {states count room i : ℕ} (more : ℕ) → more ≡ room
    → Looked drops ps K O states count room i → Looked drops ps K O states count more i
looked_room {drops} {ps} {K} {O} {states} {count} {room} {i} more e A = subst (λ (n : ℕ). Looked drops ps K O states count n i) (sym e) A
