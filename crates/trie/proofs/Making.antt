-- One pattern more: the tables of the accepted patterns become those of the accepted patterns and it.
use mathlib.Core.Path.{◌≡◌, refl, sym, ap, ◌∙◌, subst}
use mathlib.Core.Bool.{true, false, or-true}
use mathlib.Core.List.{List, [], ◌∷◌, ◌++◌, append-nil, reverse, reverse-append}
use Prim.Native.Nat.{ℕ, ◌+◌, ◌≤◌, ◌<◌}
use native.Mathlib.Decide.{dec_lt, ℕ_discrete}
use native.Mathlib.Omega.{arith}
use native.Mathlib.Numerals.{add-one}
use lib.Dec.{eqb}
use lib.ListN.{length, get_or, set, length-append}
use Rattle.paper.specs.Lists.{pick, same, snoc, is_nil, those}
use Rattle.paper.specs.Patterns.{Entry}
use Rattle.paper.specs.Automaton.{is_state, own_of}
use Rattle.std.proofs.lemmas.Bool.{false_from_ne_true, ne_eqb, lt-ltb}
use Rattle.paper.proofs.Tests.{test}
use Rattle.paper.proofs.Strings.{same_eq, same_refl, prefix_refl}
use Rattle.paper.proofs.Leftmost.{own_entry, entry_state}
use Rattle.list.specs.Limits.{alphabet}
use Rattle.zeros.specs.Rows.{field}
use Rattle.zeros.proofs.Rows.{field_set_same, field_set_other}
use Rattle.plan.specs.Names.{has, made, along, names_from, root_and_dead, names, Distinct}
use Rattle.plan.proofs.Names.{index, has_from, root_has, more_old, made_long, along_long}
use Rattle.trie.specs.Trie.{Slots, slots_of, with_own, Trie}
use Rattle.trie.specs.Owned.{Owned, Covers, Owns, owns_of, owns_with, Pile, Piled}
use Rattle.trie.specs.Answers.{Grown}
use Rattle.trie.specs.Made.{Made}
use Rattle.trie.proofs.Inserting.{kept_field}

-- ---- names of one pattern more

pub from_append : (ns : List (List ℕ)) (es fs : List Entry) → names_from ns (es ++ fs) ≡ names_from (names_from ns es) fs
unfolding names_from
from_append ns [] fs = refl
from_append ns (x ∷ es) fs = from_append (along ns [] x.word) es fs

pub names_more : (a : ℕ) (es : List Entry) (x : Entry) → names a (es ++ (x ∷ [])) ≡ along (names a es) [] x.word
unfolding names names_from
names_more a es x = from_append _ es (x ∷ [])

made_keeps : (ns : List (List ℕ)) (s : List ℕ) (k : ℕ) → k < length ns → get_or (made ns s) k [] ≡ get_or ns k []
unfolding made
made_keeps ns s k h = test (has ns s) (λ e. rw e) (λ e. rw e (more_old ns s k h))

-- old names keep their numbers
pub along_keeps : (ns : List (List ℕ)) (u w : List ℕ) (k : ℕ) → k < length ns → get_or (along ns u w) k [] ≡ get_or ns k []
unfolding along
along_keeps ns u [] k h = refl
along_keeps ns u (c ∷ w) k h =
    along_keeps (made ns (snoc u c)) (snoc u c) w k (omega (arith, made_long ns (snoc u c))) ∙ made_keeps ns (snoc u c) k h

-- the names of a list cover its states
pub names_cover : (a : ℕ) (es : List Entry) → Covers (names a es) es
unfolding names
names_cover a es s h = has_from es (root_and_dead a) s (root_has a) ∙ rw h (or-true (has (root_and_dead a) s))

-- ---- own outputs of one pattern more

own_more : (es : List Entry) (x : Entry) (s : List ℕ) → own_of (es ++ (x ∷ [])) s ≡ own_of es s ++ pick (same x.word s) (x ∷ []) []
unfolding own_of those
own_more [] x s = refl
own_more (y ∷ es) x s = test (same y.word s) (λ h. rw h (ap (λ (l : List Entry). y ∷ l) (own_more es x s))) (λ h. rw h (own_more es x s))

own_here : (es : List Entry) (x : Entry) → own_of (es ++ (x ∷ [])) x.word ≡ own_of es x.word ++ (x ∷ [])
own_here es x = own_more es x x.word ∙ rw (same_refl x.word)

own_there : (es : List Entry) (x : Entry) (s : List ℕ) → (x.word ≡ s → ⊥) → own_of (es ++ (x ∷ [])) s ≡ own_of es s
own_there es x s n = own_more es x s ∙ rw (false_from_ne_true (same x.word s) (λ e. n (same_eq x.word s e))) (append-nil (own_of es s))

not_nil_snoc : (l : List Entry) (x : Entry) → is_nil (l ++ (x ∷ [])) ≡ false
not_nil_snoc [] x = refl
not_nil_snoc (y ∷ l) x = refl

reverse_snoc : (l : List Entry) (x : Entry) → reverse (l ++ (x ∷ [])) ≡ x ∷ reverse l
reverse_snoc l x = reverse-append l (x ∷ [])

-- ---- piles

-- a pile looks only at what lies below n
pile_keep : (O P : Owns) (n m h : ℕ) (l : List Entry) → n ≤ m → ((k : ℕ) → k < n → (P.row k ≡ O.row k) × (P.before k ≡ O.before k))
    → Pile O n h l → Pile P m h l
pile_keep O P n m h [] le f p = p
pile_keep O P n m h (x ∷ xs) le f p =
    let g = f p.0 p.2 in (
      p.0,
      p.1,
      omega (arith, p.2),
      g.0 ∙ p.3,
      omega (arith, g.1, p.4),
      subst (λ (b : ℕ). Pile P m b xs) (sym g.1) (pile_keep O P n m (O.before p.0) xs le f p.5),
    )

pile_bound : (O : Owns) (n h : ℕ) (l : List Entry) → Pile O n h l → h ≤ n
pile_bound O n h [] p = omega (arith, p)
pile_bound O n h (x ∷ xs) p = omega (arith, p.1, p.2)

-- ---- the state's slot

-- slots that differ in own outputs alone are of the same trie
trie_same : {a : ℕ} {K L : Slots} {ns : List (List ℕ)} → ((k : ℕ) → L.first k ≡ K.first k) → ((k : ℕ) → L.sibling k ≡ K.sibling k)
    → ((k : ℕ) → L.label k ≡ K.label k) → ((k : ℕ) → L.depth k ≡ K.depth k) → Trie a K ns → Trie a L ns
trie_same {a} {K} {L} {ns} f s l d I =
    record {
      two = I.two;
      root = I.root;
      dead = I.dead;
      distinct = I.distinct;
      born = I.born;
      child = λ k h. rw (f k) (I.child k h);
      next = λ k c u h b e. rw (s k) (I.next k c u h b e);
      labelled = λ k c u h b e. l k ∙ I.labelled k c u h b e;
      deep = λ k h z. d k ∙ I.deep k h z;
    }

pub own_trie : {ns : List (List ℕ)} (rows : List (List ℕ)) (s v : ℕ) → s < length rows → Trie alphabet (slots_of rows) ns → Trie alphabet (slots_of (with_own rows s v)) ns
own_trie rows s v h I =
    trie_same (kept_field rows s 0 _ h refl) (kept_field rows s 1 _ h refl) (kept_field rows s 2 _ h refl) (kept_field rows s 3 _ h refl) I

-- ---- the step

module _ (rows owns grown : List (List ℕ)) (es : List Entry) (states count state more row : ℕ) (w : List ℕ)
    (A : Made (slots_of rows) (owns_of owns) states count (length owns) es)
    (G : Grown (slots_of rows) (slots_of grown) (names alphabet es) w state more) (room : more ≤ length grown) where
  abbrev old : List (List ℕ)
  old = names alphabet es

  abbrev x : Entry
  x = record { row = row; word = w }

  abbrev new : List (List ℕ)
  new = along (names alphabet es) [] w

  abbrev after : List (List ℕ)
  after = with_own grown state (count + 1)

  in_rows : state < length grown
  in_rows = omega (arith, G.inside)

  own_at : field after state 4 ≡ count + 1
  own_at = field_set_same grown state 4 _ in_rows

  own_else : (k : ℕ) → (k ≡ state → ⊥) → field after k 4 ≡ field grown k 4
  own_else k n = field_set_other grown state k 4 _ n

  -- another state's name is not w
  not_word : (k : ℕ) → k < length new → (k ≡ state → ⊥) → w ≡ get_or new k [] → ⊥
  unfolding Distinct
  not_word k h n e = n (G.trie.distinct k state h (omega (arith, G.inside, G.count)) (sym e ∙ sym G.named))

  -- a new state is no state of the patterns before
  new_unowned : (k : ℕ) → length old ≤ k → k < length new → own_of es (get_or new k []) ≡ []
  unfolding Distinct
  new_unowned k l h = go (own_of es (get_or new k [])) refl
    where
      go : (o : List Entry) → own_of es (get_or new k []) ≡ o → o ≡ []
      go [] e = refl
      go (y ∷ ys) e =
          let r = own_entry es (get_or new k []) (y ∷ ys) e refl in
          let state : is_state es (get_or new k []) ≡ true = entry_state es r.0 (get_or new k []) r.1 (rw r.2 (prefix_refl (get_or new k []))) in
          let i = index old (get_or new k []) (names_cover alphabet es (get_or new k []) state) in
          let same : i.at ≡ k
          = G.trie.distinct i.at k (omega (arith, i.inside, along_long old [] w)) h (along_keeps old [] w i.at i.inside ∙ i.is) in
          absurd (omega (arith, i.inside))

  -- what a state's slot and its own outputs were before, by the new number
  was_own : (k : ℕ) → k < length new → (k ≡ 1 → ⊥)
      → (eqb (field grown k 4) 0 ≡ is_nil (own_of es (get_or new k []))) × (count ≤ length owns → Pile (owns_of owns) count (field grown k 4) (reverse (own_of es (get_or new k []))))
  was_own k h z =
      elim (dec_lt k (length old)) [
        | yes l ↦
            let name = along_keeps old [] w k l in
            (rw (G.own_old k l, name) (A.owned.tells k l z), λ r. rw (G.own_old k l, name) (A.piled r k l z))
        | no l ↦
            let none = new_unowned k (omega arith) h in
            let zero : field grown k 4 ≡ 0 = G.own_new k (omega arith) (omega (arith, G.count)) in
            (rw (none, zero), λ r. rw none zero)
      ]

  made_owned : Owned (slots_of after) new (es ++ (x ∷ []))
  made_owned =
      record {
        tells = λ k h z.
            elim (ℕ_discrete k state) [
              | yes e ↦
                  rw (e, own_at, ne_eqb (count + 1) 0 (λ q. omega arith), G.named, own_here es x) (sym (not_nil_snoc (own_of es w) x))
              | no e ↦ rw (own_else k e, own_there es x (get_or new k []) (not_word k h e)) (was_own k h z).0
            ];
        dead = own_else 1 (λ e. G.apart (sym e)) ∙ G.own_old 1 (omega (arith, A.trie.two)) ∙ A.owned.dead;
      }

  -- the slots of outputs, where there is one more
  noted : count < length owns → owns_with owns count row (field grown state 4) ≡ set owns count (row ∷ field grown state 4 ∷ [])
  noted l = rw (lt-ltb count (length owns) l)

  made_piled : count + 1 ≤ length owns → Piled (slots_of after) (owns_of (owns_with owns count row (field grown state 4))) (count + 1) new (es ++ (x ∷ []))
  made_piled l k h z =
      let r : List ℕ = row ∷ field grown state 4 ∷ [] in
      let below : count < length owns = omega arith in
      let inside = (was_own state (omega (arith, G.inside, G.count)) G.apart).1 (omega arith) in
      let keeps : (i : ℕ) → i < count → (field (set owns count r) i 0 ≡ field owns i 0) × (field (set owns count r) i 1 ≡ field owns i 1)
      = λ i b. (field_set_other owns count i 0 r (λ e. omega arith), field_set_other owns count i 1 r (λ e. omega arith)) in
      rw (noted below)
      (elim (ℕ_discrete k state) [
        | yes e ↦
            let before : field (set owns count r) count 1 ≡ field grown state 4 = field_set_same owns count 1 r below in
            rw (e, own_at, G.named, own_here es x, reverse_snoc (own_of es w) x) (
              count,
              add-one count,
              omega arith,
              field_set_same owns count 0 r below,
              omega (arith, before, pile_bound (owns_of owns) count (field grown state 4) (reverse (own_of es (get_or new state []))) inside),
              rw before (pile_keep (owns_of owns) (owns_of (set owns count r)) count (count + 1) (field grown state 4) (reverse (own_of es w)) (omega arith) keeps
                  (subst (λ (s : List ℕ). Pile (owns_of owns) count (field grown state 4) (reverse (own_of es s))) G.named inside)),
            )
        | no e ↦
            rw (own_else k e, own_there es x (get_or new k []) (not_word k h e))
            (pile_keep (owns_of owns) (owns_of (set owns count r)) count (count + 1) (field grown k 4) (reverse (own_of es (get_or new k []))) (omega arith) keeps
            ((was_own k h z).1 (omega arith)))
      ])

  pub made_more : Made (slots_of after) (owns_of (owns_with owns count row (field grown state 4))) more (count + 1) (length owns) (es ++ (x ∷ []))
  made_more =
      let same = names_more alphabet es x in
      record {
        trie = rw same (own_trie grown state (count + 1) in_rows G.trie);
        states_are = rw same G.count;
        count_is = omega (arith, A.count_is, length-append es (x ∷ []));
        owned = rw same made_owned;
        piled = λ l. rw same (made_piled l);
      }
