-- The loop of `add`: after i bytes of w the state is that of the bytes, and what is left to make is what was to make at the start.
use mathlib.Core.Path.{◌≡◌, refl, sym, ap, ◌∙◌, subst}
use mathlib.Core.Bool.{true}
use mathlib.Core.List.{List, [], ◌∷◌, ◌++◌}
use Prim.Native.Nat.{ℕ, suc, ◌+◌, ◌≤◌, ◌<◌}
use native.Mathlib.Decide.{ℕ_discrete}
use native.Mathlib.Numerals.{add-one}
use native.Mathlib.Omega.{arith}
use lib.ListN.{length, get_or, take, drop}
use lib.Seq.{take-suc, drop-cons, drop-length, take-length, length-take-le}
use Rattle.paper.specs.Lists.{snoc}
use Rattle.paper.proofs.Strings.{snoc_is}
use Rattle.plan.specs.Names.{has, along}
use Rattle.plan.proofs.Names.{more_length, more_new, has_at, along_long, along_old, along_new, along_end}
use Rattle.trie.specs.Trie.{Slots, Kid, Trie, Gap, Inserted}
use Rattle.trie.specs.Answers.{Grown, Located}
use Rattle.list.specs.Limits.{alphabet}
use Rattle.std.specs.Prelude.{Result, Ok, Err}
use Rattle.trie.specs.declared.TrieId.{TrieId}
use Rattle.trie.specs.declared.Gap.{Gap as Neighbours}
use Rattle.trie.proofs.Growing.{grown}

-- what an answer of `locate` says, by its case
pub located_at : (names : List (List ℕ)) (s b : ℕ) (r : Result TrieId Neighbours) (t : TrieId) → Located names s b r → r ≡ Ok t
    → Kid alphabet names (get_or names s []) b t.0
located_at names s b r t q e = subst (λ (x : Result TrieId Neighbours). Located names s b x) e q

pub located_between : (names : List (List ℕ)) (s b : ℕ) (r : Result TrieId Neighbours) (gap : Neighbours) → Located names s b r → r ≡ Err gap
    → Gap alphabet names (get_or names s []) b gap.prev.0 gap.next.0
located_between names s b r gap q e = subst (λ (x : Result TrieId Neighbours). Located names s b x) e q

take_snoc : (w : List ℕ) (i : ℕ) → i < length w → take (i + 1) w ≡ snoc (take i w) (get_or w i 0)
take_snoc w i h = rw (add-one, take-suc w i 0) (sym (snoc_is (take i w) (get_or w i 0)))

-- K₀ are the slots at the start, K after i bytes of w; n states, at s
pub record Adding (a : ℕ) (K₀ K : Slots) (names : List (List ℕ)) (w : List ℕ) (n s i : ℕ) : Type 0 where
  pub cur : List (List ℕ)
  pub trie : Trie a K cur
  pub count : n ≡ length cur
  pub longer : length names ≤ length cur
  pub inside : s < length cur
  pub apart : s ≡ 1 → ⊥
  pub named : get_or cur s [] ≡ take i w
  pub left : along cur (get_or cur s []) (drop i w) ≡ along names [] w
  pub own_old : (k : ℕ) → k < length names → K.own k ≡ K₀.own k
  pub own_new : (k : ℕ) → length names ≤ k → k < length cur → K.own k ≡ 0

pub adding_start : {a : ℕ} {K : Slots} {names : List (List ℕ)} (w : List ℕ) (n : ℕ) → Trie a K names → n ≡ length names → Adding a K K names w n 0 0
adding_start {names = names} w n I e =
    record {
      cur = names;
      trie = I;
      count = e;
      longer = omega arith;
      inside = omega (arith, I.two);
      apart = λ z. omega arith;
      named = I.root;
      left = ap (λ (u : List ℕ). along names u w) I.root;
      own_old = λ k h. refl;
      own_new = λ k h l. absurd (omega arith);
    }

module _ {a : ℕ} {K₀ K : Slots} {names : List (List ℕ)} {w : List ℕ} {n s i : ℕ} (A : Adding a K₀ K names w n s i) (h : i < length w) where
  -- the next byte's turn
  rest : along A.cur (get_or A.cur s []) (get_or w i 0 ∷ drop (suc i) w) ≡ along names [] w
  rest = ap (λ (l : List ℕ). along A.cur (get_or A.cur s []) l) (sym (drop-cons w i 0 h)) ∙ A.left

  pub state_depth : length (get_or A.cur s []) ≡ i
  state_depth = ap length A.named ∙ length-take-le i w (omega arith)

  pub adding_old : (t : ℕ) → Kid a A.cur (get_or A.cur s []) (get_or w i 0) t → Adding a K₀ K names w n t (i + 1)
  adding_old t k =
      let here : has A.cur (snoc (get_or A.cur s []) (get_or w i 0)) ≡ true
      = subst (λ (x : List ℕ). has A.cur x ≡ true) k.named (has_at A.cur t k.inside) in
      record {
        cur = A.cur;
        trie = A.trie;
        count = A.count;
        longer = A.longer;
        inside = k.inside;
        apart = λ z. omega (arith, k.above);
        named = k.named ∙ ap (λ (x : List ℕ). snoc x (get_or w i 0)) A.named ∙ sym (take_snoc w i h);
        left = rw (add-one, k.named) (sym (along_old A.cur (get_or A.cur s []) (drop (suc i) w) (get_or w i 0) here) ∙ rest);
        own_old = A.own_old;
        own_new = A.own_new;
      }

  pub adding_new : (L : Slots) (d prev next : ℕ) → get_or w i 0 < a → d ≡ suc i → Gap a A.cur (get_or A.cur s []) (get_or w i 0) prev next
      → Inserted K L n s (get_or w i 0) d prev next → Adding a K₀ L names w (n + 1) n (i + 1)
  adding_new L d prev next small deep G J =
      record {
        cur = new;
        trie = grown a K A.cur A.trie L s (get_or w i 0) d prev next A.inside A.apart small G (omega (arith, state_depth)) J';
        count = omega (arith, long, A.count);
        longer = omega (arith, long, A.longer);
        inside = omega (arith, long, A.count);
        apart = λ z. omega (arith, A.count, A.trie.two);
        named = named ∙ ap (λ (x : List ℕ). snoc x (get_or w i 0)) A.named ∙ sym (take_snoc w i h);
        left = rw (add-one, named) (sym (along_new A.cur (get_or A.cur s []) (drop (suc i) w) (get_or w i 0) G.absent) ∙ rest);
        own_old = λ k l. J.own_other k (λ z. omega (arith, A.count, A.longer)) ∙ A.own_old k l;
        own_new = own_new;
      }
    where
      new : List (List ℕ)
      new = A.cur ++ (snoc (get_or A.cur s []) (get_or w i 0) ∷ [])

      long : length new ≡ suc (length A.cur)
      long = more_length A.cur (snoc (get_or A.cur s []) (get_or w i 0))

      J' : Inserted K L (length A.cur) s (get_or w i 0) d prev next
      J' = subst (λ (m : ℕ). Inserted K L m s (get_or w i 0) d prev next) A.count J

      named : get_or new n [] ≡ snoc (get_or A.cur s []) (get_or w i 0)
      named = rw A.count (more_new A.cur (snoc (get_or A.cur s []) (get_or w i 0)))

      own_new : (k : ℕ) → length names ≤ k → k < length new → L.own k ≡ 0
      own_new k l m =
          elim (ℕ_discrete k n) [
            | yes e ↦ rw e J.own_new
            | no e ↦ J.own_other k e ∙ A.own_new k l (omega (arith, long, A.count))
          ]

  -- the next state would be one too many
  pub adding_full : (slots prev next : ℕ) → Gap a A.cur (get_or A.cur s []) (get_or w i 0) prev next → slots ≤ n → slots < length (along names [] w)
  adding_full slots prev next G l =
      let new : List (List ℕ) = A.cur ++ (snoc (get_or A.cur s []) (get_or w i 0) ∷ []) in
      rw (← rest, along_new A.cur (get_or A.cur s []) (drop (suc i) w) (get_or w i 0) G.absent)
      (omega (arith, along_long new (snoc (get_or A.cur s []) (get_or w i 0)) (drop (suc i) w), more_length A.cur (snoc (get_or A.cur s []) (get_or w i 0)), A.count))

pub adding_end : {K₀ K : Slots} {names : List (List ℕ)} {w : List ℕ} {n s i : ℕ} → Adding alphabet K₀ K names w n s i → i ≡ length w → Grown K₀ K names w s n
adding_end {names = names} {w = w} {s = s} {i = i} A e =
    let done : A.cur ≡ along names [] w
    = sym (along_end A.cur (get_or A.cur s []))
    ∙ ap (λ (l : List ℕ). along A.cur (get_or A.cur s []) l) (sym (ap (λ (k : ℕ). drop k w) e ∙ drop-length w)) ∙ A.left in
    record {
      trie = rw (← done) A.trie;
      count = rw (← done) A.count;
      inside = omega (arith, A.count, A.inside);
      apart = A.apart;
      named = rw (← done) (A.named ∙ ap (λ (k : ℕ). take k w) e ∙ take-length w);
      own_old = A.own_old;
      own_new = λ k l m. A.own_new k l (omega (arith, A.count));
    }

-- the state before a gap is one of the names
pub gap_prev : {a : ℕ} {names : List (List ℕ)} {u : List ℕ} {b prev next : ℕ} → Gap a names u b prev next → 2 ≤ length names → prev < length names
gap_prev {prev = prev} G h =
    elim (ℕ_discrete prev 0) [
      | yes z ↦ omega arith
      | no z ↦ (G.after z).kid.inside
    ]
