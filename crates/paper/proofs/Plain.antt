-- (D) The walk of Standard, begun again at root after each match, gives the plain list.
use mathlib.Core.Path.{◌≡◌, refl, sym, ap, ◌∙◌, subst}
use mathlib.Core.Bool.{◌&&◌}
use mathlib.Core.List.Memᴰ
use mathlib.Core.List.{List, [], ◌∷◌, ◌++◌, map, append_assoc, append-nil, Memᴰ}
use mathlib.Core.Logic.{⊎_elim}
use Prim.Native.Nat.{ℕ, zero, suc, ◌+◌, ◌≤◌, ◌<◌}
use native.Mathlib.Omega.{arith}
use lib.Dec.{eqb}
use lib.ListN.{length, drop, length-append}
use lib.Seq.{take-append_seam, drop-append_seam}
use Rattle.paper.specs.Lists.{snoc, those, each}
use Rattle.paper.specs.Patterns.{Entry, standard}
use Rattle.paper.specs.Matches.{occurs, Occurrence, occurrence_at, between, ending_at, by_end, apart, plain}
use Rattle.paper.specs.Automaton.{machine, is_state, longest_state, output, end_at, Walk, fresh, step, on_first, says_plain}
use Rattle.std.proofs.lemmas.Bool.{le-leb, lt-leb}
use Rattle.paper.proofs.Strings.{snoc_append, length_snoc}
use Rattle.paper.proofs.Outputs.{endings}
use Rattle.paper.proofs.Ends.{each_split, endings_each}
use Rattle.paper.proofs.Standard.{step_longest, output_longest}

-- what starts before p is passed
pub apart_skip : (p : ℕ) (l r : List Occurrence) → ((f : Occurrence) → Memᴰ f l → f.start < p) → apart p (l ++ r) ≡ apart p r
unfolding apart
apart_skip p [] r h = refl
apart_skip p (f ∷ l) r h =
    rw (lt-leb p f.start (h f (Memᴰ.head refl))) (apart_skip p l r (λ g m. h g (Memᴰ.tail m)))

between_start : (es : List Entry) (t : List ℕ) (s e : ℕ) (f : Occurrence) → Memᴰ f (between es t s e) → f.start ≡ s
unfolding between
between_start es t s e f m =
    let r = Memᴰ.of_map (occurrence_at s) (those (λ x. occurs x.word t s && eqb (s + length x.word) e) es) m in
    ap (λ (g : Occurrence). g.start) (sym r.2)

each_starts : (es : List Entry) (t : List ℕ) (e i k : ℕ) (f : Occurrence) → Memᴰ f (each i k (λ s. between es t s e))
    → (i ≤ f.start) × (f.start < i + k)
unfolding each
each_starts es t e i zero f m = absurd (Memᴰ.not-nil m)
each_starts es t e i (suc k) f m =
    ⊎_elim (λ q. let z = between_start es t i e f q in omega (arith, z)) (λ q. let h = each_starts es t e (suc i) k f q in omega (arith, h))
    (Memᴰ.append_cases (between es t i e) m)

module _ (es : List Entry) where
  -- the text read since p, after a, with the byte c, and the rest
  read_since : (a v : List ℕ) (c : ℕ) (r : List ℕ) → a ++ v ++ c ∷ r ≡ a ++ snoc v c ++ r
  read_since a v c r = append_assoc a v (c ∷ r) ∙ ap (λ (l : List ℕ). a ++ l) (sym (snoc_append v c r)) ∙ sym (append_assoc a (snoc v c) r)

  length_since : (a v : List ℕ) (c : ℕ) → length (a ++ snoc v c) ≡ suc (length (a ++ v))
  length_since a v c = omega (arith, length-append a (snoc v c), length-append a v, length_snoc v c)

  module _ (a v : List ℕ) (c : ℕ) (r : List ℕ) where
    abbrev p : ℕ
    p = length a

    abbrev n : ℕ
    n = length (a ++ snoc v c)

    abbrev t : List ℕ
    t = a ++ snoc v c ++ r

    -- what ends here and starts at p or later is put out by what was read since p
    late : map (end_at n) (endings (machine standard es) (snoc v c)) ≡ each p (length (snoc v c)) (λ s. between es t s n)
    late =
        endings_each es t n p (snoc v c) (omega (arith, length-append (a ++ snoc v c) r)) (sym (length-append a (snoc v c)))
        (sym (ap (drop p) (take-append_seam (a ++ snoc v c) r) ∙ drop-append_seam a (snoc v c)))

    abbrev early : List Occurrence
    early = each 0 p (λ s. between es t s n)

    ending_split : ending_at es t n ≡ early ++ map (end_at n) (endings (machine standard es) (snoc v c))
    unfolding ending_at
    ending_split =
        let from : 0 + p ≡ p = omega arith in
        ap (λ (k : ℕ). each 0 k (λ s. between es t s n)) (length-append a (snoc v c))
        ∙ each_split 0 p (length (snoc v c)) (λ s. between es t s n)
        ∙ ap (λ (l : List Occurrence). early ++ l) (ap (λ (i : ℕ). each i (length (snoc v c)) (λ s. between es t s n)) from ∙ sym late)

    -- so the plain list looks only at those
    late_only : (rest : List Occurrence) → apart p (ending_at es t n ++ rest) ≡ apart p (map (end_at n) (endings (machine standard es) (snoc v c)) ++ rest)
    late_only rest =
        ap (λ (l : List Occurrence). apart p (l ++ rest)) ending_split
        ∙ ap (apart p) (append_assoc early (map (end_at n) (endings (machine standard es) (snoc v c))) rest)
        ∙ apart_skip p early (map (end_at n) (endings (machine standard es) (snoc v c)) ++ rest) (λ f m. let h = each_starts es t n 0 p f m in omega (arith, h))

    late_starts : (f : Occurrence) → Memᴰ f (map (end_at n) (endings (machine standard es) (snoc v c))) → (p ≤ f.start) × (f.start < n)
    late_starts f m =
        let h = each_starts es t n p (length (snoc v c)) f (subst (λ (l : List Occurrence). Memᴰ f l) late m) in
        (h.0, omega (arith, h.1, length-append a (snoc v c)))

    -- the first of them is taken, and the others start before its end
    first_taken : (x : Entry) (xs : List Entry) (rest : List Occurrence) → endings (machine standard es) (snoc v c) ≡ x ∷ xs
        → apart p (end_at n x ∷ map (end_at n) xs ++ rest) ≡ end_at n x ∷ apart n rest
    unfolding apart
    first_taken x xs rest e =
        let all : (f : Occurrence) → Memᴰ f (end_at n x ∷ map (end_at n) xs) → (p ≤ f.start) × (f.start < n)
        = λ f m. late_starts f (rw e m) in
        rw (le-leb p (end_at n x).start (all (end_at n x) (Memᴰ.head refl)).0)
        (ap (λ (l : List Occurrence). end_at n x ∷ l) (apart_skip n (map (end_at n) xs) rest (λ f m. (all f (Memᴰ.tail m)).1)))

    abbrev rest : List Occurrence
    rest = each (suc n) (length r) (λ e. ending_at es t e)

    -- one byte, by what is put out there; `on` goes on from the state, `again` from root
    turn : (on again : List Occurrence) (o : List Entry) → endings (machine standard es) (snoc v c) ≡ o
        → on ≡ apart p rest → again ≡ apart n rest → on_first o on (λ x. end_at n x ∷ again) ≡ apart p (ending_at es t n ++ rest)
    turn on again [] e h k = h ∙ ap (λ (l : List Entry). apart p (map (end_at n) l ++ rest)) (sym e) ∙ sym (late_only rest)
    turn on again (x ∷ xs) e h k =
        ap (λ (l : List Occurrence). end_at n x ∷ l) k ∙ sym (first_taken x xs rest e)
        ∙ ap (λ (l : List Entry). apart p (map (end_at n) l ++ rest)) (sym e) ∙ sym (late_only rest)

  root_longest : [] ≡ longest_state (is_state es) []
  unfolding longest_state
  root_longest = refl

  -- a was read before p, v since then
  says_apart : (w : Walk) (a v r : List ℕ) → w.state ≡ longest_state (is_state es) v
      → says_plain (machine standard es) w (length (a ++ v)) r
      ≡ apart (length a) (each (suc (length (a ++ v))) (length r) (λ e. ending_at es (a ++ v ++ r) e))
  unfolding says_plain each apart
  says_apart w a v [] h = refl
  says_apart w a v (c ∷ r) h =
      let there = step_longest es w v c h in
      let on = says_apart (step (machine standard es) w c) a (snoc v c) r there in
      let again = says_apart (record { state = []; moves = (step (machine standard es) w c).moves }) (a ++ snoc v c) [] r root_longest in
      rw (read_since a v c r, ← length_since a v c)
      (turn a v c r _ _ (output (machine standard es) (step (machine standard es) w c).state)
      (sym (output_longest es (snoc v c)) ∙ ap (output (machine standard es)) (sym there)) on (rw (append-nil (a ++ snoc v c)) at again))

  pub says_plain_lem : (t : List ℕ) → says_plain (machine standard es) fresh 0 t ≡ plain es t
  unfolding plain by_end longest_state
  says_plain_lem t = says_apart fresh [] [] t refl
