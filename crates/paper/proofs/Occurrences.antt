-- The occurrences and the lists made of them: each list holds exactly what stands, in its order; what `apart` takes of a
-- sorted list is chosen best by best; and no other list is.
use mathlib.Core.Path.{◌≡◌, refl, sym, ap, ap₂, ◌∙◌, subst}
use mathlib.Core.Bool.{Bool, true, ◌&&◌}
use mathlib.Core.List.Memᴰ
use mathlib.Core.List.{List, [], ◌∷◌, map, Memᴰ}
use mathlib.Core.Logic.{◌⊎◌, inl, inr, ⊎_elim, ◌↔◌}
use Prim.Native.Nat.{ℕ, ◌+◌, ◌-◌, ◌≤◌, ◌<◌}
use native.Mathlib.Omega.{arith}
use lib.Dec.{eqb, leb}
use lib.ListN.{length, drop, length-drop}
use Rattle.paper.specs.Lists.{prefix, those, each, Sorted}
use Rattle.paper.specs.Patterns.{Entry, Choice, longest, first, Proper}
use Rattle.paper.specs.Matches.{occurs, Occurrence, occurrence_at, starting_at, between, ending_at, by_end, by_length, by_row, apart}
use Rattle.paper.specs.Matches.{overlapping, plain, leftmost_by, Stands, ByEnd, ByLength, ByRow, Leftmost}
use Rattle.paper.specs.Matches.{Overlapping, Best, Chosen}
use Rattle.std.proofs.lemmas.Bool.{and_from, eqb-true, eq-eqb, leb-true, leb-false, and_parts}
use Rattle.paper.proofs.Tests.{test}
use Rattle.paper.proofs.Strings.{prefix_trans, prefix_length, prefix_of}
use Rattle.paper.proofs.Order.{Asymmetric, Transitive, not_head, in_those, to_those, in_each, to_each, sorted_those, sorted_each}
use Rattle.paper.proofs.Order.{sorted_cases, sorted_unique, sorted_weaken, sorted_map, by_end_asymmetric}

-- ---- what stands

pub found_stands : (es : List Entry) (t : List ℕ) (s : ℕ) (x : Entry) → Memᴰ x es → occurs x.word t s ≡ true
    → Stands es t (occurrence_at s x)
found_stands es t s x m h = record { entry = x; listed = m; occurring = h; is = refl }

-- what stands stands for any list that has its entry
pub stands_relisted : {es more : List Entry} {t : List ℕ} {f : Occurrence} (st : Stands es t f) → Memᴰ st.entry more → Stands more t f
stands_relisted st m = record { entry = st.entry; listed = m; occurring = st.occurring; is = st.is }

-- the end and the row of what stands are its entry's
pub stands_end : {es : List Entry} {t : List ℕ} {f : Occurrence} (st : Stands es t f) → f.end ≡ f.start + length st.entry.word
stands_end st = ap (λ (g : Occurrence). g.end) st.is

pub stands_row : {es : List Entry} {t : List ℕ} {f : Occurrence} (st : Stands es t f) → f.row ≡ st.entry.row
stands_row st = ap (λ (g : Occurrence). g.row) st.is

-- an occurrence lies in the text
pub occurs_within : (p t : List ℕ) (s : ℕ) → occurs p t s ≡ true → length p ≤ length t - s
unfolding occurs
occurs_within p t s h = rw length-drop at (prefix_length p (drop s t) h)

-- where a string occurs, so do its prefixes, and of two that occur there the shorter begins the longer
pub occurs_prefix : (p q t : List ℕ) (s : ℕ) → prefix p q ≡ true → occurs q t s ≡ true → occurs p t s ≡ true
unfolding occurs
occurs_prefix p q t s h k = prefix_trans p q (drop s t) h k

pub occurs_nested : (p q t : List ℕ) (s : ℕ) → occurs p t s ≡ true → occurs q t s ≡ true → length p ≤ length q → prefix p q ≡ true
unfolding occurs
occurs_nested p q t s h k l = prefix_of p q (drop s t) h k l

-- no pattern is empty, so what stands is not empty; and it lies in the text
pub stands_bounds : {es : List Entry} {t : List ℕ} {f : Occurrence} → Proper es → Stands es t f → (f.start < f.end) × (f.end ≤ length t)
stands_bounds {es} {t} {f} proper st =
    let l : 0 < length st.entry.word = proper.filled st.entry st.listed in
    let w : length st.entry.word ≤ length t - f.start = occurs_within st.entry.word t f.start st.occurring in
    (omega (arith, stands_end st), omega (arith, stands_end st))

-- ---- the matches at s of the entries that pass a test

-- `starting_at` and `between` are both of this form
module _ (es : List Entry) (t : List ℕ) (s : ℕ) (passes : Entry → Bool) where
  in_found : ((x : Entry) → passes x ≡ true → occurs x.word t s ≡ true) → (f : Occurrence)
      → Memᴰ f (map (occurrence_at s) (those passes es)) → (st : Stands es t f) × (f.start ≡ s) × (passes st.entry ≡ true)
  in_found occurring f m =
      let r = Memᴰ.of_map (occurrence_at s) (those passes es) m in
      let k = in_those passes es r.1 in
      let e : s ≡ f.start = ap (λ (g : Occurrence). g.start) r.2 in (
        record {
          entry = r.0;
          listed = k.0;
          occurring = subst (λ n. occurs r.0.word t n ≡ true) e (occurring r.0 k.1);
          is = sym r.2 ∙ ap (λ (n : ℕ). occurrence_at n r.0) e;
        },
        sym e,
        k.1,
      )

  to_found : (f : Occurrence) (st : Stands es t f) → f.start ≡ s → passes st.entry ≡ true → Memᴰ f (map (occurrence_at s) (those passes es))
  to_found f st e h =
      Memᴰ.cast (st.is ∙ ap (λ (n : ℕ). occurrence_at n st.entry) e) (Memᴰ.map (occurrence_at s) (to_those passes es st.listed h))

  found_rising : Proper es → Sorted (λ f g. f.row < g.row) (map (occurrence_at s) (those passes es))
  found_rising proper =
      sorted_map (λ f g. f.row < g.row) (occurrence_at s) (those passes es) (sorted_those (λ x y. x.row < y.row) passes es proper.rising)

-- ---- the lists are exact

pub starting_exact : (es : List Entry) (t : List ℕ) (s : ℕ) (f : Occurrence) → Memᴰ f (starting_at es t s) ↔ (Stands es t f × (f.start ≡ s))
unfolding starting_at
starting_exact es t s f = (
  λ m. let r = in_found es t s (λ x. occurs x.word t s) (λ x h. h) f m in (r.0, r.1),
  λ h. to_found es t s (λ x. occurs x.word t s) f h.0 h.1 (rw h.1 at h.0.occurring),
)

pub between_exact : (es : List Entry) (t : List ℕ) (s e : ℕ) (f : Occurrence)
    → Memᴰ f (between es t s e) ↔ (Stands es t f × (f.start ≡ s) × (f.end ≡ e))
unfolding between
between_exact es t s e f = (
  λ m. let r = in_found es t s passes (λ x h. (and_parts (occurs x.word t s) (ends x) h).0) f m in
      let k : s + length r.0.entry.word ≡ e
      = eqb-true (s + length r.0.entry.word) e (and_parts (occurs r.0.entry.word t s) (ends r.0.entry) r.2).1 in
      (r.0, r.1, omega (arith, r.1, stands_end r.0)),
  λ h. to_found es t s passes f h.0 h.1
      (and_from (occurs h.0.entry.word t s) (ends h.0.entry) (rw h.1 at h.0.occurring)
      (eq-eqb (s + length h.0.entry.word) e (omega (arith, h.1, h.2, stands_end h.0)))),
)
  where
    ends : Entry → Bool
    ends x = eqb (s + length x.word) e

    passes : Entry → Bool
    passes x = occurs x.word t s && ends x

-- what stands is not empty, so it starts before its end
pub ending_exact : (es : List Entry) (t : List ℕ) (e : ℕ) (f : Occurrence) → Proper es
    → Memᴰ f (ending_at es t e) ↔ (Stands es t f × (f.end ≡ e))
unfolding ending_at
ending_exact es t e f proper = (
  λ m. let r = in_each 0 e (λ s. between es t s e) m in let k = (between_exact es t r.0 e f).0 r.3 in (k.0, k.2),
  λ h. let b = stands_bounds proper h.0 in
      to_each 0 e f.start (λ s. between es t s e) (omega arith) (omega arith) ((between_exact es t f.start e f).1 (h.0, refl, h.1)),
)

pub by_end_exact : (es : List Entry) (t : List ℕ) → Proper es → (f : Occurrence) → Memᴰ f (by_end es t) ↔ Stands es t f
unfolding by_end
by_end_exact es t proper f = (
  λ m. let r = in_each 1 (length t) (λ e. ending_at es t e) m in ((ending_exact es t r.0 f proper).0 r.3).0,
  λ st. let b = stands_bounds proper st in
      to_each 1 (length t) f.end (λ e. ending_at es t e) (omega arith) (omega arith) ((ending_exact es t f.end f proper).1 (st, refl)),
)

pub by_row_exact : (es : List Entry) (t : List ℕ) → Proper es → (f : Occurrence) → Memᴰ f (by_row es t) ↔ Stands es t f
unfolding by_row
by_row_exact es t proper f = (
  λ m. let r = in_each 0 (length t) (λ s. starting_at es t s) m in ((starting_exact es t r.0 f).0 r.3).0,
  λ st. let b = stands_bounds proper st in
      to_each 0 (length t) f.start (λ s. starting_at es t s) (omega arith) (omega arith) ((starting_exact es t f.start f).1 (st, refl)),
)

-- what by_length has at one start
at_start : List Entry → List ℕ → ℕ → List Occurrence
at_start es t s = each 0 (length t - s) (λ k. between es t s (length t - k))

at_start_exact : (es : List Entry) (t : List ℕ) (s : ℕ) (f : Occurrence) → Proper es
    → Memᴰ f (at_start es t s) ↔ (Stands es t f × (f.start ≡ s))
unfolding at_start
at_start_exact es t s f proper = (
  λ m. let r = in_each 0 (length t - s) (λ k. between es t s (length t - k)) m in
      let k = (between_exact es t s (length t - r.0) f).0 r.3 in (k.0, k.1),
  λ h. let b = stands_bounds proper h.0 in
      let l : length t - f.end < length t - s = omega (arith, h.1) in
      to_each 0 (length t - s) (length t - f.end) (λ k. between es t s (length t - k)) (omega arith) (omega arith)
      ((between_exact es t s (length t - (length t - f.end)) f).1 (h.0, h.1, omega arith)),
)

pub by_length_exact : (es : List Entry) (t : List ℕ) → Proper es → (f : Occurrence) → Memᴰ f (by_length es t) ↔ Stands es t f
unfolding by_length at_start
by_length_exact es t proper f = (
  λ m. let r = in_each 0 (length t) (λ s. at_start es t s) m in ((at_start_exact es t r.0 f proper).0 r.3).0,
  λ st. let b = stands_bounds proper st in
      to_each 0 (length t) f.start (λ s. at_start es t s) (omega arith) (omega arith)
      ((at_start_exact es t f.start f proper).1 (st, refl)),
)

-- ---- the lists are sorted

-- within one start and end the rows rise, which every order R here asks last
pub between_sorted : (R : Occurrence → Occurrence → Type 0) → ((f g : Occurrence) → f.start ≡ g.start → f.end ≡ g.end → f.row < g.row → R f g)
    → (es : List Entry) (t : List ℕ) (s e : ℕ) → Proper es → Sorted R (between es t s e)
unfolding between
between_sorted R by_Row es t s e proper =
    sorted_weaken (λ f g. f.row < g.row) R (between es t s e)
    (λ f g h k. let a = (between_exact es t s e f).0 h in let b = (between_exact es t s e g).0 k in
    by_Row f g (a.1 ∙ sym b.1) (a.2 ∙ sym b.2))
    (found_rising es t s (λ x. occurs x.word t s && eqb (s + length x.word) e) proper)

pub ending_sorted : (es : List Entry) (t : List ℕ) (e : ℕ) → Proper es → Sorted ByEnd (ending_at es t e)
unfolding ending_at
ending_sorted es t e proper =
    sorted_each ByEnd 0 e (λ s. between es t s e) (λ s. between_sorted ByEnd (λ f g a b l. inr (b, inr (a, l))) es t s e proper)
    (λ i j l b f g h k. let a = (between_exact es t i e f).0 h in let b = (between_exact es t j e g).0 k in
    inr (a.2 ∙ sym b.2, inl (omega (arith, a.1, b.1))))

pub by_end_sorted : (es : List Entry) (t : List ℕ) → Proper es → Sorted ByEnd (by_end es t)
unfolding by_end
by_end_sorted es t proper =
    sorted_each ByEnd 1 (length t) (λ e. ending_at es t e) (λ e. ending_sorted es t e proper)
    (λ i j l b f g h k. let a = (ending_exact es t i f proper).0 h in let b = (ending_exact es t j g proper).0 k in
    inl (omega (arith, a.1, b.1)))

at_start_sorted : (es : List Entry) (t : List ℕ) (s : ℕ) → Proper es → Sorted ByLength (at_start es t s)
unfolding at_start
at_start_sorted es t s proper =
    sorted_each ByLength 0 (length t - s) (λ k. between es t s (length t - k))
    (λ k. between_sorted ByLength (λ f g a b l. inr (a, inr (sym b, l))) es t s (length t - k) proper)
    (λ i j l bound f g h k.
    let a = (between_exact es t s (length t - i) f).0 h in let b = (between_exact es t s (length t - j) g).0 k in
    inr (a.1 ∙ sym b.1, inl (omega (arith, a.2, b.2))))

pub by_length_sorted : (es : List Entry) (t : List ℕ) → Proper es → Sorted ByLength (by_length es t)
unfolding by_length at_start
by_length_sorted es t proper =
    sorted_each ByLength 0 (length t) (λ s. at_start es t s) (λ s. at_start_sorted es t s proper)
    (λ i j l b f g h k. let a = (at_start_exact es t i f proper).0 h in let b = (at_start_exact es t j g proper).0 k in
    inl (omega (arith, a.1, b.1)))

pub by_row_sorted : (es : List Entry) (t : List ℕ) → Proper es → Sorted ByRow (by_row es t)
unfolding by_row starting_at
by_row_sorted es t proper =
    sorted_each ByRow 0 (length t) (λ s. starting_at es t s)
    (λ s. sorted_weaken (λ f g. f.row < g.row) ByRow (starting_at es t s)
    (λ f g h k l. inr (((starting_exact es t s f).0 h).1 ∙ sym ((starting_exact es t s g).0 k).1, l))
    (found_rising es t s (λ x. occurs x.word t s) proper))
    (λ i j l b f g h k. let a = (starting_exact es t i f).0 h in let b = (starting_exact es t j g).0 k in
    inl (omega (arith, a.1, b.1)))

-- ---- overlapping

-- of what stands, one start and one row are one match: rows rise, so the row has one entry
pub stands_once : {es : List Entry} {t : List ℕ} {f g : Occurrence} → Proper es → Stands es t f → Stands es t g
    → f.start ≡ g.start → f.row ≡ g.row → f ≡ g
stands_once {es} {t} {f} {g} proper a b s r =
    ⊎_elim (λ e. a.is ∙ ap₂ occurrence_at s e ∙ sym b.is)
    (⊎_elim (λ (l : a.entry.row < b.entry.row). absurd (omega (arith, stands_row a, stands_row b)))
    (λ (l : b.entry.row < a.entry.row). absurd (omega (arith, stands_row a, stands_row b))))
    (sorted_cases (λ x y. x.row < y.row) es proper.rising a.entry b.entry a.listed b.listed)

pub overlapping_is : (es : List Entry) (t : List ℕ) → Proper es → Overlapping es t (overlapping es t)
unfolding overlapping
overlapping_is es t proper = record {
  exact = by_end_exact es t proper;
  once = sorted_weaken ByEnd (λ f g. (f.start ≡ g.start) × (f.row ≡ g.row) → ⊥) (by_end es t)
      (λ f g h k b e.
      let same : f ≡ g = stands_once proper ((by_end_exact es t proper f).0 h) ((by_end_exact es t proper g).0 k) e.0 e.1 in
      let itself : ByEnd g g = rw same at b in
      by_end_asymmetric g g itself itself)
      (by_end_sorted es t proper);
  sorted = by_end_sorted es t proper;
}

pub overlapping_only : (es : List Entry) (t : List ℕ) (l m : List Occurrence) → Overlapping es t l → Overlapping es t m → l ≡ m
overlapping_only es t l m a b =
    sorted_unique ByEnd by_end_asymmetric l m a.sorted b.sorted
    (λ f. (λ h. (b.exact f).1 ((a.exact f).0 h), λ h. (a.exact f).1 ((b.exact f).0 h)))

-- ---- plain and leftmost: the best of what is left, again and again

module _ (Better : Occurrence → Occurrence → Type 0) (t : List ℕ) where
  -- apart takes the best, if all that stands from p on is in the sorted list
  pub apart_chosen : (es : List Entry) (p : ℕ) (l : List Occurrence) → Proper es → ((f : Occurrence) → Memᴰ f l → Stands es t f)
      → ((f : Occurrence) → Stands es t f → p ≤ f.start → Memᴰ f l) → Sorted Better l → Chosen Better es t p (apart p l)
  unfolding apart
  apart_chosen es p [] proper stands all sorted = λ g st le. Memᴰ.not-nil (all g st le)
  apart_chosen es p (f ∷ l) proper stands all sorted =
      test (leb p f.start)
      (λ h. rw h (
        record {
          stands = stands f (Memᴰ.head refl);
          from = leb-true p f.start h;
          best = λ g st le. ⊎_elim inl (λ k. inr (sorted.0 g k)) (Memᴰ.cases_cons (all g st le));
        },
        apart_chosen es f.end l proper (λ g k. stands g (Memᴰ.tail k))
            (λ g st le.
            let filled : f.start < f.end = (stands_bounds proper (stands f (Memᴰ.head refl))).0 in
            not_head (λ e. omega (arith, ap (λ (x : Occurrence). x.start) e)) (all g st (omega (arith, leb-true p f.start h))))
            sorted.1,
      ))
      (λ h. rw h
      (apart_chosen es p l proper (λ g k. stands g (Memᴰ.tail k))
      (λ g st le. not_head (λ e. omega (arith, leb-false p f.start h, ap (λ (x : Occurrence). x.start) e)) (all g st le))
      sorted.1))

  -- the same from 0, where the list has exactly what stands
  exact_chosen : (es : List Entry) (l : List Occurrence) → Proper es → ((f : Occurrence) → Memᴰ f l ↔ Stands es t f) → Sorted Better l
      → Chosen Better es t 0 (apart 0 l)
  exact_chosen es l proper exact sorted = apart_chosen es 0 l proper (λ f. (exact f).0) (λ f st le. (exact f).1 st) sorted

  best_unique : Asymmetric Better → (es : List Entry) (p : ℕ) (f g : Occurrence) → Best Better es t p f → Best Better es t p g → f ≡ g
  best_unique asymmetric es p f g a b =
      ⊎_elim (λ e. e) (λ h. ⊎_elim sym (λ k. absurd (asymmetric f g k h)) (a.best g b.stands b.from))
      (b.best f a.stands a.from)

  -- the best is one, so one list is chosen
  pub chosen_unique : Asymmetric Better → (es : List Entry) (p : ℕ) (l m : List Occurrence)
      → Chosen Better es t p l → Chosen Better es t p m → l ≡ m
  chosen_unique asymmetric es p [] [] a b = refl
  chosen_unique asymmetric es p [] (g ∷ m) a b = absurd (a g b.0.stands b.0.from)
  chosen_unique asymmetric es p (f ∷ l) [] a b = absurd (b f a.0.stands a.0.from)
  chosen_unique asymmetric es p (f ∷ l) (g ∷ m) a b =
      let e : f ≡ g = best_unique asymmetric es p f g a.0 b.0 in
      ap₂ ◌∷◌ e (chosen_unique asymmetric es f.end l m a.1 (rw e b.1))

  -- what is chosen of some entries is chosen of more, if whatever stands for these starts with something as good of the first
  pub chosen_wider : Transitive Better → (es more : List Entry) → ((f : Occurrence) → Stands es t f → Stands more t f)
      → ((g : Occurrence) → Stands more t g → (h : Occurrence) × Stands es t h × (h.start ≡ g.start) × ((g ≡ h) ⊎ Better h g))
      → (p : ℕ) (l : List Occurrence) → Chosen Better es t p l → Chosen Better more t p l
  chosen_wider transitive es more into cover p [] c =
      λ g st le. let r = cover g st in c r.0 r.1 (omega (arith, r.2))
  chosen_wider transitive es more into cover p (f ∷ l) c = (
    record { stands = into f c.0.stands; from = c.0.from; best = best },
    chosen_wider transitive es more into cover f.end l c.1,
  )
    where
      best : (g : Occurrence) → Stands more t g → p ≤ g.start → (g ≡ f) ⊎ Better f g
      best g st le =
          let r = cover g st in
          join r.3 (c.0.best r.0 r.1 (omega (arith, r.2)))
        where
          join : {h : Occurrence} → (g ≡ h) ⊎ Better h g → (h ≡ f) ⊎ Better f h → (g ≡ f) ⊎ Better f g
          join (inl a) (inl b) = inl (a ∙ b)
          join (inl a) (inr b) = inr (rw a b)
          join (inr a) (inl b) = inr (rw b at a)
          join {h} (inr a) (inr b) = inr (transitive f h g b a)

pub plain_is : (es : List Entry) (t : List ℕ) → Proper es → Chosen ByEnd es t 0 (plain es t)
unfolding plain
plain_is es t proper = exact_chosen ByEnd t es (by_end es t) proper (by_end_exact es t proper) (by_end_sorted es t proper)

pub leftmost_is : (c : Choice) (es : List Entry) (t : List ℕ) → Proper es → Chosen (Leftmost c) es t 0 (leftmost_by c es t)
unfolding leftmost_by
leftmost_is longest es t proper =
    exact_chosen ByLength t es (by_length es t) proper (by_length_exact es t proper) (by_length_sorted es t proper)
leftmost_is first es t proper = exact_chosen ByRow t es (by_row es t) proper (by_row_exact es t proper) (by_row_sorted es t proper)
