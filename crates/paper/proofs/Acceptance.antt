-- What a build accepts: its rows rise and no pattern is empty; LeftmostFirst drops exactly what an earlier listed pattern
-- begins, this changes no list of matches, and over what is left the longest match is the first listed.
use mathlib.Core.Path.{◌≡◌, refl, sym, ap, subst}
use mathlib.Core.Bool.{true, false, false≢true}
use mathlib.Core.List.Memᴰ
use mathlib.Core.List.{List, [], ◌∷◌, Memᴰ}
use mathlib.Core.Logic.{◌⊎◌, inl, inr, ⊎_elim, ◌↔◌}
use Prim.Native.Nat.{ℕ, suc, ◌≤◌, ◌<◌}
use native.Mathlib.Omega.{arith}
use lib.Dec.{ltb}
use lib.ListN.{length}
use Rattle.paper.specs.Lists.{prefix, Sorted}
use Rattle.paper.specs.Patterns.{Entry, Choice, longest, first, Kind, standard, leftmost, rows_from, rows, proper_prefix, barred, keep}
use Rattle.paper.specs.Patterns.{accepted, Filled, Proper}
use Rattle.paper.specs.Matches.{occurs, Occurrence, occurrence_at, by_length, by_row, apart, leftmost_by, Stands, ByLength, ByRow}
use Rattle.std.proofs.lemmas.Bool.{false_from_ne_true, and_from, or_cases, ltb-true, lt-ltb, and_parts, or_parts}
use Rattle.paper.proofs.Tests.{test, clash}
use Rattle.paper.proofs.Strings.{prefix_trans}
use Rattle.paper.proofs.Order.{sorted_cases, sorted_unique, sorted_weaken, by_row_asymmetric, by_row_transitive}
use Rattle.paper.proofs.Occurrences.{found_stands, stands_relisted, stands_end, stands_row, occurs_prefix, occurs_nested}
use Rattle.paper.proofs.Occurrences.{by_length_exact, by_length_sorted, by_row_exact, by_row_sorted}
use Rattle.paper.proofs.Occurrences.{chosen_unique, chosen_wider, leftmost_is}

-- listed before
abbrev pub Earlier : Entry → Entry → Type 0
Earlier x y = x.row < y.row

-- ---- the list as given

-- an entry of the list as given has a row from i on and a listed pattern
pub rows_from_lem : (i : ℕ) (ps : List (List ℕ)) (x : Entry) → Memᴰ x (rows_from i ps) → (i ≤ x.row) × Memᴰ x.word ps
unfolding rows_from
rows_from_lem i [] x m = absurd (Memᴰ.not-nil m)
rows_from_lem i (p ∷ ps) x m =
    ⊎_elim (λ e. (omega (arith, ap (λ (y : Entry). y.row) e), Memᴰ.head (ap (λ (y : Entry). y.word) e)))
    (λ k. let r = rows_from_lem (suc i) ps x k in (omega arith, Memᴰ.tail r.1))
    (Memᴰ.cases_cons m)

pub rows_rising : (i : ℕ) (ps : List (List ℕ)) → Sorted Earlier (rows_from i ps)
unfolding rows_from
rows_rising i [] = tt
rows_rising i (p ∷ ps) = (λ y m. (rows_from_lem (suc i) ps y m).0, rows_rising (suc i) ps)

-- ---- proper prefixes

pub proper_prefix_trans : (p q r : List ℕ) → proper_prefix p q ≡ true → proper_prefix q r ≡ true → proper_prefix p r ≡ true
proper_prefix_trans p q r h k =
    let a : length p < length q = ltb-true (length p) (length q) (and_parts (prefix p q) (ltb (length p) (length q)) h).1 in
    let b : length q < length r = ltb-true (length q) (length r) (and_parts (prefix q r) (ltb (length q) (length r)) k).1 in
    and_from (prefix p r) (ltb (length p) (length r))
    (prefix_trans p q r (and_parts (prefix p q) (ltb (length p) (length q)) h).0 (and_parts (prefix q r) (ltb (length q) (length r)) k).0)
    (lt-ltb (length p) (length r) (omega arith))

-- what bars q
barred_by : (l : List Entry) (q : List ℕ) → barred l q ≡ true → (y : Entry) × Memᴰ y l × (proper_prefix y.word q ≡ true)
unfolding barred
barred_by [] q h = absurd (false≢true h)
barred_by (x ∷ l) q h =
    ⊎_elim (λ e. (x, Memᴰ.head refl, e)) (λ e. let r = barred_by l q e in (r.0, Memᴰ.tail r.1, r.2))
    (or_cases (proper_prefix x.word q) (barred l q) h)

-- ---- what is kept

kept_listed : (taken l : List Entry) (x : Entry) → Memᴰ x (keep taken l) → Memᴰ x l
unfolding keep
kept_listed taken [] x m = m
kept_listed taken (z ∷ l) x m =
    test (barred taken z.word) (λ h. Memᴰ.tail (kept_listed taken l x (rw h at m)))
    (λ h. ⊎_elim (λ e. Memᴰ.head e) (λ k. Memᴰ.tail (kept_listed (z ∷ taken) l x k)) (Memᴰ.cases_cons (rw h at m)))

-- what is kept has no proper prefix among what was taken before
kept_unbarred : (taken l : List Entry) (x : Entry) → Memᴰ x (keep taken l) → barred taken x.word ≡ false
unfolding keep barred
kept_unbarred taken [] x m = absurd (Memᴰ.not-nil m)
kept_unbarred taken (z ∷ l) x m =
    test (barred taken z.word) (λ h. kept_unbarred taken l x (rw h at m))
    (λ h. ⊎_elim (λ e. rw e h)
    (λ k. (or_parts (proper_prefix z.word x.word) (barred taken x.word) (kept_unbarred (z ∷ taken) l x k)).1)
    (Memᴰ.cases_cons (rw h at m)))

-- x is listed before y and is no proper prefix of it
abbrev Clears : Entry → Entry → Type 0
Clears x y = Earlier x y × (proper_prefix x.word y.word ≡ false)

kept_clears : (taken l : List Entry) → Sorted Earlier l → Sorted Clears (keep taken l)
unfolding keep barred
kept_clears taken [] s = tt
kept_clears taken (z ∷ l) s =
    test (barred taken z.word) (λ h. rw h (kept_clears taken l s.1))
    (λ h. rw h (
      λ x k. (
        s.0 x (kept_listed (z ∷ taken) l x k),
        (or_parts (proper_prefix z.word x.word) (barred taken x.word) (kept_unbarred (z ∷ taken) l x k)).0,
      ),
      kept_clears (z ∷ taken) l s.1,
    ))

-- x is kept, or a proper prefix of it that is listed earlier is taken or kept
abbrev Held : List Entry → List Entry → Entry → Type 0
Held taken kept x =
    Memᴰ x kept
    ⊎ ((y : Entry) × (Memᴰ y taken ⊎ Memᴰ y kept) × (y.row < x.row) × (proper_prefix y.word x.word ≡ true))

-- where the last taken is the first kept
held_shift : (z : Entry) (taken kept : List Entry) (x : Entry) → Held (z ∷ taken) kept x → Held taken (z ∷ kept) x
held_shift z taken kept x (inl k) = inl (Memᴰ.tail k)
held_shift z taken kept x (inr r) = inr (r.0, shift r.1, r.2, r.3)
  where
    shift : {y : Entry} → Memᴰ y (z ∷ taken) ⊎ Memᴰ y kept → Memᴰ y taken ⊎ Memᴰ y (z ∷ kept)
    shift (inl m) = ⊎_elim (λ e. inr (Memᴰ.head e)) inl (Memᴰ.cases_cons m)
    shift (inr m) = inr (Memᴰ.tail m)

-- what is dropped has a proper prefix that is not
keep_holds : (taken l : List Entry) → Sorted Earlier l
    → ((y x : Entry) → Memᴰ y taken → Memᴰ x l → y.row < x.row)
    → (x : Entry) → Memᴰ x l → Held taken (keep taken l) x
unfolding keep
keep_holds taken [] s before x m = absurd (Memᴰ.not-nil m)
keep_holds taken (z ∷ l) s before x m =
    test (barred taken z.word)
    (λ h. rw h
    (⊎_elim (λ e. rw e (dropped h))
    (keep_holds taken l s.1 (λ y w a b. before y w a (Memᴰ.tail b)) x)
    (Memᴰ.cases_cons m)))
    (λ h. rw h
    (⊎_elim (λ e. inl (Memᴰ.head e))
    (λ k. held_shift z taken (keep (z ∷ taken) l) x (keep_holds (z ∷ taken) l s.1 later x k))
    (Memᴰ.cases_cons m)))
  where
    dropped : barred taken z.word ≡ true → Held taken (keep taken l) z
    dropped h = let r = barred_by taken z.word h in inr (r.0, inl r.1, before r.0 z r.1 (Memᴰ.head refl), r.2)

    later : (y w : Entry) → Memᴰ y (z ∷ taken) → Memᴰ w l → y.row < w.row
    later y w a b = ⊎_elim (λ e. rw e (s.0 w b)) (λ k. before y w k (Memᴰ.tail b)) (Memᴰ.cases_cons a)

-- ---- what LeftmostFirst accepts

pub accepted_listed : (kind : Kind) (ps : List (List ℕ)) (x : Entry) → Memᴰ x (accepted kind ps) → Memᴰ x (rows ps)
unfolding accepted
accepted_listed standard ps x m = m
accepted_listed (leftmost longest) ps x m = m
accepted_listed (leftmost first) ps x m = kept_listed [] (rows ps) x m

accepted_clears : (ps : List (List ℕ)) → Sorted Clears (accepted (leftmost first) ps)
unfolding accepted
accepted_clears ps = kept_clears [] (rows ps) (rows_rising 0 ps)

-- what is listed is accepted, or something accepted and listed earlier is a proper prefix of it
pub accepted_or_begun : (ps : List (List ℕ)) (x : Entry) → Memᴰ x (rows ps)
    → Memᴰ x (accepted (leftmost first) ps)
    ⊎ ((y : Entry) × Memᴰ y (accepted (leftmost first) ps) × (y.row < x.row) × (proper_prefix y.word x.word ≡ true))
unfolding accepted
accepted_or_begun ps x m =
    ⊎_elim inl (λ r. inr (r.0, ⊎_elim (λ k. absurd (Memᴰ.not-nil k)) (λ k. k) r.1, r.2, r.3))
    (keep_holds [] (rows ps) (rows_rising 0 ps) (λ y w k n. absurd (Memᴰ.not-nil k)) x m)

accepted_rising : (kind : Kind) (ps : List (List ℕ)) → Sorted Earlier (accepted kind ps)
unfolding accepted
accepted_rising standard ps = rows_rising 0 ps
accepted_rising (leftmost longest) ps = rows_rising 0 ps
accepted_rising (leftmost first) ps =
    sorted_weaken Clears Earlier (accepted (leftmost first) ps) (λ x y h k a. a.0) (accepted_clears ps)

pub proper : (kind : Kind) (ps : List (List ℕ)) → Filled ps → Proper (accepted kind ps)
proper kind ps filled = record {
  rising = accepted_rising kind ps;
  filled = λ x m. filled x.word (rows_from_lem 0 ps x (accepted_listed kind ps x m)).1;
}

-- of two accepted the earlier is no proper prefix of the later
accepted_unbegun : (ps : List (List ℕ)) (x y : Entry) → Memᴰ x (accepted (leftmost first) ps)
    → Memᴰ y (accepted (leftmost first) ps) → y.row < x.row → proper_prefix y.word x.word ≡ false
accepted_unbegun ps x y m n l =
    ⊎_elim (λ e. absurd (omega (arith, ap (λ (z : Entry). z.row) e))) (⊎_elim (λ a. a.1) (λ a. absurd (omega (arith, a.0))))
    (sorted_cases Clears (accepted (leftmost first) ps) (accepted_clears ps) y x n m)

pub acceptance : (ps : List (List ℕ)) (x : Entry)
    → Memᴰ x (accepted (leftmost first) ps)
    ↔ (Memᴰ x (rows ps) × ((y : Entry) → Memᴰ y (rows ps) → y.row < x.row → proper_prefix y.word x.word ≡ false))
acceptance ps x = (
  λ m. (accepted_listed (leftmost first) ps x m, unbegun m),
  λ h. ⊎_elim (λ k. k) (λ r. clash r.3 (h.1 r.0 (accepted_listed (leftmost first) ps r.0 r.1) r.2))
      (accepted_or_begun ps x h.0),
)
  where
    -- an earlier one that is dropped begins with an accepted one, which then begins x too
    unbegun : Memᴰ x (accepted (leftmost first) ps) → (y : Entry) → Memᴰ y (rows ps) → y.row < x.row
        → proper_prefix y.word x.word ≡ false
    unbegun m y n l =
        ⊎_elim (λ k. accepted_unbegun ps x y m k l)
        (λ r. false_from_ne_true (proper_prefix y.word x.word)
        (λ h. clash (proper_prefix_trans r.0.word y.word x.word r.3 h)
        (accepted_unbegun ps x r.0 m r.1 (omega (arith, r.2)))))
        (accepted_or_begun ps y n)

-- ---- what is dropped changes no list

-- whatever stands starts with something accepted that is listed no later
covered : (ps : List (List ℕ)) (t : List ℕ) (g : Occurrence) → Stands (rows ps) t g
    → (h : Occurrence) × Stands (accepted (leftmost first) ps) t h × (h.start ≡ g.start) × ((g ≡ h) ⊎ ByRow h g)
covered ps t g st = ⊎_elim (λ k. (g, stands_relisted st k, refl, inl refl)) begun (accepted_or_begun ps st.entry st.listed)
  where
    word : List ℕ
    word = st.entry.word

    begun : (y : Entry) × Memᴰ y (accepted (leftmost first) ps) × (y.row < st.entry.row) × (proper_prefix y.word word ≡ true)
        → (h : Occurrence) × Stands (accepted (leftmost first) ps) t h × (h.start ≡ g.start) × ((g ≡ h) ⊎ ByRow h g)
    begun r =
        let begins = (and_parts (prefix r.0.word word) (ltb (length r.0.word) (length word)) r.3).0 in (
          occurrence_at g.start r.0,
          found_stands (accepted (leftmost first) ps) t g.start r.0 r.1
              (occurs_prefix r.0.word word t g.start begins st.occurring),
          refl,
          inr (inr (refl, omega (arith, r.2, stands_row st))),
        )

-- what is chosen of the accepted is chosen of all that is listed; LeftmostLongest drops nothing
pub same_list : (c : Choice) (ps : List (List ℕ)) (t : List ℕ) → Filled ps
    → leftmost_by c (accepted (leftmost c) ps) t ≡ leftmost_by c (rows ps) t
unfolding accepted
same_list longest ps t filled = refl
same_list first ps t filled =
    chosen_unique ByRow t by_row_asymmetric (rows ps) 0 (leftmost_by first es t) (leftmost_by first (rows ps) t)
    (chosen_wider ByRow t by_row_transitive es (rows ps)
    (λ f st. stands_relisted st (accepted_listed (leftmost first) ps st.entry st.listed)) (covered ps t) 0
    (leftmost_by first es t) (leftmost_is first es t (proper (leftmost first) ps filled)))
    (leftmost_is first (rows ps) t (proper standard ps filled))
  where
    es : List Entry
    es = accepted (leftmost first) ps

-- ---- over what LeftmostFirst accepts, the longest is the first listed

-- of two that occur at one start the shorter begins the longer, and so is listed later
longer_earlier : (ps : List (List ℕ)) (t : List ℕ) (s : ℕ) (x y : Entry) → Memᴰ x (accepted (leftmost first) ps)
    → Memᴰ y (accepted (leftmost first) ps) → occurs x.word t s ≡ true → occurs y.word t s ≡ true
    → length y.word < length x.word → x.row < y.row
longer_earlier ps t s x y m n h k l =
    ⊎_elim (λ e. absurd (omega (arith, ap (λ (z : Entry). length z.word) e)))
    (⊎_elim (λ a. a.0) (λ a. clash begun a.1))
    (sorted_cases Clears (accepted (leftmost first) ps) (accepted_clears ps) x y m n)
  where
    begun : proper_prefix y.word x.word ≡ true
    begun =
        and_from (prefix y.word x.word) (ltb (length y.word) (length x.word))
        (occurs_nested y.word x.word t s k h (omega arith)) (lt-ltb (length y.word) (length x.word) l)

-- so ByLength and ByRow agree on what stands
by_length_by_row : (ps : List (List ℕ)) (t : List ℕ) (f g : Occurrence) → Stands (accepted (leftmost first) ps) t f
    → Stands (accepted (leftmost first) ps) t g → ByLength f g → ByRow f g
by_length_by_row ps t f g a b (inl l) = inl l
by_length_by_row ps t f g a b (inr (e, inl l)) =
    let shorter : length b.entry.word < length a.entry.word = omega (arith, stands_end a, stands_end b) in
    let here : occurs b.entry.word t f.start ≡ true = subst (λ n. occurs b.entry.word t n ≡ true) (sym e) b.occurring in
    let earlier = longer_earlier ps t f.start a.entry b.entry a.listed b.listed a.occurring here shorter in
    inr (e, omega (arith, stands_row a, stands_row b))
by_length_by_row ps t f g a b (inr (e, inr l)) = inr (e, l.1)

-- both lists hold what stands in one order, so they are one
pub longest_is_first : (ps : List (List ℕ)) (t : List ℕ) → Filled ps
    → leftmost_by longest (accepted (leftmost first) ps) t ≡ leftmost_by first (accepted (leftmost first) ps) t
unfolding leftmost_by
longest_is_first ps t filled =
    ap (apart 0)
    (sorted_unique ByRow by_row_asymmetric (by_length es t) (by_row es t)
    (sorted_weaken ByLength ByRow (by_length es t) (λ f g h k. by_length_by_row ps t f g ((long f).0 h) ((long g).0 k))
    (by_length_sorted es t fit))
    (by_row_sorted es t fit) (λ f. (λ h. (row f).1 ((long f).0 h), λ h. (long f).1 ((row f).0 h))))
  where
    es : List Entry
    es = accepted (leftmost first) ps

    fit : Proper es
    fit = proper (leftmost first) ps filled

    long : (f : Occurrence) → Memᴰ f (by_length es t) ↔ Stands es t f
    long = by_length_exact es t fit

    row : (f : Occurrence) → Memᴰ f (by_row es t) ↔ Stands es t f
    row = by_row_exact es t fit
