-- (E) One call of the leftmost walk gives the best of all occurrences that start at p or later: the smallest start, then the longest,
-- then the earliest listed. What is kept is at any time the best of those that have ended; a fall to dead, or root with something
-- kept, shows that all others start later.
use mathlib.Core.Path.{◌≡◌, refl, sym, ap, ap₂, ◌∙◌, subst}
use mathlib.Core.Bool.{Bool, true, false, not, ◌&&◌}
use mathlib.Core.List.Memᴰ
use mathlib.Core.List.{List, [], ◌∷◌, ◌++◌, append-nil, Memᴰ}
use mathlib.Core.Logic.{◌⊎◌, inl, inr, ⊎_elim}
use mathlib.Core.Option.{Option, none, some}
use Prim.Native.Nat.{ℕ, suc, ◌+◌, ◌-◌, ◌≤◌, ◌<◌}
use native.Mathlib.Decide.{dec_lt}
use native.Mathlib.Omega.{arith}
use lib.ListN.{length, drop, length-drop}
use lib.Seq.{drop-append-le}
use Rattle.paper.specs.Lists.{pick, same, prefix, snoc, is_nil, Sorted}
use Rattle.paper.specs.Patterns.{Entry, Choice, leftmost, Proper}
use Rattle.paper.specs.Matches.{occurs, Occurrence, occurrence_at, ByLength}
use Rattle.paper.specs.Automaton.{Machine, machine, is_state, own_of, longest_state, before, chain, output, end_at, Walk, step, keeping, is_some, Given, giving, says_next}
use Rattle.std.proofs.lemmas.Bool.{or_left, or_right}
use Rattle.paper.proofs.Tests.{test, clash}
use Rattle.paper.proofs.Strings.{same_eq, same_refl, prefix_refl, prefix_append, prefix_length, prefix_of, prefix_same, prefix_trans, snoc_append, length_snoc}
use Rattle.paper.proofs.Order.{in_those, to_those, sorted_those}
use Rattle.paper.proofs.Longest.{longest_step}
use Rattle.paper.proofs.Links.{Lawful, hunt_found, before_step}
use Rattle.paper.proofs.Machines.{lawful}
use Rattle.paper.proofs.Outputs.{endings, output_here}
use Rattle.paper.proofs.Stops.{Begun, starts_begun, begun_starts, longest_most, Sooner, before_sooner, Leading, endings_leading, Covered, endings_covered}

-- ---- entries, own outputs and states

module _ (es : List Entry) where
  -- a state's own outputs are the entries that are its string
  pub in_own : (s : List ℕ) {x : Entry} → Memᴰ x (own_of es s) → Memᴰ x es × (x.word ≡ s)
  unfolding own_of
  in_own s {x} m = let r = in_those (λ y. same y.word s) es m in (r.0, same_eq x.word s r.1)

  pub to_own : (x : Entry) → Memᴰ x es → Memᴰ x (own_of es x.word)
  unfolding own_of
  to_own x m = to_those (λ y. same y.word x.word) es m (same_refl x.word)

  rising_own : (s : List ℕ) → Proper es → Sorted (λ x y. x.row < y.row) (own_of es s)
  unfolding own_of
  rising_own s P = sorted_those (λ x y. x.row < y.row) (λ y. same y.word s) es P.rising

  pub own_some : (l : List Entry) {x : Entry} → Memᴰ x l → not (is_nil l) ≡ true
  own_some [] m = absurd (Memᴰ.not-nil m)
  own_some (y ∷ l) m = refl

  pub own_entry : (s : List ℕ) (l : List Entry) → own_of es s ≡ l → not (is_nil l) ≡ true → (x : Entry) × Memᴰ x es × (x.word ≡ s)
  own_entry s [] e h = clash refl (sym h)
  own_entry s (x ∷ l) e h =
      let r = in_own s (subst (λ (k : List Entry). Memᴰ x k) (sym e) (Memᴰ.head refl)) in (x, r.0, r.1)

pub entry_state : (es : List Entry) (x : Entry) (s : List ℕ) → Memᴰ x es → prefix s x.word ≡ true → is_state es s ≡ true
unfolding is_state
entry_state [] x s m h = absurd (Memᴰ.not-nil m)
entry_state (y ∷ es) x s m h =
    ⊎_elim (λ e. or_left (prefix s y.word) (is_state es s) (subst (λ (z : Entry). prefix s z.word ≡ true) e h))
    (λ k. or_right (prefix s y.word) (is_state es s) (entry_state es x s k h))
    (Memᴰ.cases_cons m)

-- ---- occurrences in q, the text from p on

-- g is an occurrence in q, and its places count from p
pub record From (es : List Entry) (q : List ℕ) (p : ℕ) (g : Occurrence) : Type 0 where
  pub entry : Entry
  pub listed : Memᴰ entry es
  pub offset : ℕ
  pub lies : occurs entry.word q offset ≡ true
  pub is : g ≡ occurrence_at (p + offset) entry

-- what is kept is the best of those that end within the first m bytes of q
abbrev pub Kept : List Entry → List ℕ → ℕ → ℕ → Option Occurrence → Type 0
Kept es q p m none = (g : Occurrence) → From es q p g → g.end ≤ p + m → ⊥
Kept es q p m (some f) = From es q p f × (f.end ≤ p + m) × ((g : Occurrence) → From es q p g → g.end ≤ p + m → (g ≡ f) ⊎ ByLength f g)

not_before : (f g : Occurrence) → (g ≡ f) ⊎ ByLength f g → f.start ≤ g.start
not_before f g (inl e) = omega (arith, ap (λ (h : Occurrence). h.start) e)
not_before f g (inr (inl h)) = omega arith
not_before f g (inr (inr h)) = omega (arith, h.0)

module _ (es : List Entry) (P : Proper es) where
  -- a pattern that lies at an offset ends inside
  lies_inside : (x : Entry) (q : List ℕ) (o : ℕ) → Memᴰ x es → occurs x.word q o ≡ true → (o < length q) × (o + length x.word ≤ length q)
  unfolding occurs
  lies_inside x q o m h =
      let l = prefix_length x.word (drop o q) h in
      let k = P.filled x m in
      omega (arith, l, k, length-drop o q)

  from_start : (q : List ℕ) (p : ℕ) (g : Occurrence) (F : From es q p g) → g.start ≡ p + F.offset
  from_start q p g F = ap (λ (h : Occurrence). h.start) F.is

  from_end : (q : List ℕ) (p : ℕ) (g : Occurrence) (F : From es q p g) → g.end ≡ p + F.offset + length F.entry.word
  from_end q p g F = ap (λ (h : Occurrence). h.end) F.is

  pub ends_inside : (q : List ℕ) (p : ℕ) (g : Occurrence) → From es q p g → (g.start < g.end) × (g.end ≤ p + length q)
  ends_inside q p g F =
      let l = lies_inside F.entry q F.offset F.listed F.lies in
      omega (arith, l, P.filled F.entry F.listed, from_start q p g F, from_end q p g F)

  -- q is u, which was read, and r
  module _ (u r : List ℕ) where
    -- what ends within u lies in u
    lies_read : (x : Entry) (o : ℕ) → o ≤ length u → o + length x.word ≤ length u → occurs x.word (u ++ r) o ≡ true → occurs x.word u o ≡ true
    unfolding occurs
    lies_read x o l k h =
        prefix_of x.word (drop o u) (drop o u ++ r) (rw (drop-append-le o u r l) at h) (prefix_append (drop o u) r) (omega (arith, length-drop o u))

    -- what ends later leaves a state at the end of u
    state_left : (x : Entry) (o : ℕ) → Memᴰ x es → o ≤ length u → length u ≤ o + length x.word → occurs x.word (u ++ r) o ≡ true
        → is_state es (drop o u) ≡ true
    unfolding occurs
    state_left x o m l k h =
        entry_state es x (drop o u) m
        (prefix_of (drop o u) x.word (drop o u ++ r) (prefix_append (drop o u) r) (rw (drop-append-le o u r l) at h) (omega (arith, length-drop o u)))

    lies_on : (x : Entry) (o : ℕ) → Memᴰ x es → occurs x.word u o ≡ true → occurs x.word (u ++ r) o ≡ true
    unfolding occurs
    lies_on x o m h =
        let l = lies_inside x u o m h in
        rw (drop-append-le o u r (omega (arith, l))) (prefix_trans x.word (drop o u) (drop o u ++ r) h (prefix_append (drop o u) r))

    from_read : (p : ℕ) (x : Entry) (o : ℕ) → Memᴰ x es → occurs x.word u o ≡ true → From es (u ++ r) p (occurrence_at (p + o) x)
    from_read p x o m h = record { entry = x; listed = m; offset = o; lies = lies_on x o m h; is = refl }

  module _ (choice : Choice) (p : ℕ) where
    abbrev pub M : Machine
    M = machine (leftmost choice) es

    L : Lawful M
    L = lawful (leftmost choice) es P

    abbrev pub S : List ℕ → Bool
    S = is_state es

    stop_entry : (v : List ℕ) → M.stops v ≡ true → (x : Entry) × Memᴰ x es × (x.word ≡ v)
    stop_entry v h = own_entry es v (own_of es v) refl h

    entry_stops : (x : Entry) → Memᴰ x es → M.stops x.word ≡ true
    entry_stops x m = own_some es (own_of es x.word) (to_own es x m)

    -- if all that end later than m start after it, what is kept is the best of all
    kept_final : (q : List ℕ) (m : ℕ) (f : Occurrence) → Kept es q p m (some f)
        → ((g : Occurrence) → From es q p g → p + m < g.end → f.start < g.start) → Kept es q p (length q) (some f)
    kept_final q m f K later = (
      K.0,
      (ends_inside q p f K.0).1,
      λ g G h. elim (dec_lt (p + m) g.end) [ yes l ↦ inr (inl (later g G l)) | no l ↦ K.2 g G (omega arith) ],
    )

    -- a state that is left at the end of u starts no earlier than the longest
    left_late : (u r : List ℕ) (g : Occurrence) (G : From es (u ++ r) p g) → G.offset ≤ length u → p + length u ≤ g.end
        → length u ≤ G.offset + length (longest_state S u)
    left_late u r g G l k =
        let s = state_left u r G.entry G.offset G.listed l (omega (arith, from_end (u ++ r) p g G)) G.lies in
        omega (arith, longest_most M u G.offset s, length-drop G.offset u)

    -- ---- the byte falls to dead

    -- an entry that lies at o and reaches the end of u is the suffix from o
    suffix_is : (x : Entry) (u : List ℕ) (o : ℕ) → occurs x.word u o ≡ true → length u ≤ o + length x.word → x.word ≡ drop o u
    unfolding occurs
    suffix_is x u o h k = prefix_same x.word (drop o u) h (omega (arith, length-drop o u))

    -- what starts before the longest suffix that is a state has ended before the last byte
    sooner_ended : (u : List ℕ) (s : Sooner M u) (x : Entry) → Memᴰ x es → x.word ≡ s.word → s.offset + length x.word < length u
    sooner_ended u s x m e =
        elim (dec_lt (s.offset + length x.word) (length u)) [
          | yes k ↦ k
          | no k ↦ let same : x.word ≡ drop s.offset u = suffix_is x u s.offset (rw e s.lies) (omega arith) in
              let state : S (drop s.offset u) ≡ true = entry_state es x (drop s.offset u) m (rw same (prefix_refl (drop s.offset u))) in
              absurd (omega (arith, s.sooner, length-drop s.offset u, longest_most M u s.offset state))
        ]

    -- so what is kept starts no later than that, and is there; everything that ends later starts after it
    fallen : (u : List ℕ) (b : ℕ) (r : List ℕ) (kept : Option Occurrence) → before S M.stops (snoc u b) ≡ true
        → Kept es (snoc u b ++ r) p (length u) kept → Kept es (snoc u b ++ r) p (length (snoc u b ++ r)) kept × (is_some kept ≡ true)
    fallen u b r kept h K = go kept K
      where
        s : Sooner M (snoc u b)
        s = before_sooner M (snoc u b) h

        e : (x : Entry) × Memᴰ x es × (x.word ≡ s.word)
        e = stop_entry s.word s.stopping

        ended : s.offset + length e.0.word ≤ length u
        ended = omega (arith, sooner_ended (snoc u b) s e.0 e.1 e.2, length_snoc u b)

        witness : From es (snoc u b ++ r) p (occurrence_at (p + s.offset) e.0)
        witness = from_read (snoc u b) r p e.0 s.offset e.1 (rw e.2 s.lies)

        later : (g : Occurrence) → From es (snoc u b ++ r) p g → p + length u < g.end → p + s.offset < g.start
        later g G k =
            elim (dec_lt (length (snoc u b)) G.offset) [
              | yes l ↦ omega (arith, s.sooner, from_start (snoc u b ++ r) p g G)
              | no l ↦ omega (arith, s.sooner, from_start (snoc u b ++ r) p g G, left_late (snoc u b) r g G (omega arith) (omega (arith, length_snoc u b)))
            ]

        go : (k : Option Occurrence) → Kept es (snoc u b ++ r) p (length u) k
            → Kept es (snoc u b ++ r) p (length (snoc u b ++ r)) k × (is_some k ≡ true)
        go none N = absurd (N (occurrence_at (p + s.offset) e.0) witness (omega (arith, ended)))
        go (some f) N =
            let first : f.start ≤ p + s.offset = not_before f (occurrence_at (p + s.offset) e.0) (N.2 _ witness (omega (arith, ended))) in
            (kept_final (snoc u b ++ r) (length u) f N (λ g G k. omega (arith, first, later g G k)), refl)

    -- ---- the byte puts nothing out

    -- an occurrence that ended earlier and starts before g
    pub record Ahead (q : List ℕ) (m : ℕ) (g : Occurrence) : Type 0 where
      pub ahead : Occurrence
      pub stands : From es q p ahead
      pub ended : ahead.end ≤ p + m
      pub earlier : ahead.start < g.start

    -- what ends with the byte and isn't put out has one ahead
    unsaid : (u : List ℕ) (b : ℕ) (r : List ℕ) (g : Occurrence) → endings M (snoc u b) ≡ [] → From es (snoc u b ++ r) p g
        → g.end ≡ p + length (snoc u b) → Ahead (snoc u b ++ r) (length u) g
    unfolding occurs
    unsaid u b r g e G k =
        record {
          ahead = occurrence_at (p + c.offset) x.0;
          stands = from_read v r p x.0 c.offset x.1 (rw x.2 w.prefixed);
          ended = omega (arith, shorter, length_snoc u b);
          earlier = omega (arith, c.sooner, from_start (v ++ r) p g G);
        }
      where
        v : List ℕ
        v = snoc u b

        reaches : G.offset + length G.entry.word ≡ length v
        reaches = omega (arith, k, from_end (v ++ r) p g G)

        inside : G.offset < length v
        inside = omega (arith, reaches, P.filled G.entry G.listed)

        suffix : G.entry.word ≡ drop G.offset v
        suffix = suffix_is G.entry v G.offset (lies_read v r G.entry G.offset (omega (arith, inside)) (omega (arith, reaches)) G.lies) (omega (arith, reaches))

        c : Covered M v G.offset
        c = endings_covered M (λ s. refl) v G.offset e inside (subst (λ (l : List ℕ). M.stops l ≡ true) suffix (entry_stops G.entry G.listed))

        w : Begun M.stops (drop c.offset v)
        w = starts_begun M.stops (drop c.offset v) c.starting

        x : (y : Entry) × Memᴰ y es × (y.word ≡ w.word)
        x = stop_entry w.word w.stopping

        -- the suffix there has no own output, so what begins it is shorter
        shorter : c.offset + length x.0.word < length v
        shorter =
            elim (dec_lt (c.offset + length x.0.word) (length v)) [
              | yes l ↦ l
              | no l ↦ let same : x.0.word ≡ drop c.offset v = suffix_is x.0 v c.offset (rw x.2 w.prefixed) (omega arith) in
                  clash (subst (λ (l : List ℕ). M.stops l ≡ true) same (entry_stops x.0 x.1)) (rw c.own)
            ]

    passed : (u : List ℕ) (b : ℕ) (r : List ℕ) (kept : Option Occurrence) → endings M (snoc u b) ≡ []
        → Kept es (snoc u b ++ r) p (length u) kept → Kept es (snoc u b ++ r) p (length (snoc u b)) kept
    passed u b r none e N =
        λ g G k. elim (dec_lt (p + length u) g.end) [
          | yes l ↦ let a = unsaid u b r g e G (omega (arith, length_snoc u b)) in N a.ahead a.stands a.ended
          | no l ↦ N g G (omega arith)
        ]
    passed u b r (some f) e N = (
      N.0,
      omega (arith, N.1, length_snoc u b),
      λ g G k. elim (dec_lt (p + length u) g.end) [
        | yes l ↦ let a = unsaid u b r g e G (omega (arith, length_snoc u b)) in
            inr (inl (omega (arith, a.earlier, not_before f a.ahead (N.2 a.ahead a.stands a.ended))))
        | no l ↦ N.2 g G (omega arith)
      ],
    )

    -- ---- the byte puts something out

    module _ (u r : List ℕ) (x : Entry) (d : Leading M u x) where
      leading_entry : Memᴰ x es × (x.word ≡ drop d.offset u)
      leading_entry = in_own es (drop d.offset u) (subst (λ (l : List Entry). Memᴰ x l) (sym d.own) (Memᴰ.head refl))

      leading_end : d.offset + length x.word ≡ length u
      leading_end = omega (arith, d.inside, ap length leading_entry.1, length-drop d.offset u)

      leading_lies : occurs x.word u d.offset ≡ true
      unfolding occurs
      leading_lies = rw leading_entry.1 (prefix_refl (drop d.offset u))

      -- of equal patterns the first own output is the earliest listed
      leading_row : (y : Entry) → Memᴰ y es → y.word ≡ drop d.offset u → (y ≡ x) ⊎ (x.row < y.row)
      leading_row y m e =
          let own : Memᴰ y (x ∷ d.others)
          = subst (λ (l : List Entry). Memᴰ y l) d.own (subst (λ (w : List ℕ). Memᴰ y (own_of es w)) e (to_own es y m)) in
          let sorted : Sorted (λ a b. a.row < b.row) (x ∷ d.others)
          = subst (λ (l : List Entry). Sorted (λ a b. a.row < b.row) l) d.own (rising_own es (drop d.offset u) P) in
          ⊎_elim (λ q. inl q) (λ q. inr (sorted.0 y q)) (Memᴰ.cases_cons own)

      -- no other that lies in u starts earlier
      leading_first : (y : Entry) (o : ℕ) → Memᴰ y es → occurs y.word u o ≡ true → d.offset ≤ o
      unfolding occurs
      leading_first y o m h =
          elim (dec_lt o d.offset) [
            | yes l ↦ clash (begun_starts M.stops (drop o u) y.word h (entry_stops y m)) (d.none_sooner o l)
            | no l ↦ omega arith
          ]

      leading_best : (y : Entry) (o : ℕ) → Memᴰ y es → occurs y.word u o ≡ true
          → (occurrence_at (p + o) y ≡ occurrence_at (p + d.offset) x) ⊎ ByLength (occurrence_at (p + d.offset) x) (occurrence_at (p + o) y)
      leading_best y o m h =
          let first = leading_first y o m h in
          let inside = lies_inside y u o m h in
          elim (dec_lt d.offset o) [
            | yes l ↦ inr (inl (omega arith))
            | no l ↦ let same : o ≡ d.offset = omega arith in
                elim (dec_lt (o + length y.word) (length u)) [
                  | yes k ↦ inr (inr (omega arith, inl (omega (arith, leading_end))))
                  | no k ↦ let whole : y.word ≡ drop o u = suffix_is y u o h (omega arith) in
                      ⊎_elim (λ q. inl (ap₂ (λ (i : ℕ) (z : Entry). occurrence_at (p + i) z) same q))
                      (λ q. inr (inr (omega arith, inr (omega (arith, inside, leading_end), q))))
                      (leading_row y m (whole ∙ ap (λ (i : ℕ). drop i u) same))
                ]
          ]

      leading_kept : Kept es (u ++ r) p (length u) (some (occurrence_at (p + d.offset) x))
      leading_kept = (
        from_read u r p x d.offset leading_entry.0 leading_lies,
        omega (arith, leading_end),
        λ g G k. subst (λ (f : Occurrence). (f ≡ occurrence_at (p + d.offset) x) ⊎ ByLength (occurrence_at (p + d.offset) x) f) (sym G.is)
            (leading_best G.entry G.offset G.listed (read_lies g G k)),
      )
        where
          read_lies : (g : Occurrence) (G : From es (u ++ r) p g) → g.end ≤ p + length u → occurs G.entry.word u G.offset ≡ true
          read_lies g G k =
              let e = from_end (u ++ r) p g G in
              lies_read u r G.entry G.offset (omega (arith, e)) (omega (arith, e)) G.lies

    -- so the first that is put out is the best so far
    taken : (u r : List ℕ) (x : Entry) (xs : List Entry) → endings M u ≡ x ∷ xs → Kept es (u ++ r) p (length u) (some (end_at (p + length u) x))
    taken u r x xs e =
        let d = endings_leading M (λ s. refl) u x xs e in
        let long = leading_end u r x d in
        let start : p + length u - length x.word ≡ p + d.offset = omega (arith, long) in
        let end : p + length u ≡ p + d.offset + length x.word = omega (arith, long) in
        subst (λ (f : Occurrence). Kept es (u ++ r) p (length u) (some f)) (λ i. record { start = sym start i; end = sym end i; row = x.row })
        (leading_kept u r x d)

    -- ---- the byte ends at root

    at_root_lem : (u r : List ℕ) (f : Occurrence) → longest_state S u ≡ [] → Kept es (u ++ r) p (length u) (some f)
        → Kept es (u ++ r) p (length (u ++ r)) (some f)
    at_root_lem u r f e K = kept_final (u ++ r) (length u) f K later
      where
        later : (g : Occurrence) → From es (u ++ r) p g → p + length u < g.end → f.start < g.start
        later g G k =
            let before-end = (ends_inside (u ++ r) p f K.0).0 in
            let starts-at = from_start (u ++ r) p g G in
            elim (dec_lt (length u) G.offset) [
              | yes l ↦ omega (arith, before-end, K.1, starts-at)
              | no l ↦ omega (arith, before-end, K.1, starts-at, ap length e, left_late u r g G (omega arith) (omega arith))
            ]

    -- ---- one call

    step_dead : (w : Walk) (u : List ℕ) (b : ℕ) → w.state ≡ longest_state S u → before S M.stops u ≡ false
        → before S M.stops (snoc u b) ≡ true → (step M w b).state ≡ []
    unfolding step
    step_dead w u b e h k =
        let here : before S M.stops (snoc w.state b) ≡ true = rw e (sym (rw h at (before_step M L u b)) ∙ k) in
        rw (hunt_found M L (length w.state) w.state b (omega arith), here)

    step_on : (w : Walk) (u : List ℕ) (b : ℕ) → w.state ≡ longest_state S u → before S M.stops u ≡ false
        → before S M.stops (snoc u b) ≡ false → (step M w b).state ≡ longest_state S (snoc u b)
    unfolding step
    step_on w u b e h k =
        let here : before S M.stops (snoc w.state b) ≡ false = rw e (sym (rw h at (before_step M L u b)) ∙ k) in
        rw (hunt_found M L (length w.state) w.state b (omega arith), here)
        (ap (λ (l : List ℕ). longest_state S (snoc l b)) e ∙ sym (longest_step S L.states u b))

    -- a call ends here or goes on, and gives the best either way
    finish : (u r s : List ℕ) (now : Option Occurrence) (moves : ℕ) (on : Given) → s ≡ longest_state S u → Kept es (u ++ r) p (length u) now
        → Kept es (u ++ r) p (length (u ++ r)) on.given → Kept es (u ++ r) p (length (u ++ r)) (pick (is_nil s && is_some now) (giving now moves) on).given
    finish u r [] none moves on e K J = J
    finish u r [] (some f) moves on e K J = at_root_lem u r f (sym e) K
    finish u r (x ∷ xs) none moves on e K J = J
    finish u r (x ∷ xs) (some f) moves on e K J = J

    -- what is kept after a byte that doesn't fall
    keeps : (u : List ℕ) (b : ℕ) (r : List ℕ) (kept : Option Occurrence) (o : List Entry) → endings M (snoc u b) ≡ o
        → Kept es (snoc u b ++ r) p (length u) kept → Kept es (snoc u b ++ r) p (length (snoc u b)) (keeping (suc (p + length u)) o kept)
    keeps u b r kept [] e K = passed u b r kept e K
    keeps u b r kept (x ∷ xs) e K =
        let n : p + length (snoc u b) ≡ suc (p + length u) = omega (arith, length_snoc u b) in
        subst (λ (k : ℕ). Kept es (snoc u b ++ r) p (length (snoc u b)) (some (end_at k x))) n (taken (snoc u b) r x xs e)

    pub says_next_lem : (w : Walk) (u r : List ℕ) (kept : Option Occurrence) → w.state ≡ longest_state S u → before S M.stops u ≡ false
        → Kept es (u ++ r) p (length u) kept → Kept es (u ++ r) p (length (u ++ r)) (says_next M w (p + length u) kept r).given
    unfolding says_next chain
    says_next_lem w u [] kept e h K = rw (append-nil u) (rw (append-nil u) at K)
    says_next_lem w u (b ∷ r) kept e h K =
        let v = step M w b in
        let K' : Kept es (snoc u b ++ r) p (length u) kept = rw (snoc_append u b r) K in
        let n : p + length (snoc u b) ≡ suc (p + length u) = omega (arith, length_snoc u b) in
        rw (← snoc_append u b r)
        (test (before S M.stops (snoc u b))
        (λ d. let f = fallen u b r kept d K' in rw (step_dead w u b e h d, f.1) f.0)
        (λ d. let s = step_on w u b e h d in
        let o : output M v.state ≡ endings M (snoc u b) = ap (output M) s ∙ output_here M L (snoc u b) d in
        let now = keeps u b r kept (output M v.state) (sym o) K' in
        finish (snoc u b) r v.state (keeping (suc (p + length u)) (output M v.state) kept) v.moves _ s now
        (subst (λ (k : ℕ). Kept es (snoc u b ++ r) p (length (snoc u b ++ r)) (says_next M v k (keeping (suc (p + length u)) (output M v.state) kept) r).given) n
        (says_next_lem v (snoc u b) r (keeping (suc (p + length u)) (output M v.state) kept) s d now))))
