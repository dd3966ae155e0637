-- What the rows say after a write: they are the chart of the layout that the write is for. A chart is spoken of by two tests, which
-- cells are taken and which bases are used, so that each write changes one of them at one number.
use mathlib.Core.Path.{◌≡◌, refl, sym, ap, ◌∙◌, subst}
use mathlib.Core.Bool.{Bool, true, false, not, ◌||◌, or_assoc, or-false}
use mathlib.Core.List.{List, [], ◌∷◌, Memᴰ}
use Prim.Native.Nat.{ℕ, zero, suc, ◌+◌, ◌*◌, ◌≤◌, ◌<◌}
use native.Mathlib.Decide.{ℕ_discrete}
use native.Mathlib.Omega.{arith}
use lib.Bits.{bit_xor}
use lib.Dec.{eqb}
use lib.ListN.{length, replicate, length-set, length-replicate}
use Rattle.zeros.specs.Rows.{zeros, field}
use Rattle.zeros.proofs.Rows.{field_set_same, field_set_other, field_zeros}
use Rattle.std.proofs.lemmas.Bool.{eq-eqb, ne_eqb, or_right, lt-leb}
use Rattle.list.specs.Limits.{alphabet, block}
use Rattle.plan.specs.Groups.{Group, bytes_of}
use Rattle.plan.specs.Placement.{Layout, one_block, any_of, sits, taken_cell, vacant, used_base, grown, put, Alphabet, Good}
use Rattle.plan.proofs.Layouts.{taken_put, used_put, to_vacant, sitting_within}
use Rattle.trie.proofs.Inserting.{kept_field}
use Rattle.spots.specs.Charted.{with_taken, with_used, with_seated, Charted}

-- bytes are letters, as the laws of a layout ask
pub bytes : Alphabet alphabet
bytes = record { bits = 8; power = refl; two = omega arith }

-- the rows are the chart of the two tests
pub record Chart (rows : List (List ℕ)) (taken used : ℕ → Bool) : Type 0 where
  pub vacancy : (j : ℕ) → j < length rows → eqb (field rows j 0) 0 ≡ not (taken j)
  pub run : (j i : ℕ) → j < length rows → i < field rows j 0 → taken (j + i) ≡ true
  pub bases : (b : ℕ) → b < length rows → eqb (field rows b 1) 0 ≡ not (used b)

chart : {rows : List (List ℕ)} {l : Layout} → Charted rows l → Chart rows (taken_cell l) (used_base l)
chart C = record { vacancy = C.vacancy; run = C.run; bases = C.bases }

charted : {rows : List (List ℕ)} {l : Layout} → Chart rows (taken_cell l) (used_base l) → Charted rows l
charted C = record { vacancy = C.vacancy; run = C.run; bases = C.bases }

-- tests that say the same have the same chart
chart_same : {rows : List (List ℕ)} {T U T' U' : ℕ → Bool} → Chart rows T U → ((j : ℕ) → T j ≡ T' j) → ((b : ℕ) → U b ≡ U' b)
    → Chart rows T' U'
chart_same C t u =
    record {
      vacancy = λ j h. C.vacancy j h ∙ ap not (t j);
      run = λ j i h k. sym (t (j + i)) ∙ C.run j i h k;
      bases = λ b h. C.bases b h ∙ ap not (u b);
    }

-- ---- one write

module _ (rows : List (List ℕ)) (i : ℕ) (inside : i < length rows) where
  taken_at : (n : ℕ) → field (with_taken rows i n) i 0 ≡ n
  taken_at n = field_set_same rows i 0 (n ∷ field rows i 1 ∷ []) inside

  taken_off : (n k : ℕ) → (k ≡ i → ⊥) → field (with_taken rows i n) k 0 ≡ field rows k 0
  taken_off n k h = field_set_other rows i k 0 (n ∷ field rows i 1 ∷ []) h

  taken_bases : (n k : ℕ) → field (with_taken rows i n) k 1 ≡ field rows k 1
  taken_bases n k = kept_field rows i 1 (n ∷ field rows i 1 ∷ []) inside refl k

  used_at : field (with_used rows i) i 1 ≡ 1
  used_at = field_set_same rows i 1 (field rows i 0 ∷ 1 ∷ []) inside

  used_off : (k : ℕ) → (k ≡ i → ⊥) → field (with_used rows i) k 1 ≡ field rows k 1
  used_off k h = field_set_other rows i k 1 (field rows i 0 ∷ 1 ∷ []) h

  used_cells : (k : ℕ) → field (with_used rows i) k 0 ≡ field rows k 0
  used_cells k = kept_field rows i 0 (field rows i 0 ∷ 1 ∷ []) inside refl k

  -- a run is noted at i: all of it is taken, and nothing else than i's cell has become so
  chart_run : (n : ℕ) {T U T' : ℕ → Bool} → Chart rows T U → 0 < n → ((j : ℕ) → (j ≡ i → ⊥) → T j ≡ T' j)
      → ((j : ℕ) → j < n → T' (i + j) ≡ true) → Chart (with_taken rows i n) T' U
  chart_run n {T} {U} {T'} C some off all =
      record {
        vacancy = λ j h. elim (ℕ_discrete j i) [
          | yes e ↦ rw (e, taken_at n, here) (ne_eqb n 0 (λ z. omega arith))
          | no e ↦ rw (taken_off n j e) (C.vacancy j (within j h) ∙ ap not (off j e))
        ];
        run = λ j k h m. elim (ℕ_discrete j i) [
          | yes e ↦ let q : k < n = rw (e, taken_at n) at m in rw e (all k q)
          | no e ↦ later j k (within j h) e (rw (taken_off n j e) at m)
        ];
        bases = λ b h. rw (taken_bases n b) (C.bases b (within b h));
      }
    where
      within : (j : ℕ) → j < length (with_taken rows i n) → j < length rows
      within j h = omega (arith, length-set rows i (n ∷ field rows i 1 ∷ []))

      here : T' i ≡ true
      here = let e : i + 0 ≡ i = omega arith in subst (λ (j : ℕ). T' j ≡ true) e (all 0 some)

      later : (j k : ℕ) → j < length rows → (j ≡ i → ⊥) → k < field rows j 0 → T' (j + k) ≡ true
      later j k h e m =
          elim (ℕ_discrete (j + k) i) [
            | yes q ↦ rw q here
            | no q ↦ sym (off (j + k) q) ∙ C.run j k h m
          ]

  -- one cell more is taken
  chart_cell : {T U : ℕ → Bool} → Chart rows T U → Chart (with_taken rows i 1) (λ j. T j || eqb i j) U
  chart_cell {T} {U} C =
      chart_run 1 C (omega arith) (λ j h. rw (ne_eqb i j (λ e. h (sym e))) (sym (or-false (T j))))
      (λ j h. let e : i ≡ i + j = omega arith in or_right (T (i + j)) (eqb i (i + j)) (eq-eqb i (i + j) e))

  -- one base more is used
  chart_base : {T U : ℕ → Bool} → Chart rows T U → Chart (with_used rows i) T (λ b. U b || eqb i b)
  chart_base {T} {U} C =
      record {
        vacancy = λ j h. rw (used_cells j) (C.vacancy j (within j h));
        run = λ j k h m. C.run j k (within j h) (rw (used_cells j) at m);
        bases = λ b h. elim (ℕ_discrete b i) [
          | yes e ↦ rw (e, used_at, or_right (U i) (eqb i i) (eq-eqb i i refl))
          | no e ↦ rw (used_off b e, ne_eqb i b (λ q. e (sym q)), or-false (U b)) (C.bases b (within b h))
        ];
      }
    where
      within : (j : ℕ) → j < length (with_used rows i) → j < length rows
      within j h = omega (arith, length-set rows i (field rows i 0 ∷ 1 ∷ []))

-- ---- a group takes its cells

pub seated_length : (rows : List (List ℕ)) (b : ℕ) (cs : List ℕ) → length (with_seated rows b cs) ≡ length rows
unfolding with_seated
seated_length rows b [] = refl
seated_length rows b (c ∷ cs) =
    seated_length (with_taken rows (bit_xor b c) 1) b cs ∙ length-set rows (bit_xor b c) (1 ∷ field rows (bit_xor b c) 1 ∷ [])

chart_seated : (rows : List (List ℕ)) (b : ℕ) (cs : List ℕ) {T U : ℕ → Bool} → Chart rows T U
    → ((c : ℕ) → Memᴰ c cs → bit_xor b c < length rows)
    → Chart (with_seated rows b cs) (λ j. T j || any_of (λ c. eqb (bit_xor b c) j) cs) U
unfolding with_seated any_of
chart_seated rows b [] {T} C within = chart_same C (λ j. sym (or-false (T j))) (λ _. refl)
chart_seated rows b (c ∷ cs) {T} {U} C within =
    chart_same
    (chart_seated (with_taken rows (bit_xor b c) 1) b cs (chart_cell rows (bit_xor b c) (within c (Memᴰ.head refl)) C)
    (λ d m. omega (arith, within d (Memᴰ.tail m), length-set rows (bit_xor b c) (1 ∷ field rows (bit_xor b c) 1 ∷ []))))
    (λ j. or_assoc (T j) (eqb (bit_xor b c) j) (any_of (λ d. eqb (bit_xor b d) j) cs)) (λ _. refl)

-- ---- the charts of layouts

-- a block more changes nothing
pub charted_grown : {rows : List (List ℕ)} {l : Layout} → Charted rows l → Charted rows (grown l)
unfolding taken_cell used_base
charted_grown C = record { vacancy = C.vacancy; run = C.run; bases = C.bases }

-- the group with the base of index i
pub charted_put : {rows : List (List ℕ)} {l : Layout} → Charted rows l → (g : Group) (i b : ℕ) → b ≡ bit_xor i g.low → b < length rows
    → ((c : ℕ) → Memᴰ c (bytes_of g) → bit_xor b c < length rows) → Charted (with_seated (with_used rows b) b (bytes_of g)) (put l g i)
unfolding sits
charted_put {rows} {l} C g i b e h within =
    charted
    (chart_same
    (chart_seated (with_used rows b) b (bytes_of g) (chart_base rows b h (chart C))
    (λ c m. omega (arith, within c m, length-set rows b (field rows b 0 ∷ 1 ∷ []))))
    cells bases)
  where
    cells : (j : ℕ) → (taken_cell l j || any_of (λ c. eqb (bit_xor b c) j) (bytes_of g)) ≡ taken_cell (put l g i) j
    cells j = rw e (sym (taken_put l g i j))

    bases : (d : ℕ) → (used_base l d || eqb b d) ≡ used_base (put l g i) d
    bases d = rw e (sym (used_put l g i d))

-- with nothing placed, root's and dead's cells are taken, and no base is used
begun_cells : (j : ℕ) → (eqb 0 j || eqb 1 j) ≡ taken_cell one_block j
unfolding taken_cell any_of
begun_cells zero = refl
begun_cells (suc zero) = refl
begun_cells (suc (suc j)) =
    rw (ne_eqb 0 (suc (suc j)) (λ z. omega arith), ne_eqb 1 (suc (suc j)) (λ z. omega arith), lt-leb (suc (suc j)) 1 (omega arith))

begun_bases : (b : ℕ) → false ≡ used_base one_block b
unfolding used_base any_of
begun_bases b = refl

-- rows of zeros chart nothing
chart_zeros : (n : ℕ) → Chart (replicate n (zeros 2)) (λ _. false) (λ _. false)
chart_zeros n =
    record {
      vacancy = λ j _. rw (field_zeros n 2 j 0);
      run = λ j i _ h. absurd (omega (arith, field_zeros n 2 j 0));
      bases = λ b _. rw (field_zeros n 2 b 1);
    }

-- the first layout: rows of zeros with root's and dead's cells taken
pub charted_begun : (rows : List (List ℕ)) (n : ℕ) → rows ≡ replicate n (zeros 2) → 2 ≤ n
    → Charted (with_taken (with_taken rows 0 1) 1 1) one_block
charted_begun rows n e two =
    charted
    (chart_same
    (chart_cell (with_taken rows 0 1) 1 (omega (arith, many, length-set rows 0 (1 ∷ field rows 0 1 ∷ [])))
    (chart_cell rows 0 (omega (arith, many)) untouched))
    begun_cells begun_bases)
  where
    many : length rows ≡ n
    many = ap length e ∙ length-replicate n (zeros 2)

    untouched : Chart rows (λ _. false) (λ _. false)
    untouched = rw e (chart_zeros n)

-- ---- past the blocks

pub vacant_past : {l : Layout} → Good alphabet l → (j : ℕ) → l.blocks * block ≤ j → 1 < j → vacant l j ≡ true
vacant_past {l} G j h k = to_vacant l j k (λ s. let w = sitting_within alphabet bytes l G j s in let z : ⊥ = omega arith in z)
