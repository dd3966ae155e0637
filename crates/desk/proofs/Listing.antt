-- Laws of the whole list: what the loop over its lines keeps, and what each way out of it ends with.
use mathlib.Core.Path.{◌≡◌, refl, sym, ap, ◌∙◌}
use mathlib.Core.List.{List, [], ◌∷◌, ◌++◌, append_assoc, append-nil}
use Prim.Native.Nat.{ℕ, suc, ◌+◌, ◌≤◌, ◌<◌}
use native.Mathlib.Numerals.{add-one}
use native.Mathlib.Omega.{arith}
use lib.Dec.{eqb}
use lib.ListN.{length, take, set, length-append}
use lib.Seq.{take-suc-set}
use Rattle.std.proofs.Common.{length-take}
use Rattle.std.specs.Int.{from_bool}
use Rattle.std.specs.Prelude.{Option, Some, None}
use Rattle.std.proofs.lemmas.Bool.{le-leb, lt-leb}
use Rattle.paper.proofs.Tests.{test}
use Rattle.desk.specs.Stretches.{line_feed, on_first, lines_of, bare_length, bare}
use Rattle.desk.specs.Rows.{Listed, row_of, row_told}
use Rattle.desk.specs.Codes.{Listing, rows, bad_value, too_many, after, listing, codes, joined, ends_from, values_of, marks_of, Held, Taken}
use Rattle.desk.specs.declared.rows.Row.{Row}

-- ---- how many lines there are, and how many bytes in them

abbrev pub bytes_in : List (List ℕ) → ℕ
bytes_in [] = 0
bytes_in (l ∷ ls) = length l + bytes_in ls

count_first : (x : ℕ) (ls : List (List ℕ)) → length (on_first x ls) ≤ suc (length ls)
count_first x [] = omega arith
count_first x (l ∷ ls) = omega arith

bytes_first : (x : ℕ) (ls : List (List ℕ)) → bytes_in (on_first x ls) ≡ suc (bytes_in ls)
bytes_first x [] = refl
bytes_first x (l ∷ ls) = omega arith

count_most : (xs : List ℕ) → length (lines_of xs) ≤ length xs
unfolding lines_of
count_most [] = omega arith
count_most (x ∷ xs) =
    test (eqb x line_feed) (λ e. rw e (omega (arith, count_most xs))) (λ e. rw e (omega (arith, count_most xs, count_first x (lines_of xs))))

bytes_most : (xs : List ℕ) → bytes_in (lines_of xs) ≤ length xs
unfolding lines_of
bytes_most [] = omega arith
bytes_most (x ∷ xs) =
    test (eqb x line_feed) (λ e. rw e (omega (arith, bytes_most xs))) (λ e. rw e (omega (arith, bytes_most xs, bytes_first x (lines_of xs))))

pub bare_most : (line : List ℕ) → length (bare line) ≤ length line
bare_most line = most (bare_length line) line where
  most : (n : ℕ) (xs : List ℕ) → length (take n xs) ≤ length xs
  most n xs = omega (arith, length-take n xs)

-- ---- rows behind others

after_nothing : (said : Listing) → after [] said ≡ said
after_nothing (rows more) = refl
after_nothing (bad_value k) = refl
after_nothing too_many = refl

after_one : (rs : List Listed) (r : Listed) (said : Listing) → after (rs ++ (r ∷ [])) said ≡ after rs (after (r ∷ []) said)
after_one rs r (rows more) = ap rows (append_assoc rs (r ∷ []) more)
after_one rs r (bad_value k) = refl
after_one rs r too_many = refl

joined_one : (rs : List Listed) (r : Listed) → joined (rs ++ (r ∷ [])) ≡ joined rs ++ r.code
unfolding joined
joined_one [] r = append-nil r.code
joined_one (q ∷ rs) r = ap (λ (more : List ℕ). q.code ++ more) (joined_one rs r) ∙ sym (append_assoc q.code (joined rs) r.code)

ends_one : (a : ℕ) (rs : List Listed) (r : Listed) → ends_from a (rs ++ (r ∷ [])) ≡ ends_from a rs ++ ((a + length (joined rs) + length r.code) ∷ [])
unfolding joined ends_from
ends_one a [] r = let e : a + length r.code ≡ a + 0 + length r.code = omega arith in rw (← e)
ends_one a (q ∷ rs) r =
    let e : a + length q.code + length (joined rs) + length r.code ≡ a + length (q.code ++ joined rs) + length r.code =
    omega (arith, length-append q.code (joined rs)) in
    rw (ends_one (a + length q.code) rs r, e)

values_one : (rs : List Listed) (r : Listed) → values_of (rs ++ (r ∷ [])) ≡ values_of rs ++ (r.value ∷ [])
values_one [] r = refl
values_one (q ∷ rs) r = ap (λ (more : List ℕ). q.value ∷ more) (values_one rs r)

marks_one : (rs : List Listed) (r : Listed) → marks_of (rs ++ (r ∷ [])) ≡ marks_of rs ++ (r.mark ∷ [])
marks_one [] r = refl
marks_one (q ∷ rs) r = ap (λ (more : List ℕ). q.mark ∷ more) (marks_one rs r)

module _ (rs : List Listed) (r : Listed) (count end : ℕ) (bytes more ends values marks : List ℕ) (h : Held rs count end bytes ends values marks) where
  filled_one : (end' : ℕ) → end' ≡ end + length r.code → take end' more ≡ take end bytes ++ r.code
      → count < length ends → count < length values → count < length marks
      → Held (rs ++ (r ∷ [])) (count + 1) end' more (set ends count end') (set values count r.value) (set marks count r.mark)
  unfolding joined
  filled_one end' e b m n o =
      record {
        counted = length-append rs (r ∷ []) ∙ ap (λ (k : ℕ). k + 1) h.counted;
        sized = ap length (joined_one rs r) ∙ length-append (joined rs) r.code ∙ ap (λ (k : ℕ). k + length r.code) h.sized ∙ sym e;
        bytes_are = b ∙ ap (λ (s : List ℕ). s ++ r.code) h.bytes_are ∙ sym (joined_one rs r);
        ends_are =
            let t : 0 + length (joined rs) + length r.code ≡ end' = omega (arith, h.sized) in
            rw (add-one count, take-suc-set ends count end' m, ends_one 0 rs r, t) (ap (λ (s : List ℕ). s ++ (end' ∷ [])) h.ends_are);
        values_are = rw (add-one count, take-suc-set values count r.value n, values_one rs r) (ap (λ (s : List ℕ). s ++ (r.value ∷ [])) h.values_are);
        marks_are = rw (add-one count, take-suc-set marks count r.mark o, marks_one rs r) (ap (λ (s : List ℕ). s ++ (r.mark ∷ [])) h.marks_are);
      }

-- ---- the loop

-- so far: the lines before those that are left gave rows, which the tables hold; and what they and the lines that are left say is what the list says
pub record Reading (room : ℕ) (file : List ℕ) (left : List (List ℕ)) (count end : ℕ) (bytes ends values marks : List ℕ) : Type 0 where
  pub done : List Listed
  pub says : after done (listing room count left) ≡ codes room file
  pub filled : Held done count end bytes ends values marks
  pub fewer : count + length left ≤ length file
  pub shorter : end + bytes_in left ≤ length file

pub begun : (room : ℕ) (file bytes ends values marks : List ℕ) → Reading room file (lines_of file) 0 0 bytes ends values marks
unfolding joined ends_from
begun room file bytes ends values marks =
    record {
      done = [];
      says = after_nothing (codes room file);
      filled = record { counted = refl; sized = refl; bytes_are = refl; ends_are = refl; values_are = refl; marks_are = refl };
      fewer = omega (arith, count_most file);
      shorter = omega (arith, bytes_most file);
    }

module _ (room : ℕ) (file : List ℕ) (left : List (List ℕ)) (count end : ℕ) (bytes ends values marks : List ℕ) (r : Reading room file left count end bytes ends values marks) where
  pub all_read : left ≡ [] → Taken (codes room file) count end bytes ends values marks
  unfolding listing
  all_read e = record { taken = r.done; says = sym (rw (e, append-nil r.done) at r.says); held = r.filled }

  module _ (line : List ℕ) (rest : List (List ℕ)) (l : left ≡ line ∷ rest) where
    pub full : room ≤ count → codes room file ≡ too_many
    unfolding listing
    full m = sym (rw (l, le-leb room count m) at r.says)

    pub bad_line : count < room → (answer : Option Row) → row_told answer ≡ row_of count (bare line) → answer ≡ None → codes room file ≡ bad_value count
    unfolding listing
    bad_line m answer t q =
        let n : row_of count (bare line) ≡ None = sym t ∙ ap row_told q in
        sym (rw (l, lt-leb room count m, n) at r.says)

    pub line_fits : end + length line ≤ length file
    line_fits = omega (arith, r.shorter, ap bytes_in l)

    -- a row more, by the answer for its line
    pub one_more : count < room → (answer : Option Row) (row : Row) → row_told answer ≡ row_of count (bare line) → answer ≡ Some row
        → length row.code.now ≤ length line → (end' : ℕ) (more : List ℕ) → end' ≡ end + length row.code.now → take end' more ≡ take end bytes ++ row.code.now
        → count < length ends → count < length values → count < length marks
        → Reading room file rest (count + 1) end' more (set ends count end') (set values count row.value) (set marks count (from_bool row.hazard))
    unfolding listing
    one_more m answer row t q s end' more p b x y z =
        let listed : Listed = record { mark = from_bool row.hazard; value = row.value; code = row.code.now } in
        let n : row_of count (bare line) ≡ Some listed = sym t ∙ ap row_told q in
        record {
          done = r.done ++ (listed ∷ []);
          says = rw (add-one count) (after_one r.done listed (listing room (suc count) rest) ∙ rw (l, lt-leb room count m, n) at r.says);
          filled = filled_one r.done listed count end bytes more ends values marks r.filled end' p b x y z;
          fewer = omega (arith, r.fewer, ap length l);
          shorter = omega (arith, r.shorter, ap bytes_in l);
        }
