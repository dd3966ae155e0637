-- The readers' answers meet the words of document 01: by the tests of their definitions, one after the other.
use mathlib.Core.Path.{◌≡◌, refl, sym, ap, ◌∙◌}
use mathlib.Core.Bool.{Bool, true, false, false≢true, true≢false}
use mathlib.Core.List.{List}
use mathlib.Core.Logic.{◌⊎◌, inl, inr, ⊎_elim}
use Prim.Native.Nat.{ℕ, ◌-◌, ◌<◌}
use native.Mathlib.Omega.{arith}
use lib.Bits.{bit_xor}
use lib.Dec.{eqb, ltb, leb}
use lib.ListN.{length, get_or}
use Rattle.std.specs.Prelude.{Option, Some, None, Result, Ok, Err}
use Rattle.zeros.specs.Rows.{field}
use Rattle.std.proofs.lemmas.Bool.{eqb-true, eqb-false, ne_eqb, eq-eqb, lt-ltb, ltb-true, ltb-false, leb-false}
use Rattle.paper.proofs.Tests.{test}
use Rattle.table.specs.declared.CellId.{CellId}
use Rattle.table.specs.declared.Damage.{Damage}
use Rattle.table.specs.declared.Row.{Row}
use Rattle.table.specs.Readers.{there, can_end, damage, probe_of, link_of, place_of, output_of}
use Rattle.table.specs.Claims.{ChildAt, NoCell, LinksTo, BeginsAt, GivenAt, BrokenAt, ReaderClaims}
use Rattle.table.proofs.Columns.{under}
use Rattle.table.proofs.Inside.{there_yes, there_below, there_in, can_yes, can_some, can_fit}

-- ---- which of its ways an answer goes, and what it gives

is_given : {A : Type 0} → Result (Option A) Damage → Bool
is_given (Ok (Some x)) = true
is_given (Ok None) = false
is_given (Err d) = false

given_or : {A : Type 0} → A → Result (Option A) Damage → A
given_or other (Ok (Some x)) = x
given_or other (Ok None) = other
given_or other (Err d) = other

is_nothing : {A : Type 0} → Result (Option A) Damage → Bool
is_nothing (Ok (Some x)) = false
is_nothing (Ok None) = true
is_nothing (Err d) = false

is_damage : {A : Type 0} → Result A Damage → Bool
is_damage (Ok x) = false
is_damage (Err d) = true

cell_or : Result (Option CellId) Damage → ℕ
cell_or r = (given_or {A = CellId} (record { 0 = 0 }) r).0

target_or : ℕ → Result CellId Damage → ℕ
target_or other (Ok t) = t.0
target_or other (Err d) = other

-- ---- children and links

found_is : (base check : List ℕ) (cells s c t : ℕ) → probe_of base check cells s c ≡ Ok (Some (record { 0 = t })) → ChildAt base check cells s c t
unfolding probe_of is_given given_or cell_or
found_is base check cells s c t e =
    test (there cells (length base) s)
    (λ h. test (eqb (get_or base s 0) 0)
    (λ z. absurd (false≢true (ap is_given (rw (h, z) at e))))
    (λ z. test (there cells (length check) (bit_xor (get_or base s 0) c))
    (λ k. test (eqb (get_or check (bit_xor (get_or base s 0) c) 0) c)
    (λ y. let same : bit_xor (get_or base s 0) c ≡ t = ap cell_or (rw (h, z, k, y) at e) in
    record {
      state = h;
      parent = eqb-false (get_or base s 0) 0 z;
      target = sym same;
      cell = rw (← same) k;
      byte = rw (← same) (eqb-true (get_or check (bit_xor (get_or base s 0) c) 0) c y);
    })
    (λ y. absurd (false≢true (ap is_given (rw (h, z, k, y) at e)))))
    (λ k. absurd (false≢true (ap is_given (rw (h, z, k) at e))))))
    (λ h. absurd (false≢true (ap is_given (rw h at e))))

is_found_lem : (base check : List ℕ) (cells s c t : ℕ) → ChildAt base check cells s c t → probe_of base check cells s c ≡ Ok (Some (record { 0 = t }))
unfolding probe_of
is_found_lem base check cells s c t C =
    let k : there cells (length check) (bit_xor (get_or base s 0) c) ≡ true = rw (← C.target) C.cell in
    let y : get_or check (bit_xor (get_or base s 0) c) 0 ≡ c = rw (← C.target) C.byte in
    rw (C.state, ne_eqb (get_or base s 0) 0 C.parent, k, eq-eqb (get_or check (bit_xor (get_or base s 0) c) 0) c y, C.target)

childless : (base check : List ℕ) (cells s c : ℕ) → there cells (length base) s ≡ true → get_or base s 0 ≡ 0 → probe_of base check cells s c ≡ Ok None
unfolding probe_of
childless base check cells s c h z = rw (h, eq-eqb (get_or base s 0) 0 z)

damage_is : (base check : List ℕ) (cells s c : ℕ) → probe_of base check cells s c ≡ damage → NoCell base check cells s c
unfolding probe_of is_damage
damage_is base check cells s c e =
    test (there cells (length base) s)
    (λ h. test (eqb (get_or base s 0) 0)
    (λ z. absurd (false≢true (ap is_damage (rw (h, z) at e))))
    (λ z. test (there cells (length check) (bit_xor (get_or base s 0) c))
    (λ k. test (eqb (get_or check (bit_xor (get_or base s 0) c) 0) c)
    (λ y. absurd (false≢true (ap is_damage (rw (h, z, k, y) at e))))
    (λ y. absurd (false≢true (ap is_damage (rw (h, z, k, y) at e)))))
    (λ k. inr (eqb-false (get_or base s 0) 0 z, k))))
    (λ h. inl h)

is_damage_lem : (base check : List ℕ) (cells s c : ℕ) → NoCell base check cells s c → probe_of base check cells s c ≡ damage
unfolding probe_of
is_damage_lem base check cells s c n =
    test (there cells (length base) s)
    (λ h. ⊎_elim (λ k. absurd (false≢true (sym k ∙ h))) (λ k. rw (h, ne_eqb (get_or base s 0) 0 k.0, k.1)) n)
    (λ h. rw h)

leads_is : (links depth : List ℕ) (cells s t : ℕ) → link_of links depth cells s ≡ Ok (record { 0 = t }) → LinksTo links depth cells s t
unfolding link_of is_damage target_or
leads_is links depth cells s t e =
    test (there cells (length links) s)
    (λ h. test (there cells (length depth) s)
    (λ k. test (there cells (length depth) (get_or links s 0))
    (λ l. test (ltb (get_or depth (get_or links s 0) 0) (get_or depth s 0))
    (λ f. let same : get_or links s 0 ≡ t = ap (target_or 0) (rw (h, k, l, f) at e) in
    record {
      linking = h;
      state = k;
      target = sym same;
      cell = rw (← same) l;
      falls = rw (← same) (ltb-true (get_or depth (get_or links s 0) 0) (get_or depth s 0) f);
    })
    (λ f. absurd (true≢false (ap is_damage (rw (h, k, l, f) at e)))))
    (λ l. absurd (true≢false (ap is_damage (rw (h, k, l) at e)))))
    (λ k. absurd (true≢false (ap is_damage (rw (h, k) at e)))))
    (λ h. absurd (true≢false (ap is_damage (rw h at e))))

is_leads : (links depth : List ℕ) (cells s t : ℕ) → LinksTo links depth cells s t → link_of links depth cells s ≡ Ok (record { 0 = t })
unfolding link_of
is_leads links depth cells s t C =
    let l : there cells (length depth) (get_or links s 0) ≡ true = rw (← C.target) C.cell in
    let f : get_or depth (get_or links s 0) 0 < get_or depth s 0 = rw (← C.target) C.falls in
    rw (C.linking, C.state, l, lt-ltb (get_or depth (get_or links s 0) 0) (get_or depth s 0) f, C.target)

-- ---- places

begins_is : (output : List ℕ) (cells s p : ℕ) → place_of output cells s ≡ Ok (Some p) → BeginsAt output cells s p
unfolding place_of is_given given_or
begins_is output cells s p e =
    test (there cells (length output) s)
    (λ h. test (eqb (get_or output s 0) 0) (λ z. absurd (false≢true (ap is_given (rw (h, z) at e))))
    (λ z. let same : get_or output s 0 ≡ p = ap (given_or 0) (rw (h, z) at e) in
    record { state = h; place = sym same; some_place = rw (← same) (eqb-false (get_or output s 0) 0 z) }))
    (λ h. absurd (false≢true (ap is_given (rw h at e))))

is_begins : (output : List ℕ) (cells s p : ℕ) → BeginsAt output cells s p → place_of output cells s ≡ Ok (Some p)
unfolding place_of
is_begins output cells s p B =
    let z : get_or output s 0 ≡ 0 → ⊥ = rw (← B.place) B.some_place in
    rw (B.state, ne_eqb (get_or output s 0) 0 z, B.place)

without_is : (output : List ℕ) (cells s : ℕ) → place_of output cells s ≡ Ok None
    → (there cells (length output) s ≡ true) × (get_or output s 0 ≡ 0)
unfolding place_of is_nothing
without_is output cells s e =
    test (there cells (length output) s)
    (λ h. test (eqb (get_or output s 0) 0) (λ z. (h, eqb-true (get_or output s 0) 0 z))
    (λ z. absurd (false≢true (ap is_nothing (rw (h, z) at e)))))
    (λ h. absurd (false≢true (ap is_nothing (rw h at e))))

is_without_lem : (output : List ℕ) (cells s : ℕ) → (there cells (length output) s ≡ true) × (get_or output s 0 ≡ 0)
    → place_of output cells s ≡ Ok None
unfolding place_of
is_without_lem output cells s B = rw (B.0, eq-eqb (get_or output s 0) 0 B.1)

astray_is : (output : List ℕ) (cells s : ℕ) → place_of output cells s ≡ damage → there cells (length output) s ≡ false
unfolding place_of is_damage
astray_is output cells s e =
    test (there cells (length output) s)
    (λ h. test (eqb (get_or output s 0) 0) (λ z. absurd (false≢true (ap is_damage (rw (h, z) at e))))
    (λ z. absurd (false≢true (ap is_damage (rw (h, z) at e)))))
    (λ h. h)

is_astray_lem : (output : List ℕ) (cells s : ℕ) → there cells (length output) s ≡ false → place_of output cells s ≡ damage
unfolding place_of
is_astray_lem output cells s h = rw h

-- ---- outputs

abbrev no_row : Row
no_row = record { value = 0; length = 0; next = 0 }

module _ (outs : List (List ℕ)) (accepted place end : ℕ) where
  given_is : (value size next : ℕ) → output_of outs accepted place end ≡ Ok (Some (record { value = value; length = size; next = next }))
      → GivenAt outs accepted place end value size next
  unfolding output_of is_given given_or
  given_is value size next e =
      test (eqb place 0) (λ z. absurd (false≢true (ap is_given (rw z at e))))
      (λ z. test (there accepted (length outs) (place - 1))
      (λ h. test (ltb (field outs (place - 1) 2) place)
      (λ f. test (can_end (field outs (place - 1) 1) end)
      (λ k.
      let v : field outs (place - 1) 0 ≡ value = ap (λ r. (given_or {A = Row} no_row r).value) (rw (z, h, f, k) at e) in
      let l : field outs (place - 1) 1 ≡ size = ap (λ r. (given_or {A = Row} no_row r).length) (rw (z, h, f, k) at e) in
      let n : field outs (place - 1) 2 ≡ next = ap (λ r. (given_or {A = Row} no_row r).next) (rw (z, h, f, k) at e) in
      let some = eqb-false place 0 z in
      record {
        some_place = omega (arith, some);
        inside = omega (arith, some, there_below accepted (length outs) (place - 1) h);
        lent = omega (arith, some, there_in accepted (length outs) (place - 1) h);
        value_is = sym v;
        size_is = sym l;
        next_is = sym n;
        falls = omega (arith, n, ltb-true (field outs (place - 1) 2) place f);
        filled = omega (arith, l, can_some (field outs (place - 1) 1) end k);
        fits = omega (arith, l, can_fit (field outs (place - 1) 1) end k);
      })
      (λ k. absurd (false≢true (ap is_given (rw (z, h, f, k) at e)))))
      (λ f. absurd (false≢true (ap is_given (rw (z, h, f) at e)))))
      (λ h. absurd (false≢true (ap is_given (rw (z, h) at e)))))

  is_given_lem : (value size next : ℕ) → GivenAt outs accepted place end value size next
      → output_of outs accepted place end ≡ Ok (Some (record { value = value; length = size; next = next }))
  unfolding output_of
  is_given_lem value size next G =
      let h : there accepted (length outs) (place - 1) ≡ true
      = sym (there_yes accepted (length outs) (place - 1) (omega (arith, G)) (omega (arith, G))) in
      let f : field outs (place - 1) 2 < place = omega (arith, G) in
      let k : can_end (field outs (place - 1) 1) end ≡ true
      = sym (can_yes (field outs (place - 1) 1) end (omega (arith, G)) (omega (arith, G))) in
      rw (ne_eqb place 0 (λ z. omega (arith, G)), h, lt-ltb (field outs (place - 1) 2) place f, k, G.value_is, G.size_is, G.next_is)

  ended_is : output_of outs accepted place end ≡ Ok None → place ≡ 0
  unfolding output_of is_nothing
  ended_is e =
      test (eqb place 0) (λ z. eqb-true place 0 z)
      (λ z. test (there accepted (length outs) (place - 1))
      (λ h. test (ltb (field outs (place - 1) 2) place)
      (λ f. test (can_end (field outs (place - 1) 1) end) (λ k. absurd (false≢true (ap is_nothing (rw (z, h, f, k) at e))))
      (λ k. absurd (false≢true (ap is_nothing (rw (z, h, f, k) at e)))))
      (λ f. absurd (false≢true (ap is_nothing (rw (z, h, f) at e)))))
      (λ h. absurd (false≢true (ap is_nothing (rw (z, h) at e)))))

  is_ended_lem : place ≡ 0 → output_of outs accepted place end ≡ Ok None
  unfolding output_of
  is_ended_lem z = rw (eq-eqb place 0 z)

  -- past the outputs or past the rows
  past_is : there accepted (length outs) (place - 1) ≡ false → (place ≡ 0 → ⊥) → (accepted < place) ⊎ (length outs < place)
  past_is h z =
      test (ltb (place - 1) accepted)
      (λ a. test (ltb (place - 1) (length outs)) (λ b. absurd (false≢true (sym (rw (a, b) at h))))
      (λ b. inr (omega (arith, z, ltb-false (place - 1) (length outs) b))))
      (λ a. inl (omega (arith, z, ltb-false (place - 1) accepted a)))

  -- no byte, or too many
  unfit_is : can_end (field outs (place - 1) 1) end ≡ false → (field outs (place - 1) 1 ≡ 0) ⊎ (end < field outs (place - 1) 1)
  unfit_is k =
      test (ltb 0 (field outs (place - 1) 1))
      (λ a. test (leb (field outs (place - 1) 1) end) (λ b. absurd (false≢true (sym (rw (a, b) at k))))
      (λ b. inr (leb-false (field outs (place - 1) 1) end b)))
      (λ a. inl (omega (arith, ltb-false 0 (field outs (place - 1) 1) a)))

  broken_is : output_of outs accepted place end ≡ damage → BrokenAt outs accepted place end
  unfolding output_of is_damage
  broken_is e =
      test (eqb place 0) (λ z. absurd (false≢true (ap is_damage (rw z at e))))
      (λ z. (
        eqb-false place 0 z,
        test (there accepted (length outs) (place - 1))
            (λ h. test (ltb (field outs (place - 1) 2) place)
            (λ f. test (can_end (field outs (place - 1) 1) end) (λ k. absurd (false≢true (ap is_damage (rw (z, h, f, k) at e))))
            (λ k. inr (inr (inr (unfit_is k)))))
            (λ f. inr (inr (inl (ltb-false (field outs (place - 1) 2) place f)))))
            (λ h. ⊎_elim (λ a. inl a) (λ a. inr (inl a)) (past_is h (eqb-false place 0 z))),
      ))

  -- what is not given at a place other than 0 is damaged
  not_given : (place ≡ 0 → ⊥) → ((value size next : ℕ) → GivenAt outs accepted place end value size next → ⊥)
      → output_of outs accepted place end ≡ damage
  not_given z n = go (output_of outs accepted place end) refl
    where
      go : (r : Result (Option Row) Damage) → output_of outs accepted place end ≡ r → output_of outs accepted place end ≡ damage
      go (Ok (Some r)) e = absurd (n r.value r.length r.next (given_is r.value r.length r.next e))
      go (Ok None) e = absurd (z (ended_is e))
      go (Err d) e = e

  is_broken_lem : BrokenAt outs accepted place end → output_of outs accepted place end ≡ damage
  is_broken_lem B =
      not_given B.0
      (λ value size next G.
      ⊎_elim (λ a. omega (arith, G))
      (⊎_elim (λ a. omega (arith, G)) (⊎_elim (λ a. omega (arith, G)) (⊎_elim (λ a. omega (arith, G)) (λ a. omega (arith, G))))) B.1)

pub claims : ReaderClaims
claims =
    record {
      is_there = λ cells slots i.
          ((λ e. (there_below cells slots i e, there_in cells slots i e)), λ h. sym (there_yes cells slots i h.0 h.1));
      in_columns = under;
      finds = λ base check cells s c t. (found_is base check cells s c t, is_found_lem base check cells s c t);
      childless = childless;
      damaged = λ base check cells s c. (damage_is base check cells s c, is_damage_lem base check cells s c);
      leads = λ links depth cells s t. (leads_is links depth cells s t, is_leads links depth cells s t);
      begins_at = λ output cells s p. (begins_is output cells s p, is_begins output cells s p);
      without = λ output cells s. (without_is output cells s, is_without_lem output cells s);
      astray = λ output cells s. (astray_is output cells s, is_astray_lem output cells s);
      given = λ outs accepted place end value size next.
          (given_is outs accepted place end value size next, is_given_lem outs accepted place end value size next);
      ended = λ outs accepted place end. (ended_is outs accepted place end, is_ended_lem outs accepted place end);
      broken = λ outs accepted place end. (broken_is outs accepted place end, is_broken_lem outs accepted place end);
    }
