-- The lowest refusal of any list: which entry is told, and of two lists in a row.
use mathlib.Core.Path.{◌≡◌, refl, sym, ap}
use mathlib.Core.Bool.{true, false, not}
use mathlib.Core.List.{List, [], ◌∷◌, ◌++◌}
use mathlib.Core.Option.{none, some}
use Prim.Native.Nat.{ℕ, zero, suc, ◌<◌}
use native.Mathlib.Nat.{not-suc-le-zero, le_of_suc-le-suc}
use native.Mathlib.Omega.{arith}
use lib.Dec.{eqb}
use lib.ListN.{length, take}
use Rattle.std.proofs.lemmas.Bool.{eq-eqb, not-true, and_parts, or_parts}
use Rattle.paper.proofs.Tests.{test, clash}
use Rattle.list.specs.Refusals.{Refusal, Told, tells, lowest, any_holds, without, distinct, entry, Exactly}

told_same : {a b : Told} → some a ≡ some b → a ≡ b
told_same e = cc

-- a number that no entry has is not told
not_told : (n : ℕ) (rs : List Refusal) (t : Told) → without n rs ≡ true → lowest rs ≡ some t → t.number ≡ n → ⊥
unfolding without lowest
not_told n [] t w e q = let z : ◌≡◌ {A = ℕ} 0 1 = cc in omega arith
not_told n (r ∷ rs) t w e q =
    test r.holds
    (λ h.
    let s : some (tells r) ≡ some t = rw h at e in
    let m : r.number ≡ n = cc in
    clash (eq-eqb r.number n m) (not-true (eqb r.number n) (and_parts (not (eqb r.number n)) (without n rs) w).0))
    (λ h. not_told n rs t (and_parts (not (eqb r.number n)) (without n rs) w).1 (rw h at e) q)

-- nor is it the number of an entry
not_entry : (n : ℕ) (rs : List Refusal) (k : ℕ) → without n rs ≡ true → k < length rs → n ≡ (entry rs k).number → ⊥
unfolding without
not_entry n [] k w l q = not-suc-le-zero l
not_entry n (r ∷ rs) zero w l q =
    clash (eq-eqb r.number n (sym q)) (not-true (eqb r.number n) (and_parts (not (eqb r.number n)) (without n rs) w).0)
not_entry n (r ∷ rs) (suc k) w l q = not_entry n rs k (and_parts (not (eqb r.number n)) (without n rs) w).1 (le_of_suc-le-suc l) q

-- the entry at hand
here : (r : Refusal) (rs : List Refusal) → distinct (r ∷ rs) ≡ true → Exactly (r ∷ rs) 0
unfolding lowest any_holds distinct
here r rs d =
    record {
      when = λ h n. rw h;
      only = λ i e. test r.holds
          (λ h. (h, refl, sym (ap (λ (t : Told). t.index) (told_same (rw h at e)))))
          (λ h. absurd (not_told r.number rs (record { number = r.number; index = i }) (and_parts (without r.number rs) (distinct rs) d).0 (rw h at e) refl));
    }

-- an entry further on
later : (r : Refusal) (rs : List Refusal) (k : ℕ) → k < length rs → distinct (r ∷ rs) ≡ true → Exactly rs k → Exactly (r ∷ rs) (suc k)
unfolding lowest any_holds distinct
later r rs k l d x =
    record {
      when = λ h n. rw (or_parts r.holds (any_holds (take k rs)) n).0 (x.when h (or_parts r.holds (any_holds (take k rs)) n).1);
      only = λ i e. test r.holds
          (λ h. absurd (not_entry r.number rs k (and_parts (without r.number rs) (distinct rs) d).0 l (ap (λ (t : Told). t.number) (told_same (rw h at e)))))
          (λ h. let o = x.only i (rw h at e) in (o.0, rw h o.1, o.2));
    }

-- each entry of any list with distinct numbers is told exactly when its condition holds and none before it does
pub exactly : (rs : List Refusal) (k : ℕ) → k < length rs → distinct rs ≡ true → Exactly rs k
unfolding distinct
exactly [] k l d = absurd (not-suc-le-zero l)
exactly (r ∷ rs) zero l d = here r rs d
exactly (r ∷ rs) (suc k) l d = later r rs k (le_of_suc-le-suc l) d (exactly rs k (le_of_suc-le-suc l) (and_parts (without r.number rs) (distinct rs) d).1)

-- the first of a list that tells nothing does not apply, and the rest tells nothing
first_not : (r : Refusal) (rs : List Refusal) → lowest (r ∷ rs) ≡ none → (r.holds ≡ false) × (lowest rs ≡ none)
unfolding lowest
first_not r rs e =
    test r.holds
    (λ h. let s : some (tells r) ≡ none = rw h at e in let z : ◌≡◌ {A = ℕ} 0 1 = cc in absurd (omega arith))
    (λ h. (h, rw h at e))

-- where nothing is told no condition holds
pub none_at : (rs : List Refusal) → lowest rs ≡ none → (k : ℕ) → k < length rs → (entry rs k).holds ≡ false
none_at [] e k l = absurd (not-suc-le-zero l)
none_at (r ∷ rs) e zero l = (first_not r rs e).0
none_at (r ∷ rs) e (suc k) l = none_at rs (first_not r rs e).1 k (le_of_suc-le-suc l)

-- a list with more entries after it: where the first list tells something that is told, else what the second tells
pub lowest_some : (rs qs : List Refusal) (t : Told) → lowest rs ≡ some t → lowest (rs ++ qs) ≡ some t
unfolding lowest
lowest_some [] qs t e = let z : ◌≡◌ {A = ℕ} 0 1 = cc in absurd (omega arith)
lowest_some (r ∷ rs) qs t e = test r.holds (λ h. let s : some (tells r) ≡ some t = rw h at e in rw h s) (λ h. rw h (lowest_some rs qs t (rw h at e)))

pub lowest_none : (rs qs : List Refusal) → lowest rs ≡ none → lowest (rs ++ qs) ≡ lowest qs
unfolding lowest
lowest_none [] qs e = refl
lowest_none (r ∷ rs) qs e = rw (first_not r rs e).0 (lowest_none rs qs (first_not r rs e).1)
