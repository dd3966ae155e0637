-- How many outputs are stored: as many as there are patterns, as each is the own output of exactly one state.
use mathlib.Core.Path.{◌≡◌, refl, sym, ap, ap₂, ◌∙◌}
use mathlib.Core.List.Memᴰ
use mathlib.Core.List.{List, [], ◌∷◌, Memᴰ}
use mathlib.Core.Logic.{⊎_elim}
use Prim.Native.Nat.{ℕ, suc, ◌+◌, ◌≤◌}
use native.Mathlib.Omega.{arith}
use lib.ListN.{length, take, drop, take-append-drop}
use Rattle.paper.specs.Lists.{pick, same, those, Sorted}
use Rattle.paper.specs.Patterns.{Entry, Kind}
use Rattle.paper.specs.Automaton.{Machine, machine, is_state, own_of}
use Rattle.std.proofs.lemmas.Bool.{false_from_ne_true}
use Rattle.paper.proofs.Tests.{test}
use Rattle.paper.proofs.Strings.{same_eq, eq_same, prefix_refl}
use Rattle.plan.specs.Breadth.{Apart, Listing}
use Rattle.plan.specs.Outputs.{Stored, store, store_all, nothing}
use Rattle.paper.proofs.Leftmost.{entry_state}
use Rattle.plan.proofs.Outputs.{store_length, store_all_append}

-- a count for each string of a list, added up
total : (List ℕ → ℕ) → List (List ℕ) → ℕ
total f [] = 0
total f (s ∷ l) = f s + total f l

total_same : (f g : List ℕ → ℕ) (l : List (List ℕ)) → ((s : List ℕ) → Memᴰ s l → f s ≡ g s) → total f l ≡ total g l
unfolding total
total_same f g [] h = refl
total_same f g (s ∷ l) h = ap₂ ◌+◌ (h s (Memᴰ.head refl)) (total_same f g l (λ t m. h t (Memᴰ.tail m)))

total_zero : (l : List (List ℕ)) → total (λ s. 0) l ≡ 0
unfolding total
total_zero [] = refl
total_zero (s ∷ l) = omega (arith, total_zero l)

-- ---- one more at one string

-- f is g, and one more at w
abbrev OneMore : List ℕ → (List ℕ → ℕ) → (List ℕ → ℕ) → Type 0
OneMore w f g = (s : List ℕ) → f s ≡ pick (same w s) (suc (g s)) (g s)

one_more_there : (w : List ℕ) (f g : List ℕ → ℕ) → OneMore w f g → (s : List ℕ) → w ≡ s → f s ≡ suc (g s)
one_more_there w f g h s e = h s ∙ rw (eq_same w s e)

one_more_else : (w : List ℕ) (f g : List ℕ → ℕ) → OneMore w f g → (s : List ℕ) → Apart w s → f s ≡ g s
one_more_else w f g h s d = h s ∙ rw (false_from_ne_true (same w s) (λ k. d (same_eq w s k)))

-- a list that has w once adds up to one more
total_more : (w : List ℕ) (f g : List ℕ → ℕ) → OneMore w f g → (l : List (List ℕ)) → Sorted Apart l → Memᴰ w l
    → total f l ≡ suc (total g l)
unfolding total
total_more w f g h [] o m = absurd (Memᴰ.not-nil m)
total_more w f g h (s ∷ l) o m =
    ⊎_elim
    (λ e. omega (arith, one_more_there w f g h s e, total_same f g l (λ t k. one_more_else w f g h t (λ q. o.0 t k (sym e ∙ q)))))
    (λ k. omega (arith, one_more_else w f g h s (λ q. o.0 w k (sym q)), total_more w f g h l o.1 k))
    (Memᴰ.cases_cons m)

-- ---- own outputs

own_one_more : (x : Entry) (es : List Entry) → OneMore x.word (λ s. length (own_of (x ∷ es) s)) (λ s. length (own_of es s))
unfolding own_of those
own_one_more x es s = test (same x.word s) (λ h. rw h) (λ h. rw h)

own_none : (s : List ℕ) → length (own_of [] s) ≡ 0
unfolding own_of those
own_none s = refl

own_total : (es : List Entry) (B : List (List ℕ)) → Sorted Apart B → ((x : Entry) → Memᴰ x es → Memᴰ x.word B)
    → total (λ s. length (own_of es s)) B ≡ length es
own_total [] B o into = total_same (λ s. length (own_of [] s)) (λ s. 0) B (λ s m. own_none s) ∙ total_zero B
own_total (x ∷ es) B o into =
    total_more x.word (λ s. length (own_of (x ∷ es) s)) (λ s. length (own_of es s)) (own_one_more x es) B o (into x (Memᴰ.head refl))
    ∙ ap suc (own_total es B o (λ y m. into y (Memᴰ.tail m)))

-- ---- stored outputs

store_all_length : (M : Machine) (e : Stored) (l : List (List ℕ))
    → length (store_all M e l).outs ≡ length e.outs + total (λ s. length (M.own s)) l
unfolding store_all total
store_all_length M e [] = omega arith
store_all_length M e (s ∷ l) = omega (arith, store_all_length M (store M e s) l, store_length M e s)

-- (o2) as many as there are patterns
pub stored_count : (kind : Kind) (es : List Entry) (B : List (List ℕ)) → Listing (is_state es) B
    → length (store_all (machine kind es) nothing B).outs ≡ length es
stored_count kind es B T =
    omega (
      arith,
      store_all_length (machine kind es) nothing B,
      own_total es B T.once (λ x m. (T.exact x.word).1 (entry_state es x x.word m (prefix_refl x.word))),
    )

-- and on the way no more
pub stored_count_at : (kind : Kind) (es : List Entry) (B : List (List ℕ)) → Listing (is_state es) B → (k : ℕ)
    → length (store_all (machine kind es) nothing (take k B)).outs ≤ length es
stored_count_at kind es B T k =
    omega (arith, store_all_length M (store_all M nothing (take k B)) (drop k B), whole, stored_count kind es B T)
  where
    M : Machine
    M = machine kind es

    whole : length (store_all M (store_all M nothing (take k B)) (drop k B)).outs ≡ length (store_all M nothing B).outs
    whole =
        ap (λ (e : Stored). length e.outs) (sym (store_all_append M nothing (take k B) (drop k B)))
        ∙ ap (λ (l : List (List ℕ)). length (store_all M nothing l).outs) (take-append-drop k B)
