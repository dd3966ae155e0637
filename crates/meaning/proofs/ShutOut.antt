-- Each wrong search of ../specs/ShutOut.antt breaks a demand.
use Rattle.std.proofs.lemmas.List.{take-replicate}
use mathlib.Core.Path.{◌≡◌, refl, sym, ap, ◌∙◌}
use mathlib.Core.List.Memᴰ
use mathlib.Core.List.{List, [], ◌∷◌, map}
use Prim.Native.Nat.{ℕ, zero, suc}
use native.Mathlib.Omega.{arith}
use lib.ListN.{replicate}
use Rattle.std.proofs.lemmas.Bool.{ne_eqb}
use Rattle.paper.specs.Lists.{same, prefix, those, each}
use Rattle.paper.specs.Patterns.{rows_from}
use Rattle.paper.specs.Matches.{occurs, between, ending_at, by_end, overlapping}
use Rattle.paper.specs.Automaton.{is_state, own_of, longest_state, failure, begins, before, is_dead, link, hunt, chain, step, walk}
use Rattle.paper.specs.Cases.{bytes}
use Rattle.search.specs.declared.Search.{Search}
use Rattle.meaning.specs.Repeated.{answers, Saying, match, end, said}
use Rattle.meaning.specs.Demands.{StandardDemands}
use Rattle.meaning.specs.ShutOut.{alone, having, at_once_the_end, always_one_match, once_with, whole_text_at_once, made_up_count, SaysRight, ShutOut}

-- ---- demand 2

at_once_the_end_lem : StandardDemands at_once_the_end (alone (bytes "a")) (0 ∷ []) (bytes "a") → ⊥
unfolding answers prefix those each rows_from occurs between ending_at by_end overlapping
at_once_the_end_lem D = cc (D.overlapping_says 1)

always_one_match_lem : StandardDemands always_one_match (alone (bytes "a")) (0 ∷ []) (bytes "a") → ⊥
unfolding answers prefix those each rows_from occurs between ending_at by_end overlapping
always_one_match_lem D = cc (D.overlapping_says 2)

-- ---- demand 3

ends_again : (p : List ℕ) (given : Search) (place moves k n : ℕ)
    → map said (answers (once_with p given (having (suc place) moves)) n (having (suc place) k)) ≡ replicate n end
unfolding answers
ends_again p given place moves k zero = refl
ends_again p given place moves k (suc n) =
    rw (ne_eqb (suc place) 0 (λ e. omega (arith, e))) (ap (λ (r : List Saying). end ∷ r) (ends_again p given place moves moves n))

whole_text_says : SaysRight whole_text_at_once (bytes "abc") (bytes "abcd")
unfolding answers prefix those each rows_from occurs between ending_at by_end overlapping
whole_text_says zero = refl
whole_text_says (suc n) =
    ap (λ (r : List Saying). match (record { start = 0; end = 3; payload = 0 }) ∷ r)
    (ends_again (bytes "abc") (having 4 5) 3 5 5 n ∙ sym (take-replicate n (suc n) end (omega arith)))

made_up_says : SaysRight made_up_count (bytes "ab") (bytes "ab")
unfolding answers prefix those each rows_from occurs between ending_at by_end overlapping
made_up_says zero = refl
made_up_says (suc n) =
    ap (λ (r : List Saying). match (record { start = 0; end = 2; payload = 0 }) ∷ r)
    (ends_again (bytes "ab") (having 2 3) 1 2 3 n ∙ sym (take-replicate n (suc n) end (omega arith)))

whole_text_at_once_lem : StandardDemands whole_text_at_once (alone (bytes "abc")) (0 ∷ []) (bytes "abcd") → ⊥
unfolding answers same prefix those rows_from is_state own_of longest_state failure begins before is_dead link hunt chain step walk
whole_text_at_once_lem D = let e : ◌≡◌ {A = ℕ} 5 3 = (D.overlapping_moves 1 _ (Memᴰ.head refl)).1 in omega (arith, e)

made_up_count_lem : StandardDemands made_up_count (alone (bytes "ab")) (0 ∷ []) (bytes "ab") → ⊥
unfolding answers same prefix those rows_from is_state own_of longest_state failure begins before is_dead link hunt chain step walk
made_up_count_lem D = let e : ◌≡◌ {A = ℕ} 3 2 = (D.overlapping_moves 1 _ (Memᴰ.head refl)).1 in omega (arith, e)

pub shut_out : ShutOut
shut_out =
    record {
      at_once_the_end_lem = at_once_the_end_lem;
      always_one_match_lem = always_one_match_lem;
      whole_text_says = whole_text_says;
      whole_text_at_once_lem = whole_text_at_once_lem;
      made_up_says = made_up_says;
      made_up_count_lem = made_up_count_lem;
    }
