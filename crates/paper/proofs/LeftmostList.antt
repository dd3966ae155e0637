-- (E) The leftmost walk, a call after the other, gives the leftmost list of both kinds.
use mathlib.Core.Path.{◌≡◌, refl, sym, ap, ◌∙◌, subst}
use mathlib.Core.List.{List, []}
use mathlib.Core.Option.{Option, none, some}
use Prim.Native.Nat.{ℕ, zero, suc, ◌+◌, ◌-◌, ◌≤◌, ◌<◌}
use native.Mathlib.Omega.{arith}
use lib.ListN.{length, drop}
use lib.Seq.{drop-drop}
use Rattle.paper.specs.Patterns.{Entry, Choice, leftmost, longest, first, accepted, Filled, Proper}
use Rattle.paper.specs.Matches.{occurs, Occurrence, occurrence_at, Stands, ByLength, Chosen, leftmost_by}
use Rattle.paper.specs.Automaton.{Machine, machine, longest_state, before, says_next, on_given, says_leftmost}
use Rattle.paper.proofs.Order.{by_length_asymmetric}
use Rattle.paper.proofs.Occurrences.{stands_bounds, chosen_unique, leftmost_is}
use Rattle.paper.proofs.Acceptance.{proper, longest_is_first}
use Rattle.paper.proofs.Leftmost.{From, Kept, ends_inside, says_next_lem}

module _ (es : List Entry) (P : Proper es) (t : List ℕ) where
  -- an occurrence that starts at p or later is one in the text from p on
  stands_from : (p : ℕ) (g : Occurrence) → Stands es t g → p ≤ g.start → From es (drop p t) p g
  unfolding occurs
  stands_from p g s h =
      let there : p + (g.start - p) ≡ g.start = omega arith in
      record {
        entry = s.entry;
        listed = s.listed;
        offset = g.start - p;
        lies = rw (drop-drop (g.start - p) p t, there) s.occurring;
        is = rw there s.is;
      }

  from_stands : (p : ℕ) (g : Occurrence) → From es (drop p t) p g → Stands es t g
  unfolding occurs
  from_stands p g G =
      let start : g.start ≡ p + G.offset = ap (λ (f : Occurrence). f.start) G.is in
      record {
        entry = G.entry;
        listed = G.listed;
        occurring = rw (start, ← drop-drop G.offset p t) G.lies;
        is = G.is ∙ ap (λ (k : ℕ). occurrence_at k G.entry) (sym start);
      }

  from_start : (p : ℕ) (g : Occurrence) → From es (drop p t) p g → p ≤ g.start
  from_start p g G = omega (arith, ap (λ (f : Occurrence). f.start) G.is)

  module _ (choice : Choice) where
    abbrev M : Machine
    M = machine (leftmost choice) es

    -- one call from p
    call : (p moves : ℕ) → Kept es (drop p t) p (length (drop p t)) (says_next M (record { state = []; moves = moves }) p none (drop p t)).given
    unfolding longest_state before
    call p moves =
        let begin : p + 0 ≡ p = omega arith in
        subst (λ (n : ℕ). Kept es (drop p t) p (length (drop p t)) (says_next M (record { state = []; moves = moves }) n none (drop p t)).given) begin
        (says_next_lem es P choice p (record { state = []; moves = moves }) [] (drop p t) none refl refl
        (λ g G h. omega (arith, ends_inside es P (drop p t) p g G, from_start p g G)))

    -- the calls so far leave those that start at p or later; the number is enough for them
    calls : (n p moves : ℕ) → length t < n + p → Chosen ByLength es t p (says_leftmost M n p moves t).matches
    unfolding says_leftmost
    calls zero p moves h = λ g s k. let b = stands_bounds P s in omega (arith, b)
    calls (suc n) p moves h =
        go (says_next M (record { state = []; moves = moves }) p none (drop p t)).given (call p moves)
        (λ f k. calls n f.end (says_next M (record { state = []; moves = moves }) p none (drop p t)).moves (omega arith))
      where
        moved : ℕ
        moved = (says_next M (record { state = []; moves = moves }) p none (drop p t)).moves

        go : (o : Option Occurrence) → Kept es (drop p t) p (length (drop p t)) o
            → ((f : Occurrence) → p < f.end → Chosen ByLength es t f.end (says_leftmost M n f.end moved t).matches)
            → Chosen ByLength es t p (on_given o moved (λ f. says_leftmost M n f.end moved t)).matches
        go none K more = λ g s k. let G = stands_from p g s k in K g G (ends_inside es P (drop p t) p g G).1
        go (some f) K more = (
          record {
            stands = from_stands p f K.0;
            from = from_start p f K.0;
            best = λ g s k. let G = stands_from p g s k in K.2 g G (ends_inside es P (drop p t) p g G).1;
          },
          more f (omega (arith, ends_inside es P (drop p t) p f K.0, from_start p f K.0)),
        )

    says_longest : (says_leftmost M (suc (length t)) 0 0 t).matches ≡ leftmost_by longest es t
    says_longest =
        chosen_unique ByLength t by_length_asymmetric es 0 (says_leftmost M (suc (length t)) 0 0 t).matches (leftmost_by longest es t)
        (calls (suc (length t)) 0 0 (omega arith)) (leftmost_is longest es t P)

pub says_leftmost_lem : (choice : Choice) (ps : List (List ℕ)) (t : List ℕ) → Filled ps
    → (says_leftmost (machine (leftmost choice) (accepted (leftmost choice) ps)) (suc (length t)) 0 0 t).matches
    ≡ leftmost_by choice (accepted (leftmost choice) ps) t
says_leftmost_lem longest ps t h = says_longest (accepted (leftmost longest) ps) (proper (leftmost longest) ps h) t longest
says_leftmost_lem first ps t h =
    says_longest (accepted (leftmost first) ps) (proper (leftmost first) ps h) t first ∙ longest_is_first ps t h
