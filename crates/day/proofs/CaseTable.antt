-- The case table: the counts by computing, the matches and the moves from the end-to-end statements and the lists and walks, which compute.
use mathlib.Core.Path.{◌≡◌, refl, sym, ap, ◌∙◌}
use mathlib.Core.Bool.{Bool, true, ◌&&◌}
use mathlib.Core.List.{List, [], ◌∷◌, ◌++◌, map, Memᴰ, tail-eq_of_cons-eq}
use Prim.Native.Nat.{ℕ, zero, suc}
use native.Mathlib.Omega.{arith}
use lib.Dec.{ltb, leb}
use lib.ListN.{length, take, replicate}
use Rattle.paper.specs.Lists.{same, prefix, those, each}
use Rattle.paper.specs.Patterns.{Choice, longest, first, standard, rows, rows_from, barred, keep, accepted}
use Rattle.paper.specs.Matches.{Match, with_payloads, occurs, starting_at, between, ending_at, by_end, by_length, by_row, apart, overlapping, plain, leftmost_by}
use Rattle.paper.specs.Automaton.{is_state, own_of, longest_state, failure, begins, before, is_dead, link, hunt, chain, step, walk}
use Rattle.paper.specs.Cases.{bytes, paper_list, list1, values3, short_first, long_first, twins}
use Rattle.std.proofs.lemmas.Bool.{ltb-true, leb-true, and_parts}
use Rattle.list.specs.Limits.{alphabet, most_text}
use Rattle.list.specs.Claims.{Bytes}
use Rattle.list.specs.Refusals.{lowest}
use Rattle.list.specs.Listed.{patterns_from, falls, last_from, refusals}
use Rattle.list.specs.Listed as listing
use Rattle.plan.specs.Names.{has, made, along, names_from, root_and_dead, names}
use Rattle.plan.specs.Breadth.{kid_bytes, kids}
use Rattle.plan.specs.Groups.{joined, groups_from, groups}
use Rattle.plan.specs.Placement.{any_of, all_of, sits, taken_cell, used_base, fits, first_where, look, place, place_tasks}
use Rattle.whole.specs.Refusing.{Lent, table_refusals, all_refusals}
use Rattle.whole.proofs.Cases.{cases}
use Rattle.zeros.specs.Rows.{zeros}
use Rattle.list.specs.Kinds.{kind_of}
use Rattle.nfa.specs.Grown.{accepted_of}
use Rattle.cells.specs.Columns.{column}
use Rattle.table.specs.declared.Counts.{Counts}
use Rattle.whole.specs.Whole.{cells_of}
use Rattle.wipe.specs.Wiped.{blank_rows}
use Rattle.build.specs.Lot.{Lot, lot_of, slots_of}
use Rattle.build.specs.Promise.{output_rows}
use Rattle.build.specs.Outcome as build
use Rattle.build.specs.Outcome.{outcome_of}
use Rattle.search.specs.Values as search
use Rattle.search.specs.Values.{Which, Outcome, gives, ends, refuses}
use Rattle.meaning.specs.Repeated.{Saying, match, end, said, then_end}
use Rattle.meaning.specs.Demands.{value_in, kind_number, walk_moves, plain_moves, no_moves, HasTaken, StandardDemands, LeftmostDemands}
use Rattle.day.specs.EndToEnd.{GoodBuild, searches, listed}
use Rattle.day.specs.CaseTable.{Input, under, ends_from, slots, Builds, good, BuildOf, calls, last_moves, Case, three, CaseTable}
use Rattle.day.specs.CaseTable as table
use Rattle.day.proofs.EndToEnd as day
use Rattle.day.proofs.BuiltCells.{cells_left, outs_left}

-- ---- bytes

all_bytes : List ℕ → Bool
all_bytes [] = true
all_bytes (c ∷ s) = ltb c alphabet && all_bytes s

all_bytes_lem : (s : List ℕ) → all_bytes s ≡ true → Bytes s
unfolding all_bytes
all_bytes_lem [] h k = omega arith
all_bytes_lem (c ∷ s) h zero = ltb-true c alphabet (and_parts (ltb c alphabet) (all_bytes s) h).0
all_bytes_lem (c ∷ s) h (suc k) = all_bytes_lem s (and_parts (ltb c alphabet) (all_bytes s) h).1 k

-- ---- a build's answer

-- what the definition answers is what is promised
builds : (i : Input) (lent : Lent) (o : build.Outcome)
    → outcome_of i.kind (table.joined i.patterns) (ends_from 0 i.patterns) i.values lent ≡ o
    → Builds i lent o
builds i lent o e before after r at P =
    P.answered ∙ P.outcome_is ∙ ap (outcome_of i.kind (table.joined i.patterns) (ends_from 0 i.patterns) i.values) at ∙ e

-- tables of zeros with exactly so many slots
exactly : Lent → Lot
exactly n =
    lot_of (replicate n.states (zeros 5)) (replicate n.outputs (zeros 2)) (replicate n.states (zeros 6)) (replicate n.cells (zeros 2))
    (replicate n.cells 0) (replicate n.cells 0) (replicate n.cells 0) (replicate n.cells 0) (replicate n.cells 0) (replicate n.outputs (zeros 3))

-- what a good build promises is there
a_build : (kind : ℕ) (text cuts values : List ℕ) (entry : Lot) (counts : Counts) → outcome_of kind text cuts values (slots_of entry) ≡ build.made counts
    → GoodBuild kind text cuts values
a_build kind text cuts values entry counts e =
    let cs = cells_of (kind_of kind) (accepted_of kind text cuts) in
    record {
      entry = entry;
      exit =
          lot_of (blank_rows 5 entry.trie) (blank_rows 2 entry.owns) (blank_rows 6 entry.notes) (blank_rows 2 entry.spots)
          (column (λ x. x.base) cs (length entry.base)) (column (λ x. x.link) cs (length entry.link)) (column (λ x. x.output) cs (length entry.output))
          (column (λ x. x.check) cs (length entry.check)) (column (λ x. x.depth) cs (length entry.depth))
          (output_rows (kind_of kind) (accepted_of kind text cuts) values (length entry.outs));
      counts = counts;
      promised =
          record {
            outcome = build.made counts;
            outcome_is = sym e;
            answered = refl;
            trie_left = refl;
            owns_left = refl;
            notes_left = refl;
            spots_left = refl;
            base_left_lem = refl;
            link_left = refl;
            output_left = refl;
            check_left = refl;
            depth_left = refl;
            outs_left = refl;
          };
    }

-- ---- the matches and then the end

then_end_lem : (k : ℕ) (l : List (Match ℕ)) → take (suc (length l)) (map match l ++ replicate (suc k) end) ≡ map match l ++ (end ∷ [])
then_end_lem k [] = refl
then_end_lem k (m ∷ l) = ap (λ (r : List Saying). match m ∷ r) (then_end_lem k l)

-- the moves at the end, if each answer has the moves of what it has taken
end_moves : (moves : List ℕ → ℕ) (text : List ℕ) (os : List Outcome) (l : List (Match ℕ)) → map said os ≡ map match l ++ (end ∷ [])
    → ((o : Outcome) → Memᴰ o os → HasTaken moves text o)
    → last_moves os ≡ moves text
end_moves moves text [] [] e f = cc
end_moves moves text [] (m ∷ l) e f = cc
end_moves moves text (o ∷ []) (m ∷ []) e f = cc
end_moves moves text (o ∷ []) (m ∷ k ∷ l) e f = cc
end_moves moves text (ends u ∷ []) [] e f = (f (ends u) (Memᴰ.head refl)).1
end_moves moves text (gives m u ∷ []) [] e f = cc
end_moves moves text (refuses n u ∷ []) [] e f = cc
end_moves moves text (o ∷ p ∷ os) [] e f = cc
end_moves moves text (o ∷ p ∷ os) (m ∷ l) e f = end_moves moves text (p ∷ os) l (tail-eq_of_cons-eq e) (λ q k. f q (Memᴰ.tail k))

-- ---- a case from what is proved of all lists and texts

module _ (w : Which) (i : Input) (text : List ℕ) (accepted states : ℕ) (matches : List (Match ℕ)) (moves : ℕ) (count : List ℕ → ℕ)
    (built : outcome_of i.kind (table.joined i.patterns) (ends_from 0 i.patterns) i.values (slots (suc states) 256 accepted) ≡ good i accepted states 256)
    (exact : slots_of (exactly (slots (suc states) 256 accepted)) ≡ slots (suc states) 256 accepted)
    (counted : count text ≡ moves)
    (says : (b : BuildOf i) (n : ℕ) → map said (calls i b w text n) ≡ then_end n matches)
    (taken : (b : BuildOf i) (n : ℕ) (o : Outcome) → Memᴰ o (calls i b w text n) → HasTaken count text o) where
  said_all : (b : BuildOf i) → map said (calls i b w text (suc (length matches))) ≡ map match matches ++ (end ∷ [])
  said_all b = says b (suc (length matches)) ∙ then_end_lem (length matches) matches

  a_case : Case w i text accepted states matches moves
  a_case =
      record {
        built = builds i (slots (suc states) 256 accepted) (good i accepted states 256) built;
        some = a_build i.kind (table.joined i.patterns) (ends_from 0 i.patterns) i.values (exactly (slots (suc states) 256 accepted)) _
            (ap (outcome_of i.kind (table.joined i.patterns) (ends_from 0 i.patterns) i.values) exact ∙ built);
        says = said_all;
        moved = λ b. end_moves count text (calls i b w text (suc (length matches))) matches (said_all b) (taken b (suc (length matches))) ∙ counted;
      }

-- ---- the three searches

module _ (ps : List (List ℕ)) (values text : List ℕ) (B : all_bytes (table.joined ps) ≡ true) (C : all_bytes text ≡ true) (short : leb (length text) most_text ≡ true)
    (accepted states : ℕ) (matches : List (Match ℕ)) (moves : ℕ) where
  by_overlapping : outcome_of 0 (table.joined ps) (ends_from 0 ps) values (slots (suc states) 256 accepted) ≡ good (under 0 ps values) accepted states 256
      → slots_of (exactly (slots (suc states) 256 accepted)) ≡ slots (suc states) 256 accepted
      → with_payloads (value_in values) (overlapping (listed (table.joined ps) (ends_from 0 ps)) text) ≡ matches
      → walk_moves (listed (table.joined ps) (ends_from 0 ps)) text ≡ moves
      → Case search.overlapping (under 0 ps values) text accepted states matches moves
  by_overlapping built exact list counted =
      a_case search.overlapping (under 0 ps values) text accepted states matches moves (walk_moves (listed (table.joined ps) (ends_from 0 ps))) built exact counted
      (λ b n. (D b).overlapping_says n ∙ ap (then_end n) list) (λ b. (D b).overlapping_moves)
    where
      D : (b : BuildOf (under 0 ps values)) → StandardDemands (searches b text) (listed (table.joined ps) (ends_from 0 ps)) values text
      D b = ((day.claims).standard_day (table.joined ps) (ends_from 0 ps) values text b (all_bytes_lem (table.joined ps) B) (all_bytes_lem text C) (leb-true (length text) most_text short)).demands

  by_plain : outcome_of 0 (table.joined ps) (ends_from 0 ps) values (slots (suc states) 256 accepted) ≡ good (under 0 ps values) accepted states 256
      → slots_of (exactly (slots (suc states) 256 accepted)) ≡ slots (suc states) 256 accepted
      → with_payloads (value_in values) (plain (listed (table.joined ps) (ends_from 0 ps)) text) ≡ matches
      → plain_moves (listed (table.joined ps) (ends_from 0 ps)) text ≡ moves
      → Case search.plain (under 0 ps values) text accepted states matches moves
  by_plain built exact list counted =
      a_case search.plain (under 0 ps values) text accepted states matches moves (plain_moves (listed (table.joined ps) (ends_from 0 ps))) built exact counted
      (λ b n. (D b).plain_says n ∙ ap (then_end n) list) (λ b. (D b).plain_moves_lem)
    where
      D : (b : BuildOf (under 0 ps values)) → StandardDemands (searches b text) (listed (table.joined ps) (ends_from 0 ps)) values text
      D b = ((day.claims).standard_day (table.joined ps) (ends_from 0 ps) values text b (all_bytes_lem (table.joined ps) B) (all_bytes_lem text C) (leb-true (length text) most_text short)).demands

  -- leftmost search reports no moves
  by_leftmost : (c : Choice)
      → outcome_of (kind_number c) (table.joined ps) (ends_from 0 ps) values (slots (suc states) 256 accepted) ≡ good (under (kind_number c) ps values) accepted states 256
      → slots_of (exactly (slots (suc states) 256 accepted)) ≡ slots (suc states) 256 accepted
      → with_payloads (value_in values) (leftmost_by c (listed (table.joined ps) (ends_from 0 ps)) text) ≡ matches
      → 0 ≡ moves
      → Case search.leftmost (under (kind_number c) ps values) text accepted states matches moves
  by_leftmost c built exact list counted =
      a_case search.leftmost (under (kind_number c) ps values) text accepted states matches moves no_moves built exact counted
      (λ b n. (D b).leftmost_says n ∙ ap (then_end n) list) (λ b. (D b).leftmost_moves)
    where
      D : (b : BuildOf (under (kind_number c) ps values)) → LeftmostDemands (searches b text) c (listed (table.joined ps) (ends_from 0 ps)) values text
      D b = ((day.claims).leftmost_day c (table.joined ps) (ends_from 0 ps) values text b (all_bytes_lem (table.joined ps) B) (all_bytes_lem text C) (leb-true (length text) most_text short)).demands

-- ---- the table

-- P1's rows stand first
p1_rows : (b : BuildOf three)
    → take 3 (output_rows standard (rows list1) values3 (length b.entry.outs)) ≡ (2 ∷ 1 ∷ 0 ∷ []) ∷ (1 ∷ 2 ∷ 0 ∷ []) ∷ (0 ∷ 3 ∷ 0 ∷ []) ∷ []
p1_rows b = rw cases.p1_outputs

pub case_table : CaseTable
unfolding same prefix those each rows_from barred keep accepted is_state own_of longest_state failure begins before is_dead link hunt chain step walk
    occurs starting_at between ending_at by_end by_length by_row apart overlapping plain leftmost_by
    lowest patterns_from falls last_from refusals listing.first_where
    has made along names_from root_and_dead names kid_bytes kids joined groups_from groups
    any_of all_of sits taken_cell used_base fits first_where look place place_tasks
    table_refusals all_refusals outcome_of all_bytes exactly
case_table =
    record {
      p1 = builds three (slots 7 256 3) (good three 3 6 256) refl;
      p1_cells = λ b. cells_left b (all_bytes_lem (table.joined three.patterns) refl) 256 refl ∙ cases.p1_cells;
      p1_outputs = λ b. ap (take 3) (outs_left b (all_bytes_lem (table.joined three.patterns) refl)) ∙ p1_rows b;
      p2 = by_plain list1 values3 (bytes "abcd") refl refl refl _ _ _ _ refl refl refl refl;
      p3 = by_overlapping list1 values3 (bytes "abcd") refl refl refl _ _ _ _ refl refl refl refl;
      p4 = by_overlapping paper_list (0 ∷ 1 ∷ 2 ∷ 3 ∷ []) (bytes "ushers") refl refl refl _ _ _ _ refl refl refl refl;
      p5 = by_overlapping (bytes "aa" ∷ []) (0 ∷ []) (bytes "aax") refl refl refl _ _ _ _ refl refl refl refl;
      p6_longest = by_leftmost short_first (0 ∷ 1 ∷ []) (bytes "T100") refl refl refl _ _ _ _ longest refl refl refl refl;
      p6_first = by_leftmost short_first (0 ∷ 1 ∷ []) (bytes "T100") refl refl refl _ _ _ _ first refl refl refl refl;
      p7 = by_leftmost long_first (0 ∷ 1 ∷ []) (bytes "T100") refl refl refl _ _ _ _ first refl refl refl refl;
      p8 = by_overlapping twins (5 ∷ 7 ∷ []) (bytes "ab") refl refl refl _ _ _ _ refl refl refl refl;
      p8_longest = by_leftmost twins (5 ∷ 7 ∷ []) (bytes "ab") refl refl refl _ _ _ _ longest refl refl refl refl;
      p8_first = by_leftmost twins (5 ∷ 7 ∷ []) (bytes "ab") refl refl refl _ _ _ _ first refl refl refl refl;
      p9 = by_overlapping [] [] [] refl refl refl _ _ _ _ refl refl refl refl;
      edge_bytes = builds (under 0 (replicate 65 97 ∷ []) (0 ∷ [])) (slots 70000 70000 70000) (build.refused (record { number = 5; index = 0 })) refl;
      edge_listed = builds (under 0 (replicate 1025 (bytes "a")) (replicate 1025 0)) (slots 70000 70000 70000) (build.refusal 3) refl;
      edge_cells = builds three (slots 70000 255 70000) (build.refusal 7) refl;
    }
