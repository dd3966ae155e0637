-- All claims hold: each field cites the law that proves it.
use mathlib.Core.Path.{◌≡◌, refl, ap, ◌∙◌}
use mathlib.Core.Bool.{Bool}
use mathlib.Core.List.{List, [], ◌∷◌, map}
use Prim.Native.Nat.{ℕ, suc, ◌≤◌}
use lib.ListN.{length, take, drop}
use Rattle.paper.specs.Patterns.{Entry, standard}
use Rattle.paper.specs.Matches.{ByEnd, Leftmost, ending_at}
use Rattle.paper.specs.Automaton.{machine, is_state, longest_state, output, end_at, fresh, walk, never}
use Rattle.paper.specs.Claims.{ListClaims, LongestSuffix, AutomatonClaims}
use Rattle.paper.proofs.Tests.{test}
use Rattle.paper.proofs.Order.{by_end_asymmetric, leftmost_asymmetric}
use Rattle.paper.proofs.Occurrences.{overlapping_is, overlapping_only, plain_is, leftmost_is, chosen_unique}
use Rattle.paper.proofs.Acceptance.{proper, acceptance, same_list}
use Rattle.paper.proofs.Longest.{longest_is_state}
use Rattle.paper.proofs.Links.{ruled, rules_only}
use Rattle.paper.proofs.Moves.{moves_bound}
use Rattle.paper.proofs.Machines.{machine_states, lawful}
use Rattle.paper.proofs.Ends.{endings_here}
use Rattle.paper.proofs.Standard.{walk_state, output_longest, says_overlapping}
use Rattle.paper.proofs.Plain.{says_plain_lem}
use Rattle.paper.proofs.Stops.{longest_most}
use Rattle.paper.proofs.LeftmostList.{says_leftmost_lem}

pub lists : ListClaims
lists =
    record {
      proper = proper;
      overlapping_is = overlapping_is;
      overlapping_only = overlapping_only;
      plain_is = plain_is;
      plain_only = λ es t. chosen_unique ByEnd t by_end_asymmetric es;
      leftmost_is = leftmost_is;
      leftmost_only = λ c es t. chosen_unique (Leftmost c) t (leftmost_asymmetric c) es;
      acceptance = acceptance;
      same_list = same_list;
    }

longest_offset : (S : List ℕ → Bool) (u : List ℕ) → (o : ℕ) × (longest_state S u ≡ drop o u)
unfolding longest_state
longest_offset S [] = (0, refl)
longest_offset S (x ∷ xs) =
    test (S (x ∷ xs)) (λ h. (0, rw h)) (λ h. let r = longest_offset S xs in (suc r.0, rw h r.1))

longest_suffix : (es : List Entry) (u : List ℕ) → LongestSuffix (is_state es) u (longest_state (is_state es) u)
longest_suffix es u =
    let o = longest_offset (is_state es) u in
    record {
      offset = o.0;
      suffix = o.1;
      state = longest_is_state (is_state es) (machine_states es) u;
      longest = longest_most (machine standard es) u;
    }

walk_longest : (es : List Entry) (t : List ℕ) → (walk (machine standard es) never fresh t).state ≡ longest_state (is_state es) t
unfolding longest_state
walk_longest es t = walk_state es fresh [] t refl

output_here : (es : List Entry) (t : List ℕ) (n : ℕ) → n ≤ length t
    → map (end_at n) (output (machine standard es) (longest_state (is_state es) (take n t))) ≡ ending_at es t n
output_here es t n h = ap (map (end_at n)) (output_longest es (take n t)) ∙ endings_here es t n h

pub automaton : AutomatonClaims
automaton =
    record {
      walk_state = λ es t. rw (walk_longest es t) (longest_suffix es t);
      output_here = output_here;
      says_overlapping = says_overlapping;
      moves = λ kind es. moves_bound (machine kind es);
      says_plain_lem = says_plain_lem;
      says_leftmost_lem = says_leftmost_lem;
      says_listed = λ c ps t h. says_leftmost_lem c ps t h ∙ same_list c ps t h;
      links_ruled = λ kind es P. ruled (machine kind es) (lawful kind es P);
      links_only = λ kind es P. rules_only (machine kind es) (lawful kind es P);
    }
