-- The computed checks hold.
use mathlib.Core.Path.{refl}
use Rattle.paper.specs.Lists.{same, prefix, those, each}
use Rattle.paper.specs.Patterns.{rows_from, barred, keep, accepted}
use Rattle.paper.specs.Matches.{occurs, starting_at, between, ending_at, by_end, by_length, by_row, apart, overlapping, plain, leftmost_by}
use Rattle.paper.specs.Automaton.{is_state, own_of, longest_state, failure, begins, before, is_dead, link, hunt, chain, step, walk}
use Rattle.paper.specs.Cases.{PaperExample, CaseLists}

pub paper_example : PaperExample
unfolding same prefix those rows_from is_state own_of longest_state failure begins before is_dead link hunt chain step walk
paper_example =
    record {
      fail_h = refl;
      fail_he = refl;
      fail_s = refl;
      fail_sh = refl;
      fail_she = refl;
      fail_hi = refl;
      fail_his = refl;
      fail_her = refl;
      fail_hers = refl;
      out_he = refl;
      out_she = refl;
      out_his = refl;
      out_hers = refl;
      on_u = refl;
      on_us = refl;
      on_ush = refl;
      on_ushe = refl;
      on_usher = refl;
      on_ushers = refl;
    }

pub case_lists : CaseLists
unfolding same prefix those each rows_from barred keep accepted occurs starting_at between ending_at by_end by_length by_row apart overlapping plain leftmost_by is_state own_of longest_state failure begins before is_dead link hunt chain step walk
case_lists =
    record {
      p2 = refl;
      p3 = refl;
      p3_moves = refl;
      p4 = refl;
      p4_moves = refl;
      p5_moves = refl;
      p6_longest = refl;
      p6_accepted = refl;
      p6_first = refl;
      p7_accepted = refl;
      p7_first = refl;
      p8 = refl;
      p8_longest = refl;
      p8_accepted = refl;
      p9 = refl;
      p9_moves = refl;
    }
