-- `make` wipes what the phases want blank, and wipes again by what they answered.
use mathlib.Core.Path.{refl, sym, ◌∙◌}
use Rattle.build.specs.Lot.{lot_of}
use Rattle.build.proofs.Promising.{AsLong, promise_refused, promise_good}
use Rattle.build.proofs.make.Goals as goal
use Rattle.build.proofs.make.Goals.{After-wipe_working}

-- the tables that the phases get, and those that they leave, are as long as the lent ones
blanked_long : (c : goal.After-wipe_working)
    → let a = c.args in
    AsLong
    (lot_of a.trie.now a.owns.now a.notes.now c.zero_all.new.slots
    c.wipe_results.new.base c.wipe_results.new.link c.wipe_results.new.output c.wipe_results.new.check c.wipe_results.new.depth c.wipe_results.new.outs)
    (lot_of a.trie.now a.owns.now a.notes.now a.spots.now a.base.now a.link.now a.output.now a.check.now a.depth.now a.outs.now)
blanked_long c =
    record {
      trie_long = refl;
      owns_long = refl;
      notes_long = refl;
      spots_long = c.zero_all.auto.slots;
      base_long = c.wipe_results.auto.base;
      link_long = c.wipe_results.auto.link;
      output_long = c.wipe_results.auto.output;
      check_long = c.wipe_results.auto.check;
      depth_long = c.wipe_results.auto.depth;
      outs_long = c.wipe_results.auto.outs;
    }

done_long : (c : goal.After-wipe_working)
    → let a = c.args in let d = c.phases-made.new in
    AsLong (lot_of d.trie d.owns d.notes d.spots d.base d.link d.output d.check d.depth d.outs)
    (lot_of a.trie.now a.owns.now a.notes.now a.spots.now a.base.now a.link.now a.output.now a.check.now a.depth.now a.outs.now)
done_long c =
    let d = c.phases-made.auto in
    let w = c.wipe_results.auto in
    record {
      trie_long = d.trie;
      owns_long = d.owns;
      notes_long = d.notes;
      spots_long = d.spots ∙ c.zero_all.auto.slots;
      base_long = d.base ∙ w.base;
      link_long = d.link ∙ w.link;
      output_long = d.output ∙ w.output;
      check_long = d.check ∙ w.check;
      depth_long = d.depth ∙ w.depth;
      outs_long = d.outs ∙ w.outs;
    }

pub returns-then-is_err : goal.returns-then-is_err
returns-then-is_err c =
    let at = (goal.at.returns-then-is_err c).After-wipe_working in
    promise_refused c.args.sound.sound (blanked_long at) (done_long at) c.wipe_working.ensures
    c.wipe_results-then-is_err.ensures c.phases-made.result c.phases-made.ensures (sym c.is_err.ensures.value ∙ c.if-is_err.true)

pub returns-else-is_err : goal.returns-else-is_err
returns-else-is_err c =
    let at = (goal.at.returns-else-is_err c).After-wipe_working in
    promise_good c.args.sound.sound (blanked_long at) (done_long at) c.wipe_working.ensures
    c.phases-made.result c.phases-made.ensures (sym c.is_err.ensures.value ∙ c.if-is_err.false)
