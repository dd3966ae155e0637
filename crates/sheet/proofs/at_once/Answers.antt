-- How an empty sheet stops: the kind first, then the text.
use mathlib.Core.Path.{sym, ◌∙◌}
use Rattle.search.specs.Searches.{is_leftmost}
use Rattle.sheet.proofs.Beginning.{other_first, then_long, else_full}
use Rattle.sheet.proofs.at_once.Goals as goal

pub returns-then-is_other : goal.returns-then-is_other
returns-then-is_other g c = other_first (is_leftmost g.S.Searching.which) c.args.kind c.args.length (sym c.is_other.ensures ∙ c.if-is_other.true)

pub returns-then-length-gt-MOST_TEXT : goal.returns-then-length-gt-MOST_TEXT
returns-then-length-gt-MOST_TEXT g c = then_long (is_leftmost g.S.Searching.which) c.args.kind c.args.length (sym c.is_other.ensures ∙ c.if-is_other.false) c.if-length-gt-MOST_TEXT.true

pub returns : goal.returns
returns g c = else_full (is_leftmost g.S.Searching.which) c.args.kind c.args.length (sym c.is_other.ensures ∙ c.if-is_other.false) c.if-length-gt-MOST_TEXT.false
