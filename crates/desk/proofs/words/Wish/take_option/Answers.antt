-- `take_option`: two hyphens end the options and ask for no search. The other cases are found by the check.
use mathlib.Core.Path.{sym, ap, ◌∙◌}
use mathlib.Core.List.{List, [], ◌∷◌}
use Prim.Native.Nat.{ℕ}
use lib.Pointwise.{pointwise}
use Rattle.std.proofs.Common.{nat_eq}
use Rattle.desk.proofs.Scanning.{same_pointwise}
use Rattle.paper.proofs.Strings.{same_eq}
use Rattle.desk.proofs.Asking.{ended}
use Rattle.desk.proofs.words.Wish.take_option.Goals as goal

pub returns-then-eq-clause-next : goal.returns-then-eq-clause-next
returns-then-eq-clause-next c =
    let hyphens : List ℕ = 45 ∷ 45 ∷ [] in
    ended c.args.self.now.over c.args.self.now.choosing c.args.word.now
    (same_eq c.args.word.now hyphens
    (sym (same_pointwise c.args.word.now hyphens)
    ∙ sym (c.if-eq.ensures ∙ ap (λ (xs : List ℕ). pointwise nat_eq c.args.word.now xs) c.as_slice.ensures)))
