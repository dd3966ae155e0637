-- `fits` asks what a base must be, one thing after another.
use mathlib.Core.Path.{sym, ap, ◌∙◌}
use mathlib.Core.Bool.{not}
use Rattle.std.proofs.lemmas.Bool.{eq-eqb, not-true, not-false}
use Rattle.paper.proofs.Tests.{clash}
use Rattle.spots.proofs.Trying.{fits_not_zero, fits_not_used, fits_room}
use Rattle.spots.proofs.fits.Goals as goal
use Rattle.spots.proofs.fits.Goals.{then-base-ne0, else-base-ne0}

pub returns-then-not-is_used : goal.returns-then-not-is_used
returns-then-not-is_used c =
    λ es l g R G.
    elim c.if-base-ne0.branch [
      | then-base-ne0 w ↦
          c.has_room.ensures es l R
          ∙ fits_room R g G w.if-base-ne0.true (sym w.is_used.ensures ∙ not-true _ (sym w.value-is ∙ c.if-not-is_used.true))
      | else-base-ne0 w ↦ clash c.if-not-is_used.true (w.value-is ∙ ap not (eq-eqb _ 0 w.if-base-ne0.false))
    ]

pub returns-else-not-is_used : goal.returns-else-not-is_used
returns-else-not-is_used c =
    λ es l g R G.
    elim c.if-base-ne0.branch [
      | then-base-ne0 w ↦
          c.if-not-is_used.false
          ∙ fits_not_used R g w.if-base-ne0.true (sym w.is_used.ensures ∙ not-false _ (sym w.value-is ∙ c.if-not-is_used.false))
      | else-base-ne0 w ↦ c.if-not-is_used.false ∙ fits_not_zero R g w.if-base-ne0.false
    ]
