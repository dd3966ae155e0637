-- All claims hold.
use Rattle.whole.specs.Claims.{WholeClaims}
use Rattle.whole.proofs.Agreement.{agrees}
use Rattle.whole.proofs.CellRules.{cell_rules}

pub claims : WholeClaims
claims = record { agrees = agrees; cell_rules = cell_rules }
