-- Every claim of ../specs/Demands.antt.
use Rattle.meaning.specs.Demands.{MeaningClaims}
use Rattle.meaning.proofs.Standard.{standard_holds}
use Rattle.meaning.proofs.LeftmostCalls.{leftmost_holds}

pub claims : MeaningClaims
claims = record { standard_holds = standard_holds; leftmost_holds = leftmost_holds }
