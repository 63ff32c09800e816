use Rattle.std.proofs.Common.{refl}
use Rattle.km_risk.specs.Printed.{printed_risk}
use Rattle.session_state.proofs.examples.two_claims.Goals as goal

pub returns : goal.returns
unfolding printed_risk
returns c = record { first = refl; both = refl }
