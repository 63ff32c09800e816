use Rattle.std.proofs.Common.{refl}
use Rattle.km_risk.specs.Printed.{printed_risk}
use Rattle.session_file.proofs.examples.five_draws.Goals as goal

pub returns : goal.returns
unfolding printed_risk
returns c = record { right = refl; risk = refl; gamma = refl; no_claim = refl }
