use Rattle.std.proofs.Common.{refl}
use Rattle.km_risk.specs.Printed.{printed_risk}
use Rattle.polling.proofs.examples.missing_card.Goals as goal

pub returns : goal.returns
unfolding printed_risk
returns c = record { counts = refl; risk = refl }
