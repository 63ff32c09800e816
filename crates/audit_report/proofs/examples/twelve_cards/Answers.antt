use Rattle.std.proofs.Common.{refl}
use Rattle.std.specs.Fmt.{digits}
use Rattle.km_risk.specs.Clean.{clean_draws}
use Rattle.km_risk.specs.Printed.{printed_risk}
use Rattle.audit_report.proofs.examples.twelve_cards.Goals as goal

pub returns : goal.returns
unfolding digits clean_draws printed_risk
returns c = record { two = refl; close = refl; none = refl }
