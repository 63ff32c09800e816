use Rattle.std.proofs.Common.{refl}
use Rattle.km_risk.specs.Clean.{clean_draws}
use Rattle.km_risk.specs.Printed.{printed_risk}
use Rattle.cover_checker.proofs.examples.planned.Goals as goal

pub returns : goal.returns
unfolding clean_draws printed_risk
returns c = record { accepted = refl; too_few = refl; full_count = refl }
