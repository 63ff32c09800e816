use Rattle.std.proofs.Common.{refl}
use Rattle.km_risk.specs.Printed.{printed_risk}
use Rattle.session_state.proofs.examples.confirmed_earlier.Goals as goal

pub returns : goal.returns
unfolding printed_risk
returns c = record { exact = refl; risen = refl; both = refl; second_alone = refl; lower_limit = refl; no_round = refl }
