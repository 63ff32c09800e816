use Rattle.std.proofs.Common.{refl, arith}
use Rattle.km_risk.specs.Clean.{clean_draws}
use Rattle.km_risk.specs.Printed.{printed_risk}
use Rattle.audit_laws.proofs.TwoCards.{rival}
use Rattle.audit_laws.proofs.examples.another_proof.Goals as goal

pub returns : goal.returns
unfolding clean_draws printed_risk
returns c = record {
  rival = rival;
  two = refl;
  enough = omega arith;
  one = omega arith;
  smaller_margin = refl;
  five = omega arith;
  four = omega arith;
}
