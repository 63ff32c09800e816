use Rattle.km_risk.proofs.LargerDiscrepancies.{within_grows}
use Rattle.km_risk.proofs.laws.larger_discrepancies.Goals as goal

pub returns : goal.returns
returns c = within_grows
