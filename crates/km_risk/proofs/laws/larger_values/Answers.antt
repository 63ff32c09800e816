use Rattle.km_risk.proofs.LargerDiscrepancies.{larger_values}
use Rattle.km_risk.proofs.laws.larger_values.Goals as goal

pub returns : goal.returns
returns c = larger_values
