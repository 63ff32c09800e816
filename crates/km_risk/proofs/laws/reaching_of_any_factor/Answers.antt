use Rattle.km_risk.proofs.Sequences.{product_reach_law}
use Rattle.km_risk.proofs.laws.reaching_of_any_factor.Goals as goal

pub returns : goal.returns
returns c = product_reach_law
