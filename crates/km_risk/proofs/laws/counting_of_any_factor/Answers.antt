use Rattle.km_risk.proofs.Counting.{product_counting_law}
use Rattle.km_risk.proofs.laws.counting_of_any_factor.Goals as goal

pub returns : goal.returns
returns c = product_counting_law
