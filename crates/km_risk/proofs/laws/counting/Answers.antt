use Rattle.km_risk.proofs.Counting.{counting_law}
use Rattle.km_risk.proofs.laws.counting.Goals as goal

pub returns : goal.returns
returns c = counting_law
