use Rattle.km_risk.proofs.AllCounted.{all_counted}
use Rattle.km_risk.proofs.laws.all_counted.Goals as goal

pub returns : goal.returns
returns c = all_counted
