use Rattle.km_risk.proofs.Confirmed.{confirmed_law}
use Rattle.km_risk.proofs.laws.confirmed.Goals as goal

pub returns : goal.returns
returns c = confirmed_law
