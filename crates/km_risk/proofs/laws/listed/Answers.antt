use Rattle.km_risk.proofs.Listed.{listed_law}
use Rattle.km_risk.proofs.laws.listed.Goals as goal

pub returns : goal.returns
returns c = listed_law
