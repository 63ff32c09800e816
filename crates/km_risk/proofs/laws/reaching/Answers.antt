use Rattle.km_risk.proofs.Sequences.{reach_law}
use Rattle.km_risk.proofs.laws.reaching.Goals as goal

pub returns : goal.returns
returns c = reach_law
