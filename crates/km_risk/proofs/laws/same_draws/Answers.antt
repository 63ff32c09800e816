use Rattle.km_risk.proofs.CleanDraws.{same_draws_law}
use Rattle.km_risk.proofs.laws.same_draws.Goals as goal

pub returns : goal.returns
returns c = same_draws_law
