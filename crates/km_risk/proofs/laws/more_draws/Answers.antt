use Rattle.km_risk.proofs.CleanDraws.{more_draws_law}
use Rattle.km_risk.proofs.laws.more_draws.Goals as goal

pub returns : goal.returns
returns c = more_draws_law
