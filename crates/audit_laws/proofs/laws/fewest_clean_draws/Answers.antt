use Rattle.audit_laws.proofs.CleanDraws.{fewest_clean_draws}
use Rattle.audit_laws.proofs.laws.fewest_clean_draws.Goals as goal

pub returns : goal.returns
returns c = fewest_clean_draws
