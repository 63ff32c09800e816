use Rattle.km_risk.proofs.AsDrawn.{first_within_law}
use Rattle.km_risk.proofs.as_drawn_laws.first_within.Goals as goal

pub returns : goal.returns
returns c = first_within_law
