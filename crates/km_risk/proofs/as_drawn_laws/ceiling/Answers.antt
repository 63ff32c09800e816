use Rattle.km_risk.proofs.AsDrawn.{ceiling_law}
use Rattle.km_risk.proofs.as_drawn_laws.ceiling.Goals as goal

pub returns : goal.returns
returns c = ceiling_law
