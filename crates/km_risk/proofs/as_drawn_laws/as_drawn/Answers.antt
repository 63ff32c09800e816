use Rattle.km_risk.proofs.AsDrawn.{as_drawn_law}
use Rattle.km_risk.proofs.as_drawn_laws.as_drawn.Goals as goal

pub returns : goal.returns
returns c = as_drawn_law
