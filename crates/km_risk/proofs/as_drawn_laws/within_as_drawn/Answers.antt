use Rattle.km_risk.proofs.AsDrawn.{within_as_drawn_law}
use Rattle.km_risk.proofs.as_drawn_laws.within_as_drawn.Goals as goal

pub returns : goal.returns
returns c = within_as_drawn_law
