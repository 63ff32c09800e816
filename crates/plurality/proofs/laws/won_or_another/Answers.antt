use Rattle.plurality.proofs.Leads.{won_or_another}
use Rattle.plurality.proofs.laws.won_or_another.Goals as goal

pub returns : goal.returns
returns c = won_or_another
