use Rattle.plurality.proofs.Leads.{lead_law}
use Rattle.plurality.proofs.laws.lead.Goals as goal

pub returns : goal.returns
returns c = lead_law
