use Rattle.plurality.proofs.Leads.{each-assorter}
use Rattle.plurality.proofs.plural.PluralClaims.count.Goals as goal

pub returns-clause-assorters : goal.returns-clause-assorters
returns-clause-assorters c = each-assorter c.args.self.now
