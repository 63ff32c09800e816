use Rattle.plurality.proofs.Leads.{winner_is_first}
use Rattle.plurality.proofs.laws.winner_is_first.Goals as goal

pub returns : goal.returns
returns c = winner_is_first
