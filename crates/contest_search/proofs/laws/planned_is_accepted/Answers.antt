use Rattle.contest_search.proofs.Accepted.{planned_is_accepted}
use Rattle.contest_search.proofs.laws.planned_is_accepted.Goals as goal

pub returns : goal.returns
returns c = planned_is_accepted
