use Rattle.contest_search.proofs.FewestAccepted.{planned_fewest_is_accepted}
use Rattle.contest_search.proofs.laws.planned_fewest_is_accepted.Goals as goal

pub returns : goal.returns
returns c = planned_fewest_is_accepted
