use Rattle.contest_search.proofs.FewestAccepted.{fewest_is_accepted}
use Rattle.contest_search.proofs.laws.fewest_is_accepted.Goals as goal

pub returns : goal.returns
returns c = fewest_is_accepted
