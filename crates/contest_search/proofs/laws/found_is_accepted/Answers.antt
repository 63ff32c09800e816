use Rattle.contest_search.proofs.Accepted.{found_is_accepted}
use Rattle.contest_search.proofs.laws.found_is_accepted.Goals as goal

pub returns : goal.returns
returns c = found_is_accepted
