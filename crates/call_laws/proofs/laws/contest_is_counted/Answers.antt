use Rattle.call_laws.proofs.ContestsLimit.{contest_is_counted}
use Rattle.call_laws.proofs.laws.contest_is_counted.Goals as goal

pub returns : goal.returns
returns c = contest_is_counted
