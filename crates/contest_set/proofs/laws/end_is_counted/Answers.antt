use Rattle.contest_set.proofs.RiskLimit.{end_is_counted}
use Rattle.contest_set.proofs.laws.end_is_counted.Goals as goal

pub returns : goal.returns
returns c = end_is_counted
