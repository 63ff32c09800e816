use Rattle.polling.proofs.EachLimit.{each_limit}
use Rattle.polling.proofs.laws.each_limit.Goals as goal

pub returns : goal.returns
returns c = each_limit
