use Rattle.polling.proofs.EachLimit.{each_values_limit}
use Rattle.polling.proofs.laws.each_values_limit.Goals as goal

pub returns : goal.returns
returns c = each_values_limit
