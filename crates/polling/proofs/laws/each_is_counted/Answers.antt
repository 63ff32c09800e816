use Rattle.polling.proofs.EachLimit.{each_is_counted}
use Rattle.polling.proofs.laws.each_is_counted.Goals as goal

pub returns : goal.returns
returns c = each_is_counted
