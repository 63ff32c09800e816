use Rattle.call_laws.proofs.EachPollsLimit.{each_confirmed_is_counted}
use Rattle.call_laws.proofs.laws.each_confirmed_is_counted.Goals as goal

pub returns : goal.returns
returns c = each_confirmed_is_counted
