use Rattle.call_laws.proofs.EachPollsLimit.{each_confirmed_are_few}
use Rattle.call_laws.proofs.laws.each_confirmed_are_few.Goals as goal

pub returns : goal.returns
returns c = each_confirmed_are_few
