use Rattle.call_laws.proofs.PollsLimit.{confirmed_is_counted}
use Rattle.call_laws.proofs.laws.confirmed_is_counted.Goals as goal

pub returns : goal.returns
returns c = confirmed_is_counted
