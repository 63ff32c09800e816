use Rattle.call_laws.proofs.PollsLimit.{confirmed_are_few}
use Rattle.call_laws.proofs.laws.confirmed_are_few.Goals as goal

pub returns : goal.returns
returns c = confirmed_are_few
