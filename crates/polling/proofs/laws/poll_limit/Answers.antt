use Rattle.polling.proofs.Limit.{poll_limit}
use Rattle.polling.proofs.laws.poll_limit.Goals as goal

pub returns : goal.returns
returns c = poll_limit
