use Rattle.polling.proofs.Limit.{poll_values_limit}
use Rattle.polling.proofs.laws.poll_values_limit.Goals as goal

pub returns : goal.returns
returns c = poll_values_limit
