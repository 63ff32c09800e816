use Rattle.polling.proofs.Limit.{poll_is_comparison}
use Rattle.polling.proofs.laws.poll_is_comparison.Goals as goal

pub returns : goal.returns
returns c = poll_is_comparison
