use Rattle.call_laws.proofs.FewestFiles.{fewest_is_accepted}
use Rattle.call_laws.proofs.laws.fewest_is_accepted.Goals as goal

pub returns : goal.returns
returns c = fewest_is_accepted
