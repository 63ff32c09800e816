use Rattle.call_laws.proofs.Workers.{fewest_come_to_the_same_status}
use Rattle.call_laws.proofs.laws.fewest_come_to_the_same_status.Goals as goal

pub returns : goal.returns
returns c = fewest_come_to_the_same_status
