use Rattle.call_laws.proofs.Workers.{trials_come_to_the_same}
use Rattle.call_laws.proofs.laws.trials_come_to_the_same.Goals as goal

pub returns : goal.returns
returns c = trials_come_to_the_same
