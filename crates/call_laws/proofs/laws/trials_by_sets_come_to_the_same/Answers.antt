use Rattle.call_laws.proofs.Workers.{trials_by_sets_come_to_the_same}
use Rattle.call_laws.proofs.laws.trials_by_sets_come_to_the_same.Goals as goal

pub returns : goal.returns
returns c = trials_by_sets_come_to_the_same
