use Rattle.call_laws.proofs.Workers.{come_to_the_same}
use Rattle.call_laws.proofs.laws.workers_come_to_the_same.Goals as goal

pub returns : goal.returns
returns c = come_to_the_same
