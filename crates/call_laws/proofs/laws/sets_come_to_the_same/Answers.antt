use Rattle.call_laws.proofs.Workers.{sets_come_to_the_same}
use Rattle.call_laws.proofs.laws.sets_come_to_the_same.Goals as goal

pub returns : goal.returns
returns c = sets_come_to_the_same
