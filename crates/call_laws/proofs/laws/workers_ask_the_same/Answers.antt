use Rattle.call_laws.proofs.Workers.{ask_the_same}
use Rattle.call_laws.proofs.laws.workers_ask_the_same.Goals as goal

pub returns : goal.returns
returns c = ask_the_same
