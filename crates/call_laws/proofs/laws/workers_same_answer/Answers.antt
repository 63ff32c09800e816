use Rattle.call_laws.proofs.Agreement.{workers_same_answer}
use Rattle.call_laws.proofs.laws.workers_same_answer.Goals as goal

pub returns : goal.returns
returns c = workers_same_answer
