use Rattle.call_laws.proofs.Workers.{budgets_come_to_the_same}
use Rattle.call_laws.proofs.laws.budgets_come_to_the_same.Goals as goal

pub returns : goal.returns
returns c = budgets_come_to_the_same
