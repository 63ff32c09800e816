use Rattle.contests_command.proofs.OneEnd.{audits_one}
use Rattle.contests_command.proofs.laws.audits_once.Goals as goal

pub returns : goal.returns
returns c = λ task list batches seen suffice. audits_one task list batches seen suffice
