use Rattle.std.proofs.Common.{rules, append_assoc}
use Rattle.contests_command.proofs.table.add_margin.Goals as goal

pub returns : goal.returns
returns c = search (rules, append_assoc)
