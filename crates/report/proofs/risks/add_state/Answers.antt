use Rattle.std.proofs.Common.{rules, append_assoc}
use Rattle.report.proofs.risks.add_state.Goals as goal

pub returns : goal.returns
returns c = search (rules, append_assoc)
