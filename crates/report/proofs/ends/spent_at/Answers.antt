use Rattle.std.proofs.Common.{rules}
use Rattle.report.proofs.ends.spent_at.Goals as goal

pub returns : goal.returns
returns c = search rules
