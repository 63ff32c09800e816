use Rattle.irv_base.proofs.Decided.{decided_by_tabulated}
use Rattle.irv_base.proofs.laws.decided_by_tabulated.Goals as goal

pub returns : goal.returns
returns c = decided_by_tabulated
