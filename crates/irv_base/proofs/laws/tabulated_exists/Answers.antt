use Rattle.irv_base.proofs.Tabulated.{tabulated_exists}
use Rattle.irv_base.proofs.laws.tabulated_exists.Goals as goal

pub returns : goal.returns
returns c = tabulated_exists
