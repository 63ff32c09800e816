use Rattle.irv_base.proofs.Tabulated.{tabulated_is_one}
use Rattle.irv_base.proofs.laws.tabulated_is_one.Goals as goal

pub returns : goal.returns
returns c = tabulated_is_one
