use Rattle.irv_base.proofs.Tabulated.{tabulated-possible}
use Rattle.irv_base.proofs.laws.tabulated_is_possible.Goals as goal

pub returns : goal.returns
returns c = tabulated-possible
