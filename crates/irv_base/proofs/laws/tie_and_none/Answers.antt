use Rattle.irv_base.proofs.Ties.{tie_and_none}
use Rattle.irv_base.proofs.laws.tie_and_none.Goals as goal

pub returns : goal.returns
returns c = tie_and_none
