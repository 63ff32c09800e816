use Rattle.irv_base.proofs.Ties.{tie_or_none}
use Rattle.irv_base.proofs.laws.tie_or_none.Goals as goal

pub returns : goal.returns
returns c = tie_or_none
