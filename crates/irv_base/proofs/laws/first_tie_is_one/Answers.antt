use Rattle.irv_base.proofs.Ties.{first_tie_is_one}
use Rattle.irv_base.proofs.laws.first_tie_is_one.Goals as goal

pub returns : goal.returns
returns c = first_tie_is_one
