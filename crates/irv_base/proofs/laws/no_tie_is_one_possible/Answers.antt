use Rattle.irv_base.proofs.Possible.{no_tie_is_one_possible}
use Rattle.irv_base.proofs.laws.no_tie_is_one_possible.Goals as goal

pub returns : goal.returns
returns c = no_tie_is_one_possible
