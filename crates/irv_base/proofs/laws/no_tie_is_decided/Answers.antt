use Rattle.irv_base.proofs.Decided.{no_tie_is_decided}
use Rattle.irv_base.proofs.laws.no_tie_is_decided.Goals as goal

pub returns : goal.returns
returns c = no_tie_is_decided
