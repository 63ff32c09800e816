use Rattle.certifier.proofs.Together.{spent_is_one}
use Rattle.certifier.proofs.laws.spent_is_one.Goals as goal

pub returns : goal.returns
returns c = spent_is_one
