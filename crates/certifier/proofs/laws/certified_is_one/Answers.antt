use Rattle.certifier.proofs.Together.{certified_is_one}
use Rattle.certifier.proofs.laws.certified_is_one.Goals as goal

pub returns : goal.returns
returns c = certified_is_one
