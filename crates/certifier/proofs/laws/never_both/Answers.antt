use Rattle.certifier.proofs.Together.{never_both}
use Rattle.certifier.proofs.laws.never_both.Goals as goal

pub returns : goal.returns
returns c = never_both
