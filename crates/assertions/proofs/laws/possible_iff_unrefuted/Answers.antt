use Rattle.assertions.proofs.Elections.{possible_iff_unrefuted}
use Rattle.assertions.proofs.laws.possible_iff_unrefuted.Goals as goal

pub returns : goal.returns
returns c = possible_iff_unrefuted
