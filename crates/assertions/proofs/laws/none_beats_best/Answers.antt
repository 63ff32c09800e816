use Rattle.assertions.proofs.Certificates.{none_beats_best}
use Rattle.assertions.proofs.laws.none_beats_best.Goals as goal

pub returns : goal.returns
returns c = none_beats_best
