use Rattle.adoption.proofs.Adopting.{adopted_is}
use Rattle.adoption.proofs.laws.adopted_is.Goals as goal

pub returns : goal.returns
returns c = λ budget ballots claims file are sound. adopted_is budget ballots claims are sound file
