use Rattle.adoption.proofs.Adopting.{adopted_is_accepted}
use Rattle.adoption.proofs.laws.adopted_is_accepted.Goals as goal

pub returns : goal.returns
returns c = λ budget ballots claims file are sound. adopted_is_accepted budget ballots claims are sound file
