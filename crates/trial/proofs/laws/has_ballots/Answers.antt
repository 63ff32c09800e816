use Rattle.trial.proofs.Ballots.{length-ballots}
use Rattle.trial.proofs.laws.has_ballots.Goals as goal

pub returns : goal.returns
returns c = λ number n ballots. length-ballots n ballots number
