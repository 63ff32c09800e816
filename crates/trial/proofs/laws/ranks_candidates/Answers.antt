use Rattle.trial.proofs.Ballots.{ballots-below}
use Rattle.trial.proofs.laws.ranks_candidates.Goals as goal

pub returns : goal.returns
returns c = λ number n ballots some. ballots-below n some ballots number
