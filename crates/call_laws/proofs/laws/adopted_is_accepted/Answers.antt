use Rattle.call_laws.proofs.AdoptedFiles.{adopted_is_accepted}
use Rattle.call_laws.proofs.laws.adopted_is_accepted.Goals as goal

pub returns : goal.returns
returns c = adopted_is_accepted
