use Rattle.manifest.proofs.LinkLaws.{ballots_are_linked as law}
use Rattle.manifest.proofs.laws.ballots_are_linked.Goals as goal

pub returns : goal.returns
returns c = law
