use Rattle.manifest.proofs.LinkLaws.{links_differ as law}
use Rattle.manifest.proofs.laws.links_differ.Goals as goal

pub returns : goal.returns
returns c = law
