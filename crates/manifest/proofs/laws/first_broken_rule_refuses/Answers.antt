use Rattle.manifest.proofs.Spelled.{first_broken_rule_refuses as law}
use Rattle.manifest.proofs.laws.first_broken_rule_refuses.Goals as goal

pub returns : goal.returns
returns c = law
