use Rattle.assertions.proofs.Nebs.{neb_for}
use Rattle.assertions.proofs.laws.neb_for.Goals as goal

pub returns : goal.returns
returns c = neb_for
