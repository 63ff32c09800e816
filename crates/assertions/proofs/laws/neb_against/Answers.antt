use Rattle.assertions.proofs.Nebs.{neb_against}
use Rattle.assertions.proofs.laws.neb_against.Goals as goal

pub returns : goal.returns
returns c = neb_against
