use Rattle.ballot_laws.proofs.Bytes.{spelling_is_read as law}
use Rattle.ballot_laws.proofs.laws.spelling_is_read.Goals as goal

pub returns : goal.returns
returns c = law
