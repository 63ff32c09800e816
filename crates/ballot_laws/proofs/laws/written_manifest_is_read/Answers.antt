use Rattle.ballot_laws.proofs.Manifests.{written_manifest_is_read as law}
use Rattle.ballot_laws.proofs.laws.written_manifest_is_read.Goals as goal

pub returns : goal.returns
returns c = law
