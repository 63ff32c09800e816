use Rattle.assertions.proofs.Decided.{proof_iff_decided}
use Rattle.assertions.proofs.laws.proof_iff_decided.Goals as goal

pub returns : goal.returns
returns c = proof_iff_decided
