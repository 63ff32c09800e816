use Rattle.plurality.proofs.Risks.{published_are_claims}
use Rattle.plurality.proofs.laws.published_are_claims.Goals as goal

pub returns : goal.returns
returns c = published_are_claims
