use Rattle.call_laws.proofs.ContestsAlone.{block_alone}
use Rattle.call_laws.proofs.laws.block_alone.Goals as goal

pub returns : goal.returns
returns c = block_alone
