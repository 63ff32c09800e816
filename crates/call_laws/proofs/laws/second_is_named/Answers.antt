use Rattle.call_laws.proofs.ReadFaults.{second_is_named}
use Rattle.call_laws.proofs.laws.second_is_named.Goals as goal

pub returns : goal.returns
returns c = second_is_named
