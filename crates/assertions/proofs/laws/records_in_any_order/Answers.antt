use Rattle.assertions.proofs.Reordered.{records_in_any_order}
use Rattle.assertions.proofs.laws.records_in_any_order.Goals as goal

pub returns : goal.returns
returns c = records_in_any_order
