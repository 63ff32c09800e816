use Rattle.cover_checker.proofs.Best.{accepted_without_order}
use Rattle.cover_checker.proofs.laws.accepted_without_order.Goals as goal

pub returns : goal.returns
returns c = accepted_without_order
