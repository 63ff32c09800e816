use Rattle.cover_checker.proofs.Best.{accepted_margin_is_reached}
use Rattle.cover_checker.proofs.laws.accepted_margin_is_reached.Goals as goal

pub returns : goal.returns
returns c = accepted_margin_is_reached
