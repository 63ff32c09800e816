use Rattle.cover_checker.proofs.Deciding.{accepted_is_decided}
use Rattle.cover_checker.proofs.laws.accepted_is_decided.Goals as goal

pub returns : goal.returns
returns c = accepted_is_decided
