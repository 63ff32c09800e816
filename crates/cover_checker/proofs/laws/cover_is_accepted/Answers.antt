use Rattle.cover_checker.proofs.Exactly.{cover_is_accepted}
use Rattle.cover_checker.proofs.laws.cover_is_accepted.Goals as goal

pub returns : goal.returns
returns c = cover_is_accepted
