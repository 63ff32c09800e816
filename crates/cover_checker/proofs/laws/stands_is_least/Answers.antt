use Rattle.cover_checker.proofs.Verdicts.{stands_is_least}
use Rattle.cover_checker.proofs.laws.stands_is_least.Goals as goal

pub returns : goal.returns
returns c = stands_is_least
