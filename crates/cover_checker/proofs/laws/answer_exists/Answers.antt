use Rattle.cover_checker.proofs.Existing.{answer_exists}
use Rattle.cover_checker.proofs.laws.answer_exists.Goals as goal

pub returns : goal.returns
returns c = answer_exists
