use Rattle.adoption.proofs.Answered.{answer_is_one}
use Rattle.adoption.proofs.laws.answer_is_one.Goals as goal

pub returns : goal.returns
returns c = answer_is_one
