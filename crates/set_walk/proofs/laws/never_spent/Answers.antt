use Rattle.set_walk.proofs.Few.{never_spent}
use Rattle.set_walk.proofs.laws.never_spent.Goals as goal

pub returns : goal.returns
returns c = λ n winner sets goes low two le. never_spent n winner goes low two sets le
