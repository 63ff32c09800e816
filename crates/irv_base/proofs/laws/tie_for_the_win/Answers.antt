use Rattle.irv_base.proofs.Decided.{tie_for_the_win}
use Rattle.irv_base.proofs.laws.tie_for_the_win.Goals as goal

pub returns : goal.returns
returns c = tie_for_the_win
