use Rattle.race_core.proofs.Reached.{racing}
use Rattle.race_core.proofs.laws.racing.Goals as goal

pub returns : goal.returns
returns c = racing
