use Rattle.cover_checker.proofs.Held.{accepted_iff_holds}
use Rattle.cover_checker.proofs.laws.accepted_iff_holds.Goals as goal

pub returns : goal.returns
returns c = accepted_iff_holds
