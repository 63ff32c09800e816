use Rattle.std.proofs.Common.{refl}
use Rattle.poll_command.proofs.examples.three_candidates.Goals as goal

pub returns : goal.returns
returns c = record { stands = refl; spent = refl; proved = refl }
