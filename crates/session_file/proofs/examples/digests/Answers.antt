use Rattle.std.proofs.Common.{refl}
use Rattle.hex.proofs.OnLiterals.{hex_on_literals}
use Rattle.session_file.proofs.examples.digests.Goals as goal

pub returns : goal.returns
unfolding hex_on_literals
returns c = record { either_case = refl; letter = refl; too_few = refl }
