use Rattle.std.proofs.Common.{refl}
use Rattle.std.specs.Fmt.{digits}
use Rattle.poll_command.proofs.examples.two_claims.Goals as goal

pub returns : goal.returns
unfolding digits
returns c = refl
