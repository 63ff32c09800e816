use Rattle.std.proofs.Common.{refl}
use Rattle.std.specs.Fmt.{digits}
use Rattle.contests_command.proofs.examples.two_contests.Goals as goal

pub returns : goal.returns
unfolding digits
returns c = refl
