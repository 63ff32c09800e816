use Rattle.std.proofs.Common.{refl}
use Rattle.std.specs.Fmt.{digits}
use Rattle.report.proofs.examples.county.Goals as goal

pub returns : goal.returns
unfolding digits
returns c = refl
