use Rattle.std.proofs.Common.{refl}
use Rattle.std.specs.Fmt.{digits}
use Rattle.report.proofs.examples.risks.Goals as goal

pub returns : goal.returns
unfolding digits
returns c = record { one = refl; below = refl; unit = refl; none = refl }
