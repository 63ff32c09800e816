use Rattle.std.proofs.Common.{refl}
use Rattle.std.specs.Fmt.{digits}
use Rattle.report.proofs.examples.ends.Goals as goal

pub returns : goal.returns
unfolding digits
returns c = record { tie = refl; spent = refl; by_sets = refl; sets = refl }
