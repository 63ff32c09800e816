use Rattle.std.proofs.Common.{refl}
use Rattle.std.specs.Fmt.{digits}
use Rattle.audit_report.proofs.examples.one_card.Goals as goal

pub returns : goal.returns
unfolding digits
returns c = refl
