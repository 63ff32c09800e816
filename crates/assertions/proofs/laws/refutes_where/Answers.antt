use Rattle.irv_base.proofs.Distinct.{distinct-from_test}
use Rattle.assertions.proofs.Parts.{neb-where, nen-where}
use Rattle.assertions.proofs.laws.refutes_where.Goals as goal

pub returns : goal.returns
returns c = λ suffix w l rest h. (neb-where suffix w l (distinct-from_test suffix h), nen-where suffix w l rest (distinct-from_test suffix h))
