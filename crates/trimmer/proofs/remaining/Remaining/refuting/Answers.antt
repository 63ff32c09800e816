use Rattle.std.proofs.Common.{subst}
use Rattle.cover_checker.specs.Indexed.{IsIndexOf}
use Rattle.trimmer.specs.Remaining.{assertions_in}
use Rattle.trimmer.proofs.remaining.Remaining.refuting.Goals as goal

pub returns : goal.returns
returns c = subst (λ left. IsIndexOf (assertions_in left) c.self.inside.counted.refuting) c.self.view_is c.self.invariant.0.index
