use Rattle.std.proofs.Common.{arith}
use Rattle.irv_base.proofs.Suffixes.{suffix-long}
use Rattle.irv_base.proofs.suffix.Suffix.len.Goals as goal

pub returns-clause-same : goal.returns-clause-same
returns-clause-same c =
    omega (arith, suffix-long c.self.inside.start c.self.inside.set c.self.inside.places c.args.self.now c.self.invariant c.self.view_is)
