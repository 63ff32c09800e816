use Rattle.std.proofs.Common.{arith}
use Rattle.km_risk.proofs.Around.{around-joined}
use Rattle.km_risk.proofs.bounds.Bounds.joined.Goals as goal

pub returns-clause-around : goal.returns-clause-around
returns-clause-around c =
    let s = c.args.setting in
    let w = s.within_limits in
    rw (c.from-scale.ensures, c.from.ensures, c.from-2.ensures, c.from-3.ensures, c.from-4.ensures)
    (around-joined s.cards s.margin s.gamma (omega arith) (omega arith) (omega arith) c.args.self.draws c.args.other.draws
    c.args.self.least c.args.self.most c.args.other.least c.args.other.most c.requires.around c.requires.other)
