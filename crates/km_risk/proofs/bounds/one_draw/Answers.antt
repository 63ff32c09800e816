use Rattle.std.proofs.Common.{rules, ◌≡◌, arith}
use Rattle.km_risk.specs.Factor.{numerator, denominator}
use Rattle.km_risk.proofs.Around.{around-one}
use Rattle.km_risk.proofs.bounds.one_draw.Goals as goal

pub returns-clause-around : goal.returns-clause-around
returns-clause-around c =
    let s = c.args.setting in
    let w = s.within_limits in
    let num : c.from-numerator.result ≡ numerator s.cards s.margin s.gamma = search rules in
    let den : c.from-denominator.result ≡ denominator s.cards s.margin s.gamma 2 = search rules in
    rw c.from-2.ensures (around-one s.cards s.margin s.gamma (omega arith) (omega arith) (omega arith) c.from-numerator.result c.from-denominator.result num
    den)
