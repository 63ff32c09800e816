use Rattle.std.proofs.Common.{◌∙◌, rules, arith}
use Rattle.km_risk.proofs.Factors.{step-computed}
use Rattle.km_risk.proofs.setting.Setting.after_draw.Goals as goal

pub returns-clause-value : goal.returns-clause-value
returns-clause-value c =
    c.min.ensures
    ∙ step-computed c.args.self.cards c.args.self.margin c.args.self.gamma c.args.risk c.args.d c.from-3.result c.from-numerator.result
    c.from-denominator.result c.from-4.result
    (omega arith) (omega arith) (omega arith) (omega arith) (omega arith) (search rules) (search rules) (omega arith)
