use Rattle.std.proofs.Common.{◌∙◌, sym, arith}
use Rattle.km_risk.specs.Printed.{step}
use Rattle.km_risk.proofs.Standing.{standing-on}
use Rattle.km_risk.proofs.setting.Setting.after_overstated.Goals as goal

pub returns-then-next-now-clause-value : goal.returns-then-next-now-clause-value
returns-then-next-now-clause-value c =
    standing-on (step c.args.self.cards c.args.self.margin c.args.self.gamma) c.args.d c.args.risk c.loop.now c.loop.counter c.args.number (omega arith)
    c.loop.invariant.value (sym c.after_draw-next.ensures.value ∙ c.if-next-now.true)
