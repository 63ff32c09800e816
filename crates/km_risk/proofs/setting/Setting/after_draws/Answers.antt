use Rattle.std.proofs.Common.{◌≡◌, ◌∙◌, ◌*◌, ◌≤◌, ℕ, sym, arith}
use Rattle.km_risk.specs.Factor.{numerator, denominator}
use Rattle.km_risk.specs.Printed.{divided_up, step}
use Rattle.km_risk.proofs.Factors.{step-falling}
use Rattle.km_risk.proofs.Standing.{one-more, standing-on}
use Rattle.km_risk.proofs.setting.Setting.after_draws.Goals as goal

-- a product with the factor is a step
stepped : (cards margin gamma r d over under next : ℕ) → 2 ≤ d → over ≡ numerator cards margin gamma → under ≡ denominator cards margin gamma d →
    next ≡ divided_up (r * over) under → next ≡ step cards margin gamma r d
stepped cards margin gamma r d over under next clean is-over is-under is =
    is ∙ (λ i. divided_up (r * is-over i) (is-under i)) ∙ sym (step-falling cards margin gamma r d clean)

pub loop-preserved : goal.loop-preserved
loop-preserved c =
    let cards = c.args.self.cards in
    let margin = c.args.self.margin in
    let gamma = c.args.self.gamma in
    let next = stepped cards margin gamma c.loop.now c.args.d _ _ c.times-next.result (omega arith) c.factor-factor.ensures.over
    c.factor-factor.ensures.under c.times-next.ensures.value in
    record {
      value = one-more (step cards margin gamma) c.args.d c.args.risk c.loop.now c.loop.counter c.times-next.result c.loop.invariant.value next;
      at_most_one = omega (arith, c.times-next.ensures.at_most, c.loop.invariant.at_most_one);
    }

pub returns-then-next-now-clause-value : goal.returns-then-next-now-clause-value
returns-then-next-now-clause-value c =
    let cards = c.args.self.cards in
    let margin = c.args.self.margin in
    let gamma = c.args.self.gamma in
    let next = stepped cards margin gamma c.loop.now c.args.d _ _ c.times-next.result (omega arith) c.factor-factor.ensures.over
    c.factor-factor.ensures.under c.times-next.ensures.value in
    standing-on (step cards margin gamma) c.args.d c.args.risk c.loop.now c.loop.counter c.args.number (omega arith) c.loop.invariant.value
    (sym next ∙ c.if-next-now.true)
