use Rattle.std.proofs.Common.{◌≡◌, ◌∙◌, ap, arith}
use Rattle.km_risk.specs.declared.limits.TheConstants.{ONE}
use Rattle.km_risk.specs.Counts.{clean}
use Rattle.km_risk.specs.Printed.{printed_risk}
use Rattle.km_risk.proofs.Around.{printed-none}
use Rattle.km_risk.proofs.bounds.+climb.Goals as goal

pub returns-then-step-most-clause-above : goal.returns-then-step-most-clause-above
returns-then-step-most-clause-above t c =
    let s = c.args.setting in
    let none : printed_risk s.cards s.margin s.gamma (clean c.no_draws.result.draws) ≡ ONE =
    ap (λ n. printed_risk s.cards s.margin s.gamma (clean n)) c.no_draws.ensures.none ∙ printed-none s.cards s.margin s.gamma in
    omega (arith, none)
