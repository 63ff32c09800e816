use Rattle.std.proofs.Common.{◌≡◌, ◌∙◌, ◌+◌, ◌*◌, ◌≤◌, ap, arith}
use Rattle.km_risk.specs.declared.limits.TheConstants.{ONE, MILLIONTH}
use Rattle.km_risk.specs.declared.bounds.TheConstants.{SCALE}
use Rattle.km_risk.proofs.Around.{within_law, on-le}
use Rattle.km_risk.proofs.bounds.Bounds.is_within.Goals as goal

pub returns : goal.returns
returns c =
    let s = c.args.setting in
    let w = s.within_limits in
    let allowed : c.from-allowed.result ≡ c.args.limit * MILLIONTH = c.from-allowed.ensures ∙ ap (λ limit. limit * MILLIONTH) c.from.ensures in
    on-le _ _ _ (λ h.
    let within : c.args.self.most * ONE + c.args.self.draws * SCALE ≤ c.args.limit * MILLIONTH * SCALE =
    rw (allowed, c.from-scale.ensures, c.from-2.ensures, c.from-3.ensures, c.from-4.ensures) at h in
    within_law s.cards s.margin s.gamma (omega arith) (omega arith) (omega arith) c.args.self.draws c.args.self.least c.args.self.most c.args.limit
    c.requires.around within)
