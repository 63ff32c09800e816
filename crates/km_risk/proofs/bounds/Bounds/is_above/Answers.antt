use Rattle.std.proofs.Common.{◌≡◌, ◌∙◌, ◌*◌, ◌<◌, ap, arith}
use Rattle.km_risk.specs.declared.limits.TheConstants.{ONE, MILLIONTH}
use Rattle.km_risk.specs.declared.bounds.TheConstants.{SCALE}
use Rattle.km_risk.proofs.Around.{above_law, on-lt}
use Rattle.km_risk.proofs.bounds.Bounds.is_above.Goals as goal

pub returns : goal.returns
returns c =
    let s = c.args.setting in
    let w = s.within_limits in
    let allowed : c.from-allowed.result ≡ c.args.limit * MILLIONTH = c.from-allowed.ensures ∙ ap (λ limit. limit * MILLIONTH) c.from.ensures in
    on-lt _ _ _ (λ h.
    let above : c.args.limit * MILLIONTH * SCALE < c.args.self.least * ONE = rw (allowed, c.from-2.ensures, c.from-3.ensures, c.from-4.ensures) at h in
    above_law s.cards s.margin s.gamma (omega arith) (omega arith) (omega arith) c.args.self.draws c.args.self.least c.args.self.most c.args.limit
    c.requires.around above)
