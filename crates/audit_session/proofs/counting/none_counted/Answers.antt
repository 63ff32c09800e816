use Rattle.std.proofs.Common.{◌≡◌, ◌∙◌, arith}
use Rattle.km_risk.specs.declared.draws.Counts.{Counts}
use Rattle.audit_session.proofs.Counted.{none-more}
use Rattle.audit_session.proofs.counting.none_counted.Goals as goal

none-is : (counts : Counts) → counts.n0 ≡ 0 → counts.n1 ≡ 0 → counts.n2 ≡ 0 → counts.n3 ≡ 0 → counts.n4 ≡ 0 →
    counts ≡ record { n0 = 0; n1 = 0; n2 = 0; n3 = 0; n4 = 0 }
none-is counts e0 e1 e2 e3 e4 = λ i. record { n0 = e0 i; n1 = e1 i; n2 = e2 i; n3 = e3 i; n4 = e4 i }

pub loop-preserved : goal.loop-preserved
loop-preserved g c =
    c.in_ok-push.ensures.items
    ∙ none-more (g.T.Claims.values c.args.claims.now) c.loop.counts.items c.loop.counter c.default.result (omega (arith, c.count-end.ensures.all))
    (none-is c.default.result c.default.ensures.0 c.default.ensures.1.0 c.default.ensures.1.1.0 c.default.ensures.1.1.1.0 c.default.ensures.1.1.1.1) c.loop.invariant
