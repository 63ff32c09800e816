use Rattle.std.proofs.Common.{arith}
use Rattle.km_risk.proofs.Chain.{printed_risk-runs}
use Rattle.km_risk.proofs.RiskBounds.{not_below_law, not_far_above_law}
use Rattle.km_risk.proofs.draws.risk.Goals as goal

pub returns-clause-value : goal.returns-clause-value
returns-clause-value c =
    printed_risk-runs c.args.cards c.args.margin c.args.gamma c.args.counts.now _ _ _ _ _
    c.after_draws-after4.ensures.value c.after_draws-after3.ensures.value c.after_draws-after2.ensures.value c.after_draws-after1.ensures.value
    c.after_draws.ensures.value

pub returns-clause-not_below : goal.returns-clause-not_below
returns-clause-not_below c =
    rw (returns-clause-value c) (not_below_law c.args.cards c.args.margin c.args.gamma c.args.counts.now (omega arith) (omega arith) (omega arith))

pub returns-clause-not_far_above : goal.returns-clause-not_far_above
returns-clause-not_far_above c =
    rw (returns-clause-value c) (not_far_above_law c.args.cards c.args.margin c.args.gamma c.args.counts.now (omega arith) (omega arith) (omega arith))
