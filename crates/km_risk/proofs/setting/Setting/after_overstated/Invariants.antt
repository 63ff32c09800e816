use Rattle.std.proofs.Common.{◌≡◌, ◌≤◌, fold, replicate}
use Rattle.km_risk.specs.declared.limits.TheConstants.{ONE}
use Rattle.km_risk.specs.Printed.{step}
use Rattle.km_risk.proofs.setting.Setting.after_overstated.Given as goal

abbrev pub invariant-loop : goal.invariant-loop
invariant-loop l = record {
  value : l.now ≡ fold (step l.self.cards l.self.margin l.self.gamma) l.risk (replicate l.counter l.d);
  at_most_one : l.now ≤ ONE;
}
