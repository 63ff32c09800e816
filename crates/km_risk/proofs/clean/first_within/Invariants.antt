use Rattle.std.proofs.Common.{◌≡◌, ◌≤◌, ◌-◌, ◌+◌, ◌*◌, min, nat_le, find}
use Rattle.std.specs.List.{range_with_len}
use Rattle.irv_base.specs.declared.limits.TheConstants.{MOST_DRAWS}
use Rattle.km_risk.specs.declared.limits.TheConstants.{ONE, MILLIONTH}
use Rattle.km_risk.specs.Counts.{clean}
use Rattle.km_risk.specs.Printed.{printed_risk}
use Rattle.km_risk.specs.Clean.{clean_draws}
use Rattle.km_risk.proofs.clean.first_within.Given as goal

abbrev pub invariant-loop-n : goal.invariant-loop-n
invariant-loop-n l = record {
  value : l.now ≡ printed_risk l.setting.cards l.setting.margin l.setting.gamma (clean l.n);
  at_most_one : l.now ≤ ONE;
  rest : clean_draws l.setting.cards l.setting.margin l.setting.gamma l.limit ≡
      find (λ n. nat_le (printed_risk l.setting.cards l.setting.margin l.setting.gamma (clean n)) (l.limit * MILLIONTH))
      (range_with_len l.n (min l.setting.cards MOST_DRAWS + 1 - l.n));
}
