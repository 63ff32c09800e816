use Rattle.std.proofs.Common.{◌+◌, ◌-◌, ◌*◌}
use Rattle.km_risk.proofs.bounds.+climb.Given as goal

abbrev pub decreases-climb : goal.decreases-climb
decreases-climb l = 2 * l.most + 1 - l.step.draws
