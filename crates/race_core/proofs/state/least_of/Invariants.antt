use Rattle.std.proofs.Common.{◌≡◌, min, drop}
use Rattle.std.specs.List.{fold}
use Rattle.irv_base.specs.Tabulation.{least}
use Rattle.race_core.proofs.state.least_of.Given as goal

abbrev pub invariant-loop-value : goal.invariant-loop-value
invariant-loop-value l = fold min l.lowest (drop l.value-index l.values) ≡ least l.values
