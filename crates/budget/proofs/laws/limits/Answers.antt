use Rattle.std.proofs.Common.{refl}
use Rattle.budget.proofs.laws.limits.Goals as goal

pub returns : goal.returns
returns c = record {
  nodes = refl;
  default_nodes = refl;
  sets = refl;
  all_sets = refl;
}
