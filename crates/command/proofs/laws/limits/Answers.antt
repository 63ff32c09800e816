use Rattle.std.proofs.Common.{refl}
use Rattle.command.proofs.laws.limits.Goals as goal

pub returns : goal.returns
returns c = record {
  default_workers = refl;
  floor = refl;
  default_floor = refl;
  gap = refl;
  default_gap = refl;
  default_limit = refl;
  default_gamma = refl;
  trial_number = refl;
  default_candidates = refl;
  default_ballots = refl;
}
