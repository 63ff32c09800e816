-- The limits of the task that opens a session of a plurality contest.
use Rattle.std.specs.Prelude.{◌≡◌, true}
use Rattle.irv_base.specs.declared.limits.TheConstants.{GREATEST_GAMMA, GREATEST_LIMIT}
use Rattle.sampler.specs.Seeds.{is_seed}
use Rattle.command.specs.Limits.{IsNamed, IsUpTo}
use Rattle.command.specs.declared.open_plurality.OpenPluralityTask.{OpenPluralityTask}

pub record IsWithinLimits (task : OpenPluralityTask) : Type 0 where
  pub ballots : IsNamed task.ballots
  pub manifest : IsNamed task.manifest
  pub seed : is_seed task.seed ≡ true
  pub limit : IsUpTo GREATEST_LIMIT task.limit
  pub gamma : IsUpTo GREATEST_GAMMA task.gamma
