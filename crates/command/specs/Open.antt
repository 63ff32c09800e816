-- The limits of the task that opens a session.
use Rattle.std.specs.Prelude.{◌≡◌, true}
use Rattle.irv_base.specs.declared.limits.TheConstants.{GREATEST_GAMMA, GREATEST_LIMIT}
use Rattle.sampler.specs.Seeds.{is_seed}
use Rattle.budget.specs.Budgets.{IsWithin}
use Rattle.command.specs.Limits.{IsNamed, IsUpTo}
use Rattle.command.specs.declared.open.OpenTask.{OpenTask}

pub record IsWithinLimits (task : OpenTask) : Type 0 where
  pub ballots : IsNamed task.ballots
  pub manifest : IsNamed task.manifest
  pub assertions : IsNamed task.assertions
  pub seed : is_seed task.seed ≡ true
  pub limit : IsUpTo GREATEST_LIMIT task.limit
  pub gamma : IsUpTo GREATEST_GAMMA task.gamma
  pub budget : IsWithin task.budget
