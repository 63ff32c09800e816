-- The limits of the task of a plan.
use Rattle.irv_base.specs.declared.limits.TheConstants.{GREATEST_GAMMA, GREATEST_LIMIT}
use Rattle.command.specs.Limits.{IsNamed, IsUpTo}
use Rattle.command.specs.declared.plan.PlanTask.{PlanTask}

pub record IsWithinLimits (task : PlanTask) : Type 0 where
  pub manifest : IsNamed task.manifest
  pub assertions : IsNamed task.assertions
  pub limit : IsUpTo GREATEST_LIMIT task.limit
  pub gamma : IsUpTo GREATEST_GAMMA task.gamma
