-- The limits of the task of a check.
use Rattle.budget.specs.Budgets.{IsWithin}
use Rattle.command.specs.Limits.{IsNamed}
use Rattle.command.specs.declared.check.CheckTask.{CheckTask}

pub record IsWithinLimits (task : CheckTask) : Type 0 where
  pub ballots : IsNamed task.ballots
  pub assertions : IsNamed task.assertions
  pub budget : IsWithin task.budget
