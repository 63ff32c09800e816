-- The limits of the task of a trim.
use Rattle.budget.specs.Budgets.{IsWithin}
use Rattle.command.specs.Limits.{IsNamed}
use Rattle.command.specs.declared.trim.TrimTask.{TrimTask}

pub record IsWithinLimits (task : TrimTask) : Type 0 where
  pub ballots : IsNamed task.ballots
  pub assertions : IsNamed task.assertions
  pub budget : IsWithin task.budget
