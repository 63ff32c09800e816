-- The limits of the task of an adoption.
use Rattle.budget.specs.Budgets.{IsWithin}
use Rattle.command.specs.Limits.{IsNamed}
use Rattle.command.specs.declared.adopt.AdoptTask.{AdoptTask}

pub record IsWithinLimits (task : AdoptTask) : Type 0 where
  pub ballots : IsNamed task.ballots
  pub claims : IsNamed task.claims
  pub budget : IsWithin task.budget
