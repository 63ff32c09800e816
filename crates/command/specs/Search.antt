-- The limits of the task of a search.
use Rattle.std.specs.Prelude.{IfSome}
use Rattle.irv_base.specs.declared.limits.TheConstants.{MOST_WORKERS}
use Rattle.budget.specs.Budgets.{IsWithin}
use Rattle.command.specs.Limits.{IsNamed, IsUpTo}
use Rattle.command.specs.PlanTerms.{AreWithinLimits}
use Rattle.command.specs.declared.limits.TheConstants.{MOST_FLOOR}
use Rattle.command.specs.declared.search.SearchTask.{SearchTask}

pub record IsWithinLimits (task : SearchTask) : Type 0 where
  pub ballots : IsNamed task.ballots
  pub workers : IsUpTo MOST_WORKERS task.workers
  pub budget : IsWithin task.budget
  pub floor : IsUpTo MOST_FLOOR task.floor
  pub plan : IfSome task.plan AreWithinLimits
