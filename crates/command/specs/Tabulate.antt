-- The limits of the task of a tabulation.
use Rattle.budget.specs.declared.limits.TheConstants.{MOST_NODES}
use Rattle.command.specs.Limits.{IsNamed, IsUpTo}
use Rattle.command.specs.declared.tabulate.TabulateTask.{TabulateTask}

pub record IsWithinLimits (task : TabulateTask) : Type 0 where
  pub ballots : IsNamed task.ballots
  pub nodes : IsUpTo MOST_NODES task.nodes
