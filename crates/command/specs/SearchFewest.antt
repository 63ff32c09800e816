-- The limits of the task of a search for the fewest NENs.
use Rattle.std.specs.Prelude.{◌≤◌, IfSome}
use Rattle.irv_base.specs.declared.limits.TheConstants.{MOST_WORKERS}
use Rattle.budget.specs.declared.limits.TheConstants.{MOST_SETS}
use Rattle.command.specs.Limits.{IsNamed, IsUpTo}
use Rattle.command.specs.PlanTerms.{AreWithinLimits}
use Rattle.command.specs.declared.limits.TheConstants.{MOST_FLOOR, MOST_GAP}
use Rattle.command.specs.declared.search_fewest.SearchFewestTask.{SearchFewestTask}

pub record IsWithinLimits (task : SearchFewestTask) : Type 0 where
  pub ballots : IsNamed task.ballots
  pub workers : IsUpTo MOST_WORKERS task.workers
  pub sets : IsUpTo MOST_SETS task.sets
  pub floor : IsUpTo MOST_FLOOR task.floor
  pub gap : task.gap ≤ MOST_GAP
  pub plan : IfSome task.plan AreWithinLimits
