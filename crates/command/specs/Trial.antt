-- The limits of the task of a trial.
use Rattle.std.specs.Prelude.{◌≤◌}
use Rattle.irv_base.specs.declared.limits.TheConstants.{FEWEST_CANDIDATES, MOST_CANDIDATES, MOST_RECORDS, MOST_WORKERS}
use Rattle.budget.specs.Budgets.{IsWithin}
use Rattle.command.specs.Limits.{IsFromTo, IsUpTo}
use Rattle.command.specs.declared.limits.TheConstants.{MOST_TRIAL_NUMBER}
use Rattle.command.specs.declared.trial.TrialTask.{TrialTask}

pub record IsWithinLimits (task : TrialTask) : Type 0 where
  pub number : task.number ≤ MOST_TRIAL_NUMBER
  pub candidates : IsFromTo FEWEST_CANDIDATES MOST_CANDIDATES task.candidates
  pub ballots : IsUpTo MOST_RECORDS task.ballots
  pub workers : IsUpTo MOST_WORKERS task.workers
  pub budget : IsWithin task.budget
