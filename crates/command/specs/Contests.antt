-- The limits of the task of an audit of all contests of a file.
use Rattle.std.specs.Prelude.{◌≡◌, true}
use Rattle.irv_base.specs.declared.limits.TheConstants.{GREATEST_GAMMA, GREATEST_LIMIT, MOST_DRAWS, MOST_WORKERS}
use Rattle.sampler.specs.Seeds.{is_seed}
use Rattle.command.specs.Limits.{IsNamed, IsUpTo}
use Rattle.budget.specs.declared.limits.TheConstants.{MOST_NODES}
use Rattle.command.specs.declared.contests.ContestsTask.{ContestsTask}

pub record IsWithinLimits (task : ContestsTask) : Type 0 where
  pub ballots : IsNamed task.ballots
  pub manifest : IsNamed task.manifest
  pub seen : IsNamed task.seen
  pub seed : is_seed task.seed ≡ true
  pub draws : IsUpTo MOST_DRAWS task.draws
  pub limit : IsUpTo GREATEST_LIMIT task.limit
  pub gamma : IsUpTo GREATEST_GAMMA task.gamma
  pub workers : IsUpTo MOST_WORKERS task.workers
  pub nodes : IsUpTo MOST_NODES task.nodes
