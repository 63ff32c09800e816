-- The limits of the task of a ballot poll.
use Rattle.std.specs.Prelude.{◌≡◌, true}
use Rattle.irv_base.specs.declared.limits.TheConstants.{GREATEST_GAMMA, GREATEST_LIMIT, MOST_DRAWS}
use Rattle.sampler.specs.Seeds.{is_seed}
use Rattle.budget.specs.declared.limits.TheConstants.{MOST_NODES}
use Rattle.command.specs.Limits.{IsNamed, IsUpTo}
use Rattle.command.specs.declared.poll.PollTask.{PollTask}

pub record IsWithinLimits (task : PollTask) : Type 0 where
  pub manifest : IsNamed task.manifest
  pub assertions : IsNamed task.assertions
  pub seen : IsNamed task.seen
  pub seed : is_seed task.seed ≡ true
  pub draws : IsUpTo MOST_DRAWS task.draws
  pub limit : IsUpTo GREATEST_LIMIT task.limit
  pub gamma : IsUpTo GREATEST_GAMMA task.gamma
  pub nodes : IsUpTo MOST_NODES task.nodes
