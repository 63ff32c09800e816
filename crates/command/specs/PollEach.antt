-- The limits of the task of a ballot poll that looks after each draw.
use Rattle.std.specs.Prelude.{◌≡◌, true, IfSome}
use Rattle.irv_base.specs.declared.limits.TheConstants.{GREATEST_LIMIT, MOST_DRAWS}
use Rattle.km_risk.specs.declared.limits.TheConstants.{GREATEST_EACH_GAMMA}
use Rattle.sampler.specs.Seeds.{is_seed}
use Rattle.budget.specs.declared.limits.TheConstants.{MOST_NODES}
use Rattle.command.specs.Limits.{IsNamed, IsUpTo}
use Rattle.command.specs.declared.poll_each.PollEachTask.{PollEachTask}

pub record IsWithinLimits (task : PollEachTask) : Type 0 where
  pub manifest : IsNamed task.manifest
  pub assertions : IsNamed task.assertions
  pub seen : IsNamed task.seen
  pub seed : is_seed task.seed ≡ true
  pub draws : IsUpTo MOST_DRAWS task.draws
  pub limit : IsUpTo GREATEST_LIMIT task.limit
  pub gamma : IfSome task.gamma (IsUpTo GREATEST_EACH_GAMMA)
  pub nodes : IsUpTo MOST_NODES task.nodes
