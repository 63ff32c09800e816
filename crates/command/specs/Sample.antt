-- The limits of the task of a sample.
use Rattle.std.specs.Prelude.{◌≡◌, true}
use Rattle.irv_base.specs.declared.limits.TheConstants.{MOST_DRAWS}
use Rattle.sampler.specs.Seeds.{is_seed}
use Rattle.command.specs.Limits.{IsNamed, IsUpTo}
use Rattle.command.specs.declared.sample.SampleTask.{SampleTask}

pub record IsWithinLimits (task : SampleTask) : Type 0 where
  pub manifest : IsNamed task.manifest
  pub seed : is_seed task.seed ≡ true
  pub draws : IsUpTo MOST_DRAWS task.draws
