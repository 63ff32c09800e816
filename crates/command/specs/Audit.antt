-- The limits of the task of a round of an audit.
use Rattle.irv_base.specs.declared.limits.TheConstants.{MOST_DRAWS}
use Rattle.budget.specs.Budgets.{IsWithin}
use Rattle.command.specs.Limits.{IsNamed, IsUpTo}
use Rattle.command.specs.declared.audit.AuditTask.{AuditTask}

pub record IsWithinLimits (task : AuditTask) : Type 0 where
  pub session : IsNamed task.session
  pub ballots : IsNamed task.ballots
  pub manifest : IsNamed task.manifest
  pub assertions : IsNamed task.assertions
  pub seen : IsNamed task.seen
  pub draws : IsUpTo MOST_DRAWS task.draws
  pub budget : IsWithin task.budget
