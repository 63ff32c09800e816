-- The limits of the task of a round of an audit of a plurality contest.
use Rattle.irv_base.specs.declared.limits.TheConstants.{MOST_DRAWS}
use Rattle.command.specs.Limits.{IsNamed, IsUpTo}
use Rattle.command.specs.declared.audit_plurality.AuditPluralityTask.{AuditPluralityTask}

pub record IsWithinLimits (task : AuditPluralityTask) : Type 0 where
  pub session : IsNamed task.session
  pub ballots : IsNamed task.ballots
  pub manifest : IsNamed task.manifest
  pub seen : IsNamed task.seen
  pub draws : IsUpTo MOST_DRAWS task.draws
