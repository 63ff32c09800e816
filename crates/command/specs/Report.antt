-- The limits of the task of a report.
use Rattle.command.specs.Limits.{IsNamed}
use Rattle.command.specs.declared.report.ReportTask.{ReportTask}

pub record IsWithinLimits (task : ReportTask) : Type 0 where
  pub session : IsNamed task.session
