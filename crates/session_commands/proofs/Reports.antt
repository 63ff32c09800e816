-- A report has one end.
use Rattle.std.proofs.Common.{refl, sym, ap, ◌∙◌}
use Rattle.cli_base.specs.Outcome.{outcome}
use Rattle.cli_base.specs.Script.{Agree, AreOfKind, Same}
use Rattle.cli_base.specs.declared.outcome.AnswerKind.TheVariants.{Done}
use Rattle.cli_base.proofs.Ended.{answer-kind}
use Rattle.command.specs.declared.report.ReportTask.{ReportTask}
use Rattle.input_files.proofs.Going.{OnlyRefuses, go_on-agrees, go_on-kinds}
use Rattle.session_commands.specs.Report.{kinds, script}
use Rattle.session_rounds.specs.Rounds.{session_in}
use Rattle.session_rounds.proofs.OneRound.{session_in-only}

pub agrees : (task : ReportTask) → Agree Same (script task)
agrees task = λ bytes. go_on-agrees (session_in task.session bytes) _ (λ session v w p q. ap outcome (p ∙ sym q))

pub kinds_are : (task : ReportTask) → AreOfKind kinds (script task)
kinds_are task = λ bytes. go_on-kinds kinds (session_in task.session bytes) _ (session_in-only task.session bytes)
    (λ session v is. answer-kind kinds Done _ v refl is)
