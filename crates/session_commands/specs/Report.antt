-- `report SESSION`: what is printed for a session.
use Rattle.std.specs.Prelude.{ℕ, List, [], ◌∷◌}
use Rattle.session_state.specs.Content.{Content}
use Rattle.audit_report.specs.Session.{session_table}
use Rattle.cli_base.specs.Outcome.{Verdict, Answered}
use Rattle.cli_base.specs.Script.{Script, Read, ends}
use Rattle.cli_base.specs.declared.outcome.AnswerKind.{AnswerKind}
use Rattle.cli_base.specs.declared.outcome.AnswerKind.TheVariants.{Done}
use Rattle.command.specs.declared.report.ReportTask.{ReportTask}
use Rattle.input_files.specs.Judged.{go_on}
use Rattle.session_rounds.specs.Rounds.{session_in}

abbrev pub reported : Content → Verdict
reported session = Answered Done (session_table session)

abbrev pub script : ReportTask → Script
script task = Read task.session (λ bytes.
    go_on (session_in task.session bytes) (λ session. ends (reported session)))

-- the kind of its answer
abbrev pub kinds : List AnswerKind
kinds = Done ∷ []
