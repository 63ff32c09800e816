use Rattle.std.proofs.Common.{sym, ap, ◌∙◌, subst}
use Rattle.cli_base.specs.Due.{due}
use Rattle.cli_base.specs.Script.{ends}
use Rattle.session_commands.specs.Report.{reported}
use Rattle.session_rounds.specs.Rounds.{session_in}
use Rattle.input_files.proofs.Going.{read_last, read_stopped}
use Rattle.std.proofs.lemmas.Result.{err_from_is_err_and}
use Rattle.cli_base.proofs.Begun.{stopped_at}
use Rattle.input_files.specs.Judged.{IsStopped}
use Rattle.session_commands.proofs.session_report.answer.Goals as goal

pub returns-clause-due : goal.returns-clause-due
returns-clause-due g c =
    let name = c.args.task.now.session in
    read_last _ _ _ name c.in_ok-bytes.bytes.items (session_in name) (λ bytes content. ends (reported content)) c.in_ok-bytes.ensures.begun c.in_ok-bytes.ensures.read _
    (due c.reported.result)
    (ap (session_in name) (sym c.deref.ensures.value) ∙ c.in_ok-session.ensures) c.reported.ensures

pub returns-in_err-bytes-clause-due : goal.returns-in_err-bytes-clause-due
returns-in_err-bytes-clause-due g c =
    let p = err_from_is_err_and c.from_residual.result c.from_residual.ensures.1 in
    rw (p.1, p.2) (stopped_at _ c.args.task.now.session _ c.in_err-bytes.field-0.0 c.in_err-bytes.ensures.begun c.in_err-bytes.ensures.read)

pub returns-in_err-session-clause-due : goal.returns-in_err-session-clause-due
returns-in_err-session-clause-due g c =
    let name = c.args.task.now.session in
    let judged = session_in name in
    let refusal = c.in_err-session.field-0.0 in
    let p = err_from_is_err_and c.from_residual-in_err-session.result c.from_residual-in_err-session.ensures.1 in
    rw (p.1, p.2)
    (read_stopped _ _ _ _ c.in_ok-bytes.bytes.items judged
    (λ bytes content. ends (reported content)) c.in_ok-bytes.ensures.begun c.in_ok-bytes.ensures.read refusal
    (subst (λ bytes. IsStopped (judged bytes) refusal) c.deref.ensures.value c.in_err-session.ensures))
