use Rattle.std.proofs.Common.{ap, sym, ◌∙◌, subst}
use Rattle.cli_base.specs.Due.{due}
use Rattle.input_files.proofs.Going.{read_on, read_stopped}
use Rattle.plurality_commands.specs.AuditPlurality.{after_session, plural_session}
use Rattle.std.proofs.lemmas.Result.{err_from_is_err_and}
use Rattle.cli_base.proofs.Begun.{stopped_at}
use Rattle.input_files.specs.Judged.{IsStopped}
use Rattle.cli_base.proofs.Faults.{told_on}
use Rattle.plurality_commands.proofs.audit_plurality.answer.Goals as goal

pub returns-clause-due : goal.returns-clause-due
returns-clause-due g c =
    let task = c.args.task.now in
    let judged = plural_session task in
    read_on _ _ _ _ c.in_ok-bytes.bytes.items judged (λ bytes. after_session task) c.in_ok-bytes.ensures.begun c.in_ok-bytes.ensures.read _ _ c.in_ok-session.session
    (due c.after_session.result)
    c.in_ok-bytes.ensures.held c.in_ok-bytes.ensures.faults.never_fewer c.after_session.ensures.faults.never_fewer
    (ap judged (sym c.deref.ensures.value) ∙ c.in_ok-session.ensures.read) c.after_session.ensures.due

pub returns-clause-faults : goal.returns-clause-faults
returns-clause-faults g c = told_on c.in_ok-bytes.ensures.faults c.after_session.ensures.faults

pub returns-in_err-bytes-clause-due : goal.returns-in_err-bytes-clause-due
returns-in_err-bytes-clause-due g c =
    let p = err_from_is_err_and c.from_residual.result c.from_residual.ensures.1 in
    rw (p.1, p.2) (stopped_at _ c.args.task.now.session _ c.in_err-bytes.field-0.0 c.in_err-bytes.ensures.begun c.in_err-bytes.ensures.read)

pub returns-in_err-session-clause-due : goal.returns-in_err-session-clause-due
returns-in_err-session-clause-due g c =
    let task = c.args.task.now in
    let judged = plural_session task in
    let refusal = c.in_err-session.field-0.0 in
    let p = err_from_is_err_and c.from_residual-in_err-session.result c.from_residual-in_err-session.ensures.1 in
    rw (p.1, p.2)
    (read_stopped _ _ _ _ c.in_ok-bytes.bytes.items judged
    (λ bytes. after_session task) c.in_ok-bytes.ensures.begun c.in_ok-bytes.ensures.read refusal
    (subst (λ bytes. IsStopped (judged bytes) refusal) c.deref.ensures.value c.in_err-session.ensures.read))
