use Rattle.std.proofs.Common.{ap, subst, sym, ◌∙◌}
use Rattle.std.proofs.lemmas.Result.{err_from_is_err_and}
use Rattle.cli_base.specs.Due.{due}
use Rattle.session_commands.specs.Audit.{after_session}
use Rattle.session_rounds.specs.Rounds.{session_to_go_on}
use Rattle.input_files.specs.Judged.{IsStopped}
use Rattle.session_rounds.proofs.OneRound.{session-only}
use Rattle.input_files.proofs.Going.{read_on, read_stopped, stopped_accounted}
use Rattle.cli_base.proofs.Begun.{stopped_at}
use Rattle.cli_base.proofs.Faults.{told_on}
use Rattle.session_commands.proofs.audit.answer.Goals as goal

pub returns-clause-due : goal.returns-clause-due
returns-clause-due g c =
    let task = c.args.task.now in
    let judged = session_to_go_on task.session task.draws in
    read_on _ _ _ _ c.in_ok-bytes.bytes.items judged (λ bytes. after_session task) c.in_ok-bytes.ensures.begun c.in_ok-bytes.ensures.read _ _ c.in_ok-session.session
    (due c.after_session.result)
    c.in_ok-bytes.ensures.held c.in_ok-bytes.ensures.faults.never_fewer c.after_session.ensures.faults.never_fewer
    (ap judged (sym c.deref.ensures.value) ∙ c.in_ok-session.ensures.read) c.after_session.ensures.due

pub returns-clause-faults : goal.returns-clause-faults
returns-clause-faults g c = told_on c.in_ok-bytes.ensures.faults c.after_session.ensures.faults

pub returns-in_err-session-clause-due : goal.returns-in_err-session-clause-due
returns-in_err-session-clause-due g c =
    let task = c.args.task.now in
    let judged = session_to_go_on task.session task.draws in
    let p = err_from_is_err_and c.from_residual-in_err-session.result c.from_residual-in_err-session.ensures.1 in
    rw (p.1, p.2)
    (read_stopped _ _ _ _ c.in_ok-bytes.bytes.items judged (λ bytes. after_session task) c.in_ok-bytes.ensures.begun c.in_ok-bytes.ensures.read c.in_err-session.field-0.0
    (subst (λ bytes. IsStopped (judged bytes) c.in_err-session.field-0.0) c.deref.ensures.value c.in_err-session.ensures.read))

pub returns-in_err-session-clause-served : goal.returns-in_err-session-clause-served
returns-in_err-session-clause-served g c =
    let task = c.args.task.now in
    let judged = session_to_go_on task.session task.draws in
    let p = err_from_is_err_and c.from_residual-in_err-session.result c.from_residual-in_err-session.ensures.1 in
    rw (p.1, p.2) (stopped_accounted 4 _ _ (judged c.deref.result.now) c.in_err-session.field-0.0
    (session-only task.session task.draws c.deref.result.now) c.in_err-session.ensures.read c.in_ok-bytes.ensures.served)

pub returns-in_err-bytes-clause-due : goal.returns-in_err-bytes-clause-due
returns-in_err-bytes-clause-due g c =
    let p = err_from_is_err_and c.from_residual.result c.from_residual.ensures.1 in
    rw (p.1, p.2) (stopped_at _ c.args.task.now.session _ c.in_err-bytes.field-0.0 c.in_err-bytes.ensures.begun c.in_err-bytes.ensures.read)
