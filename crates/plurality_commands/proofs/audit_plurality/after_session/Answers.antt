use Rattle.std.proofs.Common.{ap, subst, sym, ◌∙◌}
use Rattle.std.proofs.lemmas.Result.{err_from_is_err_and}
use Rattle.cli_base.specs.Due.{due}
use Rattle.cli_base.proofs.Steps.{accounted_on}
use Rattle.input_files.specs.Judged.{IsStopped}
use Rattle.input_files.proofs.Going.{read_on, read_stopped, stopped_accounted}
use Rattle.session_rounds.specs.Rounds.{same_ballots}
use Rattle.session_rounds.proofs.OneRound.{ballots-only}
use Rattle.plurality_commands.specs.AuditPlurality.{after_ballots}
use Rattle.cli_base.proofs.Begun.{stopped_at}
use Rattle.cli_base.proofs.Faults.{told_on}
use Rattle.plurality_commands.proofs.audit_plurality.after_session.Goals as goal

pub returns-clause-due : goal.returns-clause-due
returns-clause-due g c =
    let task = c.args.task.now in
    let judged = same_ballots task.ballots c.args.session in
    read_on _ _ _ _ c.in_ok-bytes.bytes.items judged (λ bytes. after_ballots task c.args.session) c.in_ok-bytes.ensures.begun c.in_ok-bytes.ensures.read _ _ c.in_ok-ballots.ballots
    (due c.after_ballots.result)
    c.in_ok-bytes.ensures.held c.in_ok-bytes.ensures.faults.never_fewer c.after_ballots.ensures.faults.never_fewer
    (ap judged (sym c.deref.ensures.value) ∙ c.in_ok-ballots.ensures) c.after_ballots.ensures.due

pub returns-clause-faults : goal.returns-clause-faults
returns-clause-faults g c = told_on c.in_ok-bytes.ensures.faults c.after_ballots.ensures.faults

pub returns-clause-served : goal.returns-clause-served
returns-clause-served g c = accounted_on _ _ _ _ c.in_ok-bytes.ensures.served c.after_ballots.ensures.served

pub returns-in_err-ballots-clause-due : goal.returns-in_err-ballots-clause-due
returns-in_err-ballots-clause-due g c =
    let task = c.args.task.now in
    let judged = same_ballots task.ballots c.args.session in
    let p = err_from_is_err_and c.from_residual-in_err-ballots.result c.from_residual-in_err-ballots.ensures.1 in
    rw (p.1, p.2)
    (read_stopped _ _ _ _ c.in_ok-bytes.bytes.items judged (λ bytes. after_ballots task c.args.session) c.in_ok-bytes.ensures.begun c.in_ok-bytes.ensures.read c.in_err-ballots.field-0.0
    (subst (λ bytes. IsStopped (judged bytes) c.in_err-ballots.field-0.0) c.deref.ensures.value c.in_err-ballots.ensures))

pub returns-in_err-ballots-clause-served : goal.returns-in_err-ballots-clause-served
returns-in_err-ballots-clause-served g c =
    let task = c.args.task.now in
    let judged = same_ballots task.ballots c.args.session in
    let p = err_from_is_err_and c.from_residual-in_err-ballots.result c.from_residual-in_err-ballots.ensures.1 in
    rw (p.1, p.2) (stopped_accounted 2 _ _ (judged c.deref.result.now) c.in_err-ballots.field-0.0
    (ballots-only task.ballots c.args.session c.deref.result.now) c.in_err-ballots.ensures c.in_ok-bytes.ensures.served)

pub returns-in_err-bytes-clause-due : goal.returns-in_err-bytes-clause-due
returns-in_err-bytes-clause-due g c =
    let p = err_from_is_err_and c.from_residual.result c.from_residual.ensures.1 in
    rw (p.1, p.2) (stopped_at _ c.args.task.now.ballots _ c.in_err-bytes.field-0.0 c.in_err-bytes.ensures.begun c.in_err-bytes.ensures.read)
