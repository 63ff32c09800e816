use Rattle.std.proofs.Common.{◌≢◌, refl, inr, Ok, IfSome, ap, is_none, subst, sym, ◌∙◌}
use Rattle.std.proofs.lemmas.Result.{err_from_is_err_and}
use Rattle.cli_base.specs.Due.{due, due_refusal, IsOneOrMemory}
use Rattle.cli_base.proofs.Steps.{accounted_on, ended_accounted}
use Rattle.check_command.specs.Check.{Checks}
use Rattle.session_commands.specs.Audit.{same_assertions, after_assertions, after_check}
use Rattle.input_files.specs.Judged.{IsStopped}
use Rattle.cli_base.proofs.Statuses.{differ, status_in}
use Rattle.session_commands.proofs.Audits.{assertions-only}
use Rattle.session_commands.proofs.Checked.{accepted_on, checked_now}
use Rattle.input_files.proofs.Going.{read_last, read_on, read_stopped, raised, stopped_accounted}
use Rattle.cli_base.proofs.Begun.{memory_now, stopped_at}
use Rattle.cli_base.proofs.Faults.{told_on}
use Rattle.session_commands.proofs.audit.after_manifest.Goals as goal

pub returns-in_err-file-clause-due : goal.returns-in_err-file-clause-due
returns-in_err-file-clause-due g c =
    let task = c.args.task.now in
    let session = c.args.session in
    let ballots = c.args.ballots.now in
    let batches = c.args.cards.now.manifest in
    let judged = same_assertions task session in
    let p = err_from_is_err_and c.from_residual-in_err-file.result c.from_residual-in_err-file.ensures.1 in
    rw (p.1, p.2)
    (read_stopped _ _ _ _ c.in_ok-bytes.bytes.items judged (λ bytes. after_assertions task session ballots batches) c.in_ok-bytes.ensures.begun c.in_ok-bytes.ensures.read
    c.in_err-file.field-0.0
    (subst (λ bytes. IsStopped (judged bytes) c.in_err-file.field-0.0) c.deref.ensures.value c.in_err-file.ensures))

pub returns-in_err-file-clause-served : goal.returns-in_err-file-clause-served
returns-in_err-file-clause-served g c =
    let task = c.args.task.now in
    let p = err_from_is_err_and c.from_residual-in_err-file.result c.from_residual-in_err-file.ensures.1 in
    rw (p.1, p.2)
    (stopped_accounted 1 _ _ (same_assertions task c.args.session c.deref.result.now) c.in_err-file.field-0.0
    (assertions-only task c.args.session c.deref.result.now) c.in_err-file.ensures c.in_ok-bytes.ensures.served)

pub returns-in_err-answer-clause-served : goal.returns-in_err-answer-clause-served
returns-in_err-answer-clause-served g c =
    let p = err_from_is_err_and c.from_residual-in_err-answer.result c.from_residual-in_err-answer.ensures.1 in
    rw (p.1, p.2)
    (raised 1 1 _ _ _ (λ e. differ 9 0 (sym (ap status_in c.in_err-answer.ensures.memory) ∙ e) refl)
    (ended_accounted _ _ (Checks c.args.task.now.budget c.args.ballots.now c.in_ok-file.file) (due_refusal c.in_err-answer.field-0.0)
    (inr c.in_err-answer.ensures.memory) c.in_ok-bytes.ensures.served))

pub returns-in-Some-clause-due : goal.returns-in-Some-clause-due
returns-in-Some-clause-due g c =
    let task = c.args.task.now in
    let session = c.args.session in
    let ballots = c.args.ballots.now in
    let batches = c.args.cards.now.manifest in
    let judged = same_assertions task session in
    let file = c.in_ok-file.file in
    let is = ap judged (sym c.deref.ensures.value) ∙ c.in_ok-file.ensures in
    let no = c.in_ok-answer.ensures.accepted ∙ ap is_none c.in-Some.is in
    let other = subst (λ found. IfSome found (λ answer. IsOneOrMemory (Checks task.budget ballots file) (due (Ok answer)))) c.in-Some.is
    c.in_ok-answer.ensures.other in
    read_last _ _ _ _ c.in_ok-bytes.bytes.items judged (λ bytes. after_assertions task session ballots batches) c.in_ok-bytes.ensures.begun c.in_ok-bytes.ensures.read file
    (due (Ok c.in-Some.answer)) is
    (checked_now task.budget ballots file (after_check task session ballots batches file) (due (Ok c.in-Some.answer)) no other)

pub returns-in-Some-clause-served : goal.returns-in-Some-clause-served
returns-in-Some-clause-served g c =
    let verdicts = Checks c.args.task.now.budget c.args.ballots.now c.in_ok-file.file in
    raised 1 1 _ _ _ (subst (λ found. IfSome found (λ answer. (due (Ok answer)).status ≢ 0)) c.in-Some.is c.in_ok-answer.ensures.not_done)
    (ended_accounted _ _ verdicts (due (Ok c.in-Some.answer))
    (subst (λ found. IfSome found (λ answer. IsOneOrMemory verdicts (due (Ok answer)))) c.in-Some.is c.in_ok-answer.ensures.other) c.in_ok-bytes.ensures.served)

pub returns-clause-due : goal.returns-clause-due
returns-clause-due g c =
    let task = c.args.task.now in
    let session = c.args.session in
    let ballots = c.args.ballots.now in
    let batches = c.args.cards.now.manifest in
    let judged = same_assertions task session in
    let file = c.in_ok-file.file in
    let is = ap judged (sym c.deref.ensures.value) ∙ c.in_ok-file.ensures in
    let yes = c.in_ok-answer.ensures.accepted ∙ ap is_none c.in_default.is in
    read_on _ _ _ _ c.in_ok-bytes.bytes.items judged (λ bytes. after_assertions task session ballots batches) c.in_ok-bytes.ensures.begun c.in_ok-bytes.ensures.read _ _ file
    (due c.after_check.result)
    c.in_ok-bytes.ensures.held c.in_ok-bytes.ensures.faults.never_fewer c.after_check.ensures.faults.never_fewer is
    (accepted_on task.budget ballots file _ (after_check task session ballots batches file) (due c.after_check.result) yes c.after_check.ensures.due)

pub returns-clause-faults : goal.returns-clause-faults
returns-clause-faults g c = told_on c.in_ok-bytes.ensures.faults c.after_check.ensures.faults

pub returns-clause-served : goal.returns-clause-served
returns-clause-served g c = accounted_on _ _ _ _ c.in_ok-bytes.ensures.served c.after_check.ensures.served

pub returns-in_err-bytes-clause-due : goal.returns-in_err-bytes-clause-due
returns-in_err-bytes-clause-due g c =
    let p = err_from_is_err_and c.from_residual.result c.from_residual.ensures.1 in
    rw (p.1, p.2) (stopped_at _ c.args.task.now.assertions _ c.in_err-bytes.field-0.0 c.in_err-bytes.ensures.begun c.in_err-bytes.ensures.read)

pub returns-in_err-answer-clause-due : goal.returns-in_err-answer-clause-due
returns-in_err-answer-clause-due g c =
    let task = c.args.task.now in
    let session = c.args.session in
    let ballots = c.args.ballots.now in
    let batches = c.args.cards.now.manifest in
    let judged = same_assertions task session in
    let file = c.in_ok-file.file in
    let refusal = c.in_err-answer.field-0.0 in
    let p = err_from_is_err_and c.from_residual-in_err-answer.result c.from_residual-in_err-answer.ensures.1 in
    rw (p.1, p.2)
    (read_last _ _ _ _ c.in_ok-bytes.bytes.items judged (λ bytes. after_assertions task session ballots batches) c.in_ok-bytes.ensures.begun
    c.in_ok-bytes.ensures.read file (due_refusal refusal) (ap judged (sym c.deref.ensures.value) ∙ c.in_ok-file.ensures)
    (memory_now (after_assertions task session ballots batches file) (due_refusal refusal) c.in_err-answer.ensures.memory))
