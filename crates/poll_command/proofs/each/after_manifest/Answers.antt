use Rattle.std.proofs.Common.{◌≡◌, ◌≢◌, ℕ, List, refl, inr, Some, Ok, IfSome, ap, is_none, subst, sym, ◌∙◌}
use Rattle.std.proofs.lemmas.Result.{err_from_is_err_and}
use Rattle.assertion_file.specs.Reading.{assertion_file_of}
use Rattle.cli_base.specs.Due.{due, due_refusal, IsOneOrMemory}
use Rattle.cli_base.specs.Outcome.{Verdict}
use Rattle.cli_base.proofs.Statuses.{differ, status_in}
use Rattle.cli_base.proofs.Steps.{accounted_on, ended_accounted}
use Rattle.input_files.specs.Judged.{told, IsStopped}
use Rattle.input_files.specs.Refusals.{refused_assertions}
use Rattle.input_files.proofs.Going.{raised, read_last, read_on, read_stopped}
use Rattle.poll_command.specs.Each.{after_assertions, after_cover}
use Rattle.poll_command.specs.Poll.{uncovered}
use Rattle.poll_command.proofs.Ending.{ended_by, gone_on}
use Rattle.cli_base.proofs.Begun.{stopped_at, memory_now}
use Rattle.cli_base.proofs.Faults.{told_on}
use Rattle.poll_command.proofs.each.after_manifest.Goals as goal

pub returns-in_err-answer-clause-served : goal.returns-in_err-answer-clause-served
returns-in_err-answer-clause-served g c =
    let p = err_from_is_err_and c.from_residual-in_err-answer.result c.from_residual-in_err-answer.ensures.1 in
    rw (p.1, p.2)
    (raised 1 1 _ _ _ (λ e. differ 9 0 (sym (ap status_in c.in_err-answer.ensures.memory) ∙ e) refl)
    (ended_accounted _ _ (λ verdict. uncovered c.args.task.now.nodes c.in_ok-file.file ≡ Some verdict) (due_refusal c.in_err-answer.field-0.0)
    (inr c.in_err-answer.ensures.memory) c.in_ok-bytes.ensures.served))

pub returns-in-Some-clause-due : goal.returns-in-Some-clause-due
returns-in-Some-clause-due g c =
    let task = c.args.task.now in
    let file = c.in_ok-file.file in
    let judged = λ (bytes : List ℕ). told (refused_assertions task.assertions) (assertion_file_of bytes) in
    read_last _ _ _ _ c.in_ok-bytes.bytes.items judged (λ bytes. after_assertions task c.args.batches.now) c.in_ok-bytes.ensures.begun c.in_ok-bytes.ensures.read file
    (due (Ok c.in-Some.answer)) (ap judged (sym c.deref.ensures.value) ∙ c.in_ok-file.ensures)
    (ended_by (uncovered task.nodes file) (after_cover task c.args.batches.now file) (due (Ok c.in-Some.answer))
    (subst (λ found. IfSome found (λ answer. IsOneOrMemory (λ verdict. uncovered task.nodes file ≡ Some verdict) (due (Ok answer)))) c.in-Some.is
    c.in_ok-answer.ensures.other))

pub returns-in-Some-clause-served : goal.returns-in-Some-clause-served
returns-in-Some-clause-served g c =
    let verdicts = λ (verdict : Verdict). uncovered c.args.task.now.nodes c.in_ok-file.file ≡ Some verdict in
    raised 1 1 _ _ _ (subst (λ found. IfSome found (λ answer. (due (Ok answer)).status ≢ 0)) c.in-Some.is c.in_ok-answer.ensures.not_done)
    (ended_accounted _ _ verdicts (due (Ok c.in-Some.answer))
    (subst (λ found. IfSome found (λ answer. IsOneOrMemory verdicts (due (Ok answer)))) c.in-Some.is c.in_ok-answer.ensures.other) c.in_ok-bytes.ensures.served)

pub returns-clause-due : goal.returns-clause-due
returns-clause-due g c =
    let task = c.args.task.now in
    let file = c.in_ok-file.file in
    let judged = λ (bytes : List ℕ). told (refused_assertions task.assertions) (assertion_file_of bytes) in
    read_on _ _ _ _ c.in_ok-bytes.bytes.items judged (λ bytes. after_assertions task c.args.batches.now) c.in_ok-bytes.ensures.begun c.in_ok-bytes.ensures.read _ _ file
    (due c.after_cover.result) c.in_ok-bytes.ensures.held c.in_ok-bytes.ensures.faults.never_fewer c.after_cover.ensures.faults.never_fewer
    (ap judged (sym c.deref.ensures.value) ∙ c.in_ok-file.ensures)
    (gone_on (uncovered task.nodes file) (after_cover task c.args.batches.now file) _ (due c.after_cover.result)
    (c.in_ok-answer.ensures.covered ∙ ap is_none c.in_default.is) c.after_cover.ensures.due)

pub returns-clause-faults : goal.returns-clause-faults
returns-clause-faults g c = told_on c.in_ok-bytes.ensures.faults c.after_cover.ensures.faults

pub returns-clause-served : goal.returns-clause-served
returns-clause-served g c = accounted_on _ _ _ _ c.in_ok-bytes.ensures.served c.after_cover.ensures.served

pub returns-in_err-bytes-clause-due : goal.returns-in_err-bytes-clause-due
returns-in_err-bytes-clause-due g c =
    let p = err_from_is_err_and c.from_residual.result c.from_residual.ensures.1 in
    rw (p.1, p.2) (stopped_at _ c.args.task.now.assertions _ c.in_err-bytes.field-0.0 c.in_err-bytes.ensures.begun c.in_err-bytes.ensures.read)

pub returns-in_err-file-clause-due : goal.returns-in_err-file-clause-due
returns-in_err-file-clause-due g c =
    let task = c.args.task.now in
    let judged = λ (bytes : List ℕ). told (refused_assertions task.assertions) (assertion_file_of bytes) in
    let refusal = c.in_err-file.field-0.0 in
    let p = err_from_is_err_and c.from_residual-in_err-file.result c.from_residual-in_err-file.ensures.1 in
    rw (p.1, p.2)
    (read_stopped _ _ _ _ c.in_ok-bytes.bytes.items judged
    (λ bytes. after_assertions task c.args.batches.now) c.in_ok-bytes.ensures.begun c.in_ok-bytes.ensures.read refusal
    (subst (λ bytes. IsStopped (judged bytes) refusal) c.deref.ensures.value c.in_err-file.ensures))

pub returns-in_err-answer-clause-due : goal.returns-in_err-answer-clause-due
returns-in_err-answer-clause-due g c =
    let task = c.args.task.now in
    let file = c.in_ok-file.file in
    let judged = λ (bytes : List ℕ). told (refused_assertions task.assertions) (assertion_file_of bytes) in
    let refusal = c.in_err-answer.field-0.0 in
    let p = err_from_is_err_and c.from_residual-in_err-answer.result c.from_residual-in_err-answer.ensures.1 in
    rw (p.1, p.2)
    (read_last _ _ _ _ c.in_ok-bytes.bytes.items judged (λ bytes. after_assertions task c.args.batches.now) c.in_ok-bytes.ensures.begun
    c.in_ok-bytes.ensures.read file (due_refusal refusal) (ap judged (sym c.deref.ensures.value) ∙ c.in_ok-file.ensures)
    (memory_now (after_assertions task c.args.batches.now file) (due_refusal refusal) c.in_err-answer.ensures.memory))
