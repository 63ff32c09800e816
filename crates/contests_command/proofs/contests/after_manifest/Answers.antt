use Rattle.std.proofs.Common.{ℕ, List, ap, subst, sym, ◌∙◌}
use Rattle.std.proofs.lemmas.Result.{err_from_is_err_and}
use Rattle.contest_set.specs.SeenBy.{seen_by}
use Rattle.cli_base.specs.Due.{due, IsOneOrMemory}
use Rattle.cli_base.specs.Script.{Ends}
use Rattle.cli_base.proofs.Steps.{ended_accounted}
use Rattle.input_files.specs.Judged.{IsStopped, told}
use Rattle.input_files.specs.Refusals.{refused_seen}
use Rattle.input_files.proofs.Going.{read_last, read_stopped, stopped_accounted, told-only}
use Rattle.contests_command.specs.Contests.{Audits}
use Rattle.cli_base.proofs.Begun.{stopped_at}
use Rattle.contests_command.proofs.contests.after_manifest.Goals as goal

pub returns-clause-due : goal.returns-clause-due
returns-clause-due g c =
    let task = c.args.task.now in
    let list = c.args.list.now in
    let batches = c.args.batches.now in
    let judged = λ (bytes : List ℕ). told (refused_seen task.seen) (seen_by batches list bytes) in
    read_last _ _ _ _ c.in_ok-bytes.bytes.items judged (λ bytes seen. Ends (Audits task list batches seen)) c.in_ok-bytes.ensures.begun c.in_ok-bytes.ensures.read
    c.in_ok-seen.seen.items (due c.audit.result) (ap judged (sym c.deref.ensures.value) ∙ c.in_ok-seen.ensures.read)
    (subst (λ seen. IsOneOrMemory (Audits task list batches seen) (due c.audit.result)) c.deref-2.ensures.value c.audit.ensures)

pub returns-clause-served : goal.returns-clause-served
returns-clause-served g c =
    ended_accounted _ _ (Audits c.args.task.now c.args.list.now c.args.batches.now c.deref-2.result.now) (due c.audit.result)
    c.audit.ensures c.in_ok-bytes.ensures.served

pub returns-in_err-seen-clause-due : goal.returns-in_err-seen-clause-due
returns-in_err-seen-clause-due g c =
    let task = c.args.task.now in
    let list = c.args.list.now in
    let batches = c.args.batches.now in
    let judged = λ (bytes : List ℕ). told (refused_seen task.seen) (seen_by batches list bytes) in
    let refusal = c.in_err-seen.field-0.0 in
    let p = err_from_is_err_and c.from_residual-in_err-seen.result c.from_residual-in_err-seen.ensures.1 in
    rw (p.1, p.2)
    (read_stopped _ _ _ _ c.in_ok-bytes.bytes.items judged (λ bytes seen. Ends (Audits task list batches seen)) c.in_ok-bytes.ensures.begun c.in_ok-bytes.ensures.read refusal
    (subst (λ bytes. IsStopped (judged bytes) refusal) c.deref.ensures.value c.in_err-seen.ensures.refused))

pub returns-in_err-seen-clause-served : goal.returns-in_err-seen-clause-served
returns-in_err-seen-clause-served g c =
    let words = refused_seen c.args.task.now.seen in
    let read = seen_by c.args.batches.now c.args.list.now c.deref.result.now in
    let p = err_from_is_err_and c.from_residual-in_err-seen.result c.from_residual-in_err-seen.ensures.1 in
    rw (p.1, p.2) (stopped_accounted 0 _ _ (told words read) c.in_err-seen.field-0.0
    (told-only words read (λ why. tt)) c.in_err-seen.ensures.refused c.in_ok-bytes.ensures.served)

pub returns-in_err-bytes-clause-due : goal.returns-in_err-bytes-clause-due
returns-in_err-bytes-clause-due g c =
    let p = err_from_is_err_and c.from_residual.result c.from_residual.ensures.1 in
    rw (p.1, p.2) (stopped_at _ c.args.task.now.seen _ c.in_err-bytes.field-0.0 c.in_err-bytes.ensures.begun c.in_err-bytes.ensures.read)
