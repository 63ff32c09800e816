use Rattle.std.proofs.Common.{ℕ, List, ap, subst, sym, ◌∙◌}
use Rattle.std.proofs.lemmas.Result.{err_from_is_err_and}
use Rattle.manifest.specs.Manifest.{manifest_of}
use Rattle.cli_base.specs.Due.{due}
use Rattle.cli_base.proofs.Steps.{accounted_on}
use Rattle.input_files.specs.Judged.{IsStopped, told}
use Rattle.input_files.specs.Refusals.{refused_manifest}
use Rattle.input_files.proofs.Going.{read_on, read_stopped, stopped_accounted, told-only}
use Rattle.contests_command.specs.Contests.{after_manifest}
use Rattle.cli_base.proofs.Begun.{stopped_at}
use Rattle.cli_base.proofs.Faults.{told_on}
use Rattle.contests_command.proofs.contests.after_ballots.Goals as goal

pub returns-clause-due : goal.returns-clause-due
returns-clause-due g c =
    let task = c.args.task.now in
    let list = c.args.list.now in
    let judged = λ (bytes : List ℕ). told (refused_manifest task.manifest) (manifest_of bytes) in
    read_on _ _ _ _ c.in_ok-bytes.bytes.items judged (λ bytes batches. after_manifest task list batches) c.in_ok-bytes.ensures.begun c.in_ok-bytes.ensures.read _ _
    c.in_ok-batches.batches (due c.after_manifest.result) c.in_ok-bytes.ensures.held c.in_ok-bytes.ensures.faults.never_fewer c.after_manifest.ensures.faults.never_fewer
    (ap judged (sym c.deref.ensures.value) ∙ c.in_ok-batches.ensures) c.after_manifest.ensures.due

pub returns-clause-faults : goal.returns-clause-faults
returns-clause-faults g c = told_on c.in_ok-bytes.ensures.faults c.after_manifest.ensures.faults

pub returns-clause-served : goal.returns-clause-served
returns-clause-served g c = accounted_on _ _ _ _ c.in_ok-bytes.ensures.served c.after_manifest.ensures.served

pub returns-in_err-batches-clause-due : goal.returns-in_err-batches-clause-due
returns-in_err-batches-clause-due g c =
    let task = c.args.task.now in
    let list = c.args.list.now in
    let judged = λ (bytes : List ℕ). told (refused_manifest task.manifest) (manifest_of bytes) in
    let refusal = c.in_err-batches.field-0.0 in
    let p = err_from_is_err_and c.from_residual-in_err-batches.result c.from_residual-in_err-batches.ensures.1 in
    rw (p.1, p.2)
    (read_stopped _ _ _ _ c.in_ok-bytes.bytes.items judged (λ bytes batches. after_manifest task list batches) c.in_ok-bytes.ensures.begun c.in_ok-bytes.ensures.read refusal
    (subst (λ bytes. IsStopped (judged bytes) refusal) c.deref.ensures.value c.in_err-batches.ensures))

pub returns-in_err-batches-clause-served : goal.returns-in_err-batches-clause-served
returns-in_err-batches-clause-served g c =
    let words = refused_manifest c.args.task.now.manifest in
    let read = manifest_of c.deref.result.now in
    let p = err_from_is_err_and c.from_residual-in_err-batches.result c.from_residual-in_err-batches.ensures.1 in
    rw (p.1, p.2) (stopped_accounted 1 _ _ (told words read) c.in_err-batches.field-0.0
    (told-only words read (λ why. tt)) c.in_err-batches.ensures c.in_ok-bytes.ensures.served)

pub returns-in_err-bytes-clause-due : goal.returns-in_err-bytes-clause-due
returns-in_err-bytes-clause-due g c =
    let p = err_from_is_err_and c.from_residual.result c.from_residual.ensures.1 in
    rw (p.1, p.2) (stopped_at _ c.args.task.now.manifest _ c.in_err-bytes.field-0.0 c.in_err-bytes.ensures.begun c.in_err-bytes.ensures.read)
