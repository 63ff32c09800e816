use Rattle.std.proofs.Common.{◌≡◌, ℕ, List, ap, sym, ◌∙◌, subst}
use Rattle.manifest.specs.Manifest.{manifest_of}
use Rattle.cli_base.specs.Due.{due}
use Rattle.cli_base.specs.Script.{ends}
use Rattle.cli_base.proofs.Steps.{ended_accounted}
use Rattle.input_files.specs.Judged.{told, IsStopped}
use Rattle.input_files.specs.Refusals.{refused_manifest}
use Rattle.input_files.proofs.Going.{read_last, read_stopped}
use Rattle.audit_commands.specs.Sample.{sample_of}
use Rattle.std.proofs.lemmas.Result.{err_from_is_err_and}
use Rattle.cli_base.proofs.Begun.{stopped_at}
use Rattle.audit_commands.proofs.sample.answer.Goals as goal

pub returns-clause-due : goal.returns-clause-due
returns-clause-due g c =
    let task = c.args.task.now in
    let judged = λ (bytes : List ℕ). told (refused_manifest task.manifest) (manifest_of bytes) in
    read_last _ _ _ _ c.in_ok-bytes.bytes.items judged (λ bytes batches. ends (sample_of task batches)) c.in_ok-bytes.ensures.begun c.in_ok-bytes.ensures.read
    c.in_ok-batches.batches (due c.sample_of.result) (ap judged (sym c.deref.ensures.value) ∙ c.in_ok-batches.ensures) c.sample_of.ensures

pub returns-clause-served : goal.returns-clause-served
returns-clause-served g c =
    ended_accounted _ _ (λ verdict. verdict ≡ sample_of c.args.task.now c.in_ok-batches.batches) (due c.sample_of.result)
    c.sample_of.ensures c.in_ok-bytes.ensures.served

pub returns-in_err-bytes-clause-due : goal.returns-in_err-bytes-clause-due
returns-in_err-bytes-clause-due g c =
    let p = err_from_is_err_and c.from_residual.result c.from_residual.ensures.1 in
    rw (p.1, p.2) (stopped_at _ c.args.task.now.manifest _ c.in_err-bytes.field-0.0 c.in_err-bytes.ensures.begun c.in_err-bytes.ensures.read)

pub returns-in_err-batches-clause-due : goal.returns-in_err-batches-clause-due
returns-in_err-batches-clause-due g c =
    let task = c.args.task.now in
    let judged = λ (bytes : List ℕ). told (refused_manifest task.manifest) (manifest_of bytes) in
    let refusal = c.in_err-batches.field-0.0 in
    let p = err_from_is_err_and c.from_residual-in_err-batches.result c.from_residual-in_err-batches.ensures.1 in
    rw (p.1, p.2)
    (read_stopped _ _ _ _ c.in_ok-bytes.bytes.items judged
    (λ bytes batches. ends (sample_of task batches)) c.in_ok-bytes.ensures.begun c.in_ok-bytes.ensures.read refusal
    (subst (λ bytes. IsStopped (judged bytes) refusal) c.deref.ensures.value c.in_err-batches.ensures))
