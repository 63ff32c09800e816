use Rattle.std.proofs.Common.{◌≡◌, ℕ, List, ap, sym, ◌∙◌, subst}
use Rattle.assertion_file.specs.Reading.{assertion_file_of}
use Rattle.cli_base.specs.Due.{due}
use Rattle.cli_base.specs.Script.{ends}
use Rattle.cli_base.proofs.Steps.{ended_accounted}
use Rattle.input_files.specs.Judged.{told, IsStopped}
use Rattle.input_files.specs.Refusals.{refused_assertions}
use Rattle.input_files.proofs.Going.{read_last, read_stopped}
use Rattle.audit_commands.specs.Plan.{plan_over}
use Rattle.std.proofs.lemmas.Result.{err_from_is_err_and}
use Rattle.cli_base.proofs.Begun.{stopped_at}
use Rattle.audit_commands.proofs.plan.after_manifest.Goals as goal

pub returns-clause-due : goal.returns-clause-due
returns-clause-due g c =
    let task = c.args.task.now in
    let judged = λ (bytes : List ℕ). told (refused_assertions task.assertions) (assertion_file_of bytes) in
    read_last _ _ _ _ c.in_ok-bytes.bytes.items judged (λ bytes file. ends (plan_over task c.args.cards file)) c.in_ok-bytes.ensures.begun c.in_ok-bytes.ensures.read
    c.in_ok-file.file (due c.plan_over.result) (ap judged (sym c.deref.ensures.value) ∙ c.in_ok-file.ensures) c.plan_over.ensures

pub returns-clause-served : goal.returns-clause-served
returns-clause-served g c =
    ended_accounted _ _ (λ verdict. verdict ≡ plan_over c.args.task.now c.args.cards c.in_ok-file.file) (due c.plan_over.result)
    c.plan_over.ensures c.in_ok-bytes.ensures.served

pub returns-in_err-bytes-clause-due : goal.returns-in_err-bytes-clause-due
returns-in_err-bytes-clause-due g c =
    let p = err_from_is_err_and c.from_residual.result c.from_residual.ensures.1 in
    rw (p.1, p.2) (stopped_at _ c.args.task.now.assertions _ c.in_err-bytes.field-0.0 c.in_err-bytes.ensures.begun c.in_err-bytes.ensures.read)

pub returns-in_err-file-clause-due : goal.returns-in_err-file-clause-due
returns-in_err-file-clause-due g c =
    let task = c.args.task.now in
    let judged = λ (bytes : List ℕ). told (refused_assertions task.assertions) (assertion_file_of bytes) in
    let refusal = c.in_err-file.field-0.0 in
    let p = err_from_is_err_and c.from_residual-in_err-file.result c.from_residual-in_err-file.ensures.1 in
    rw (p.1, p.2)
    (read_stopped _ _ _ _ c.in_ok-bytes.bytes.items judged
    (λ bytes file. ends (plan_over task c.args.cards file)) c.in_ok-bytes.ensures.begun c.in_ok-bytes.ensures.read refusal
    (subst (λ bytes. IsStopped (judged bytes) refusal) c.deref.ensures.value c.in_err-file.ensures))
