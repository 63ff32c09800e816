use Rattle.std.proofs.Common.{[], Ok, subst}
use Rattle.std.proofs.lemmas.Result.{err_from_is_err_and}
use Rattle.cli_base.specs.Due.{due_refusal}
use Rattle.input_files.specs.Judged.{IsTold}
use Rattle.input_files.proofs.Judging.{next_stopped, unless_stopped}
use Rattle.session_rounds.specs.Refusals.{other_digest}
use Rattle.session_rounds.specs.Rounds.{session_to_go_on}
use Rattle.plurality_commands.proofs.audit_plurality.plural_session.Goals as goal

pub returns-in_err-same_digest-clause-read : goal.returns-in_err-same_digest-clause-read
returns-in_err-same_digest-clause-read c =
    let task = c.args.task.now in
    let session = c.in_ok-session.session in
    let refusal = c.in_err-same_digest.field-0.0 in
    let p = err_from_is_err_and c.from_residual-in_err-same_digest.result c.from_residual-in_err-same_digest.ensures.1 in
    rw (p.1, p.2)
    (next_stopped (session_to_go_on task.session task.draws c.args.bytes.now) _ session refusal c.in_ok-session.ensures.read
    (unless_stopped (other_digest task.session session.digests.assertions []) (Ok session) refusal
    (subst (λ digests. IsTold (other_digest task.session digests.assertions []) (due_refusal refusal)) c.digests.ensures c.in_err-same_digest.ensures.refused)))
