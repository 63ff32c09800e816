use Rattle.std.proofs.Common.{subst}
use Rattle.cli_base.specs.Due.{due_refusal}
use Rattle.input_files.specs.Cards.{cards_for}
use Rattle.std.proofs.lemmas.Result.{err_from_is_err_and}
use Rattle.input_files.specs.Judged.{IsTold}
use Rattle.session_rounds.specs.Refusals.{other_digest}
use Rattle.input_files.proofs.Judging.{unless_stopped}
use Rattle.session_rounds.proofs.same.same_manifest.Goals as goal

pub returns-in_err-same_digest-clause-refused : goal.returns-in_err-same_digest-clause-refused
returns-in_err-same_digest-clause-refused c =
    let name = c.args.manifest.now in
    let p = err_from_is_err_and c.from_residual.result c.from_residual.ensures.1 in
    rw (p.1, p.2)
    (unless_stopped (other_digest name c.args.session.now.digests.manifest c.args.bytes.now)
    (cards_for c.args.name.now c.args.ballots.now name c.args.bytes.now) c.in_err-same_digest.field-0.0
    (subst (λ digests. IsTold (other_digest name digests.manifest c.args.bytes.now) (due_refusal c.in_err-same_digest.field-0.0)) c.digests.ensures
    c.in_err-same_digest.ensures.refused))
