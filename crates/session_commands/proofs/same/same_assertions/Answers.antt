use Rattle.std.proofs.Common.{ap, subst, sym, ◌∙◌}
use Rattle.assertion_file.specs.Reading.{assertion_file_of}
use Rattle.input_files.specs.Refusals.{refused_assertions}
use Rattle.cli_base.specs.Due.{due_refusal}
use Rattle.std.proofs.lemmas.Result.{err_from_is_err_and}
use Rattle.input_files.specs.Judged.{told, IsTold}
use Rattle.session_rounds.specs.Refusals.{other_digest}
use Rattle.input_files.proofs.Judging.{unless_judged, unless_stopped}
use Rattle.session_commands.proofs.same.same_assertions.Goals as goal

pub returns : goal.returns
returns c =
    let name = c.args.task.now.assertions in
    let read = assertion_file_of c.args.bytes.now in
    unless_judged (other_digest name c.args.session.now.digests.assertions c.args.bytes.now) (told (refused_assertions name) read) c.assertions_in.result
    (ap (λ digests. other_digest name digests.assertions c.args.bytes.now) (sym c.digests.ensures) ∙ c.in_ok-same_digest.ensures.same)
    c.assertions_in.ensures

pub returns-in_err-same_digest : goal.returns-in_err-same_digest
returns-in_err-same_digest c =
    let name = c.args.task.now.assertions in
    let p = err_from_is_err_and c.from_residual.result c.from_residual.ensures.1 in
    rw (p.1, p.2)
    (unless_stopped (other_digest name c.args.session.now.digests.assertions c.args.bytes.now)
    (told (refused_assertions name) (assertion_file_of c.args.bytes.now)) c.in_err-same_digest.field-0.0
    (subst (λ digests. IsTold (other_digest name digests.assertions c.args.bytes.now) (due_refusal c.in_err-same_digest.field-0.0)) c.digests.ensures
    c.in_err-same_digest.ensures.refused))
