use Rattle.std.proofs.Common.{Some, ap, subst, sym, ◌∙◌}
use Rattle.ballots.specs.Grammar.{ballots_of}
use Rattle.input_files.specs.Refusals.{refused_ballots}
use Rattle.cli_base.specs.Due.{due_refusal}
use Rattle.std.proofs.lemmas.Result.{err_from_is_err_and}
use Rattle.input_files.specs.Judged.{told, IsJudged, IsTold}
use Rattle.session_rounds.specs.Refusals.{other_digest}
use Rattle.input_files.proofs.Judging.{unless_judged, unless_stopped}
use Rattle.session_rounds.proofs.same.same_ballots.Goals as goal

pub returns : goal.returns
returns c =
    let name = c.args.name.now in
    let read = ballots_of c.args.bytes.now (Some c.args.session.now.contest) in
    unless_judged (other_digest name c.args.session.now.digests.ballots c.args.bytes.now) (told (refused_ballots name) read) c.ballots_in.result
    (ap (λ digests. other_digest name digests.ballots c.args.bytes.now) (sym c.digests.ensures) ∙ c.in_ok-same_digest.ensures.same)
    (subst (λ id. IsJudged (told (refused_ballots name) (ballots_of c.args.bytes.now (Some id))) c.ballots_in.result) c.contest.ensures c.ballots_in.ensures)

pub returns-in_err-same_digest : goal.returns-in_err-same_digest
returns-in_err-same_digest c =
    let name = c.args.name.now in
    let p = err_from_is_err_and c.from_residual.result c.from_residual.ensures.1 in
    rw (p.1, p.2)
    (unless_stopped (other_digest name c.args.session.now.digests.ballots c.args.bytes.now)
    (told (refused_ballots name) (ballots_of c.args.bytes.now (Some c.args.session.now.contest))) c.in_err-same_digest.field-0.0
    (subst (λ digests. IsTold (other_digest name digests.ballots c.args.bytes.now) (due_refusal c.in_err-same_digest.field-0.0)) c.digests.ensures
    c.in_err-same_digest.ensures.refused))
