use Rattle.std.proofs.lemmas.Result.{err_from_is_err_and}
use Rattle.session_rounds.specs.Rounds.{next_session}
use Rattle.session_rounds.proofs.Rounds.{verdict_stopped}
use Rattle.session_rounds.proofs.round.go_on.Goals as goal

pub returns-in_err-session : goal.returns-in_err-session
returns-in_err-session g c =
    let task = c.args.task.now in
    let judged = next_session task.session.now task.seen.now task.draws c.args.session (g.T.Claims.values c.args.claims.now)
    (record { recorded = c.args.linked.now; entries = c.args.seen.now }) in
    let p = err_from_is_err_and c.from_residual.result c.from_residual.ensures.1 in
    rw (p.1, p.2) (verdict_stopped judged c.in_err-session.field-0.0 c.in_err-session.ensures)
