use Rattle.session_rounds.proofs.Rounds.{stopped}
use Rattle.session_rounds.proofs.round.next_session.Goals as goal

pub returns-in-Err : goal.returns-in-Err
returns-in-Err g c =
    stopped c.args.task.now.session.now c.args.task.now.seen.now c.args.task.now.draws c.args.session (g.T.Claims.values c.args.claims.now)
    (record { recorded = c.args.linked.now; entries = c.args.seen.now })
    c.in-Err.fault c.refuse_round.result c.requires.may c.in-Err.ensures.refused c.refuse_round.ensures
