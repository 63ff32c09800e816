use Rattle.std.proofs.Common.{Option, Err, subst}
use Rattle.std.proofs.lemmas.Result.{err_from_is_err_and}
use Rattle.irv_base.specs.Names.{Id}
use Rattle.ballots.specs.Ballots.{votes_of}
use Rattle.desk.specs.Count.{Rose}
use Rattle.cli_base.specs.Due.{due, IsOneOrMemory}
use Rattle.cli_base.specs.Script.{ByDesk, Ends}
use Rattle.cli_base.proofs.Ended.{told_among}
use Rattle.cli_base.proofs.Steps.{ended_accounted}
use Rattle.input_files.specs.Votes.{AreVotes}
use Rattle.input_files.proofs.Going.{votes_stopped}
use Rattle.search_commands.specs.SearchFewest.{Searches}
use Rattle.search_commands.proofs.Going.{ballots_read}
use Rattle.search_commands.proofs.FewestOfVotes.{searches_there}
use Rattle.search_commands.proofs.search_fewest.answer.Goals as goal

pub returns-clause-due : goal.returns-clause-due
returns-clause-due g c =
    let task = c.args.task.now in
    let (bytes, there, read) = c.in_ok-votes.ensures.votes in
    let (ballots, said, is) = read in
    let ends = subst (λ votes. IsOneOrMemory (Searches task votes) (due c.after_votes.result)) is c.after_votes.ensures in
    ballots_read _ _ _ _ bytes _ _ ballots (λ ballots. Ends (Searches task ballots)) (due c.after_votes.result)
    c.as_ref.ensures.value c.in_ok-votes.ensures.begun there said
    (told_among (Searches task (votes_of ballots)) (Searches task ballots) _ (searches_there ballots task) ends)

pub returns-clause-served : goal.returns-clause-served
returns-clause-served g c =
    let task = c.args.task.now in
    ended_accounted _ _ (Searches task c.in_ok-votes.votes) (due c.after_votes.result) c.after_votes.ensures c.in_ok-votes.ensures.served

pub returns-in_err-votes-clause-due : goal.returns-in_err-votes-clause-due
returns-in_err-votes-clause-due g c =
    let task = c.args.task.now in
    let refusal = c.in_err-votes.field-0.0 in
    let p = err_from_is_err_and c.from_residual.result c.from_residual.ensures.1 in
    let readings = ByDesk (g.D.Desk.held c.args.desk.now) (Rose (g.D.Desk.faults c.args.desk.now) (g.D.Desk.faults c.votes_of_file.new.desk)) in
    rw (p.1, p.2)
    (votes_stopped _ _ _ task.ballots task.contest (λ bytes ballots. Ends (Searches task ballots)) refusal c.in_err-votes.ensures.begun
    (subst (λ (asked : Option Id). AreVotes readings task.ballots asked (Err refusal)) c.as_ref.ensures.value c.in_err-votes.ensures.votes))
