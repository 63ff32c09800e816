use Rattle.std.proofs.Common.{Option, Err, ap, subst, sym, ◌∙◌}
use Rattle.std.proofs.lemmas.Result.{err_from_is_err_and}
use Rattle.irv_base.specs.Names.{Id}
use Rattle.desk.specs.Count.{Rose}
use Rattle.cli_base.specs.Due.{due}
use Rattle.cli_base.specs.Script.{ByDesk}
use Rattle.cli_base.proofs.Steps.{accounted_on}
use Rattle.input_files.specs.Votes.{AreVotes, ballots_said}
use Rattle.input_files.proofs.Going.{read_on, stopped_early, votes_stopped}
use Rattle.trim_command.specs.Trim.{after_ballots}
use Rattle.cli_base.proofs.Faults.{told_on}
use Rattle.trim_command.proofs.trim.answer.Goals as goal

-- the ballots are read, and then the assertions
pub returns-clause-due : goal.returns-clause-due
returns-clause-due g c =
    let task = c.args.task.now in
    let (bytes, there, read) = c.in_ok-votes.ensures.votes in
    let (ballots, said, is) = read in
    read_on _ _ _ _ bytes (ballots_said task.ballots task.contest) (λ bytes ballots. after_ballots task.assertions task.budget ballots)
    c.in_ok-votes.ensures.begun there _ _ ballots (due c.after_votes.result) c.in_ok-votes.ensures.held c.in_ok-votes.ensures.faults.never_fewer
    c.after_votes.ensures.faults.never_fewer (ap (λ asked. ballots_said task.ballots asked bytes) (sym c.as_ref.ensures.value) ∙ said)
    (c.after_votes.ensures.due ballots is)

pub returns-clause-faults : goal.returns-clause-faults
returns-clause-faults g c = told_on c.in_ok-votes.ensures.faults c.after_votes.ensures.faults

pub returns-clause-served : goal.returns-clause-served
returns-clause-served g c = accounted_on _ _ _ _ c.in_ok-votes.ensures.served c.after_votes.ensures.served

pub returns-in_err-votes-clause-due : goal.returns-in_err-votes-clause-due
returns-in_err-votes-clause-due g c =
    let task = c.args.task.now in
    let refusal = c.in_err-votes.field-0.0 in
    let p = err_from_is_err_and c.from_residual.result c.from_residual.ensures.1 in
    let readings = ByDesk (g.D.Desk.held c.args.desk.now) (Rose (g.D.Desk.faults c.args.desk.now) (g.D.Desk.faults c.votes_of_file.new.desk)) in
    rw (p.1, p.2)
    (votes_stopped _ _ _ task.ballots task.contest (λ bytes ballots. after_ballots task.assertions task.budget ballots) refusal
    c.in_err-votes.ensures.begun
    (subst (λ (asked : Option Id). AreVotes readings task.ballots asked (Err refusal)) c.as_ref.ensures.value c.in_err-votes.ensures.votes))

pub returns-in_err-votes-clause-served : goal.returns-in_err-votes-clause-served
returns-in_err-votes-clause-served g c =
    let p = err_from_is_err_and c.from_residual.result c.from_residual.ensures.1 in
    rw (p.1, p.2) (stopped_early 1 _ _ c.in_err-votes.field-0.0 c.in_err-votes.ensures.served)
