use Rattle.std.proofs.Common.{◌≡◌, ◌∙◌, ℕ, List, Ok, ap, ap₂, subst, sym}
use Rattle.std.proofs.lemmas.Result.{err_from_is_err_and}
use Rattle.irv_base.specs.Names.{Id}
use Rattle.ballots.specs.Ballots.{BallotFile, votes_of}
use Rattle.claims_file.specs.Reading.{claims_of}
use Rattle.cli_base.specs.Due.{due, IsOneOrMemory}
use Rattle.cli_base.specs.Script.{Ends}
use Rattle.cli_base.proofs.Begun.{stopped_at}
use Rattle.cli_base.proofs.Ended.{told_among}
use Rattle.cli_base.proofs.Steps.{ended_accounted}
use Rattle.input_files.specs.Judged.{told, IsStopped}
use Rattle.input_files.specs.Refusals.{refused_claims}
use Rattle.input_files.proofs.Going.{read_last, read_stopped}
use Rattle.adopt_command.specs.Adopt.{Adopts}
use Rattle.adopt_command.proofs.OfVotes.{adopts_there}
use Rattle.adopt_command.proofs.adopt.after_votes.Goals as goal

pub returns-clause-due : goal.returns-clause-due
returns-clause-due g c = λ ballots is.
    let judged = λ (bytes : List ℕ). told (refused_claims c.args.claims.now) (claims_of ballots.contest ballots.candidates bytes) in
    let contest : c.contest.result.now ≡ ballots.contest = c.contest.ensures ∙ ap (λ (v : BallotFile). v.contest) is in
    let candidates : c.candidates.result.now ≡ ballots.candidates = c.candidates.ensures.same ∙ ap (λ (v : BallotFile). v.candidates) is in
    let read : judged c.in_ok-bytes.bytes.items ≡ Ok c.in_ok-claimed.claimed =
    sym ((λ i. told (refused_claims c.args.claims.now) (claims_of (contest i) (candidates i) (c.deref.ensures.value i)))) ∙ c.in_ok-claimed.ensures.judged in
    read_last _ _ _ _ c.in_ok-bytes.bytes.items judged (λ bytes claims. Ends (Adopts c.args.budget ballots claims)) c.in_ok-bytes.ensures.begun
    c.in_ok-bytes.ensures.read c.in_ok-claimed.claimed (due c.of_claims.result) read
    (told_among (Adopts c.args.budget (votes_of ballots) c.in_ok-claimed.claimed) _ _ (adopts_there c.args.budget ballots c.in_ok-claimed.claimed)
    (subst (λ votes. IsOneOrMemory (Adopts c.args.budget votes c.in_ok-claimed.claimed) (due c.of_claims.result)) is c.of_claims.ensures))

pub returns-clause-served : goal.returns-clause-served
returns-clause-served g c =
    ended_accounted _ _ (Adopts c.args.budget c.args.votes.now c.in_ok-claimed.claimed) (due c.of_claims.result) c.of_claims.ensures c.in_ok-bytes.ensures.served

pub returns-in_err-bytes-clause-due : goal.returns-in_err-bytes-clause-due
returns-in_err-bytes-clause-due g c = λ ballots is.
    let p = err_from_is_err_and c.from_residual.result c.from_residual.ensures.1 in
    rw (p.1, p.2) (stopped_at _ c.args.claims.now _ c.in_err-bytes.field-0.0 c.in_err-bytes.ensures.begun c.in_err-bytes.ensures.read)

pub returns-in_err-claimed-clause-due : goal.returns-in_err-claimed-clause-due
returns-in_err-claimed-clause-due g c = λ ballots is.
    let judged = λ (bytes : List ℕ). told (refused_claims c.args.claims.now) (claims_of ballots.contest ballots.candidates bytes) in
    let contest : c.contest.result.now ≡ ballots.contest = c.contest.ensures ∙ ap (λ (v : BallotFile). v.contest) is in
    let candidates : c.candidates.result.now ≡ ballots.candidates = c.candidates.ensures.same ∙ ap (λ (v : BallotFile). v.candidates) is in
    let refusal = c.in_err-claimed.field-0.0 in
    let p = err_from_is_err_and c.from_residual-in_err-claimed.result c.from_residual-in_err-claimed.ensures.1 in
    let same : told (refused_claims c.args.claims.now) (claims_of c.contest.result.now c.candidates.result.now c.deref.result.now)
    ≡ judged c.in_ok-bytes.bytes.items =
    λ i. told (refused_claims c.args.claims.now) (claims_of (contest i) (candidates i) (c.deref.ensures.value i)) in
    rw (p.1, p.2)
    (read_stopped _ _ _ _ c.in_ok-bytes.bytes.items judged
    (λ bytes claims. Ends (Adopts c.args.budget ballots claims)) c.in_ok-bytes.ensures.begun c.in_ok-bytes.ensures.read refusal
    (subst (λ judged. IsStopped judged refusal) same c.in_err-claimed.ensures.judged))
