use Rattle.std.proofs.Common.{subst, sym}
use Rattle.std.proofs.lemmas.List.{append-nil}
use Rattle.ballot_reader.specs.Stages.{HasTaken, VotesSoFar}
use Rattle.ballot_reader.proofs.Staged.{whatever-waits}
use Rattle.ballot_reader.proofs.votes_reader.VotesReader.read_waiting.Goals as goal

pub returns-clause-taken : goal.returns-clause-taken
returns-clause-taken g c = λ bytes taken.
    let inside = c.self.inside in
    let whole = whatever-waits inside.asked inside.holds 0 inside.pieces bytes inside.stage
    (subst (λ (r : VotesSoFar). HasTaken r bytes) (sym c.self.view_is) taken) in
    subst (HasTaken c.take.new.self) (append-nil bytes) (c.take.ensures.taken bytes whole)
