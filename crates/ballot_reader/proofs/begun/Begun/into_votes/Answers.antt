use Rattle.std.proofs.Common.{sym, subst}
use Rattle.std.proofs.lemmas.Result.{IfOk-weaker}
use Rattle.ballot_reader.specs.Begun.{HasBegun}
use Rattle.ballots.specs.Grammar.{file_of}
use Rattle.ballot_reader.proofs.Beginning.{read-all}
use Rattle.ballot_reader.proofs.begun.Begun.into_votes.Goals as goal

pub returns : goal.returns
returns c = IfOk-weaker c.votes_kept.result _ _ (λ votes said asked rows before.
    let (chosen, ballots, is) = subst (HasBegun asked rows) (sym c.self.view_is) before in
    (file_of chosen ballots, read-all asked rows _ chosen ballots is, said chosen ballots is.there is.up_to.is_kept))
    c.votes_kept.ensures
