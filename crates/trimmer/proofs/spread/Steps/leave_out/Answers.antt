use Rattle.trimmer.proofs.Opening.{claim-left-reached, claim-still-stand}
use Rattle.trimmer.proofs.Spreads.{both-ok}
use Rattle.trimmer.proofs.spread.Steps.leave_out.Goals as goal

pub open-requires-clause-stand : goal.open-requires-clause-stand
open-requires-clause-stand c =
    let s = c.args.self.now in
    claim-still-stand s.n s.winner s.budget c.args.claim.now s.claims.now c.args.reached.now c.args.reached.now c.requires.with

pub returns-clause-without : goal.returns-clause-without
returns-clause-without c =
    let s = c.args.self.now in
    let old = c.args.reached.now in
    let new = c.open.new.reached in
    both-ok c.open.result (λ opened closed.
    claim-left-reached s.n s.winner s.budget c.args.claim.now s.claims.now old new c.requires.with
    (c.open.ensures.spread.stand (claim-still-stand s.n s.winner s.budget c.args.claim.now s.claims.now old new c.requires.with))
    c.open.ensures.spread.were opened closed (c.open.ensures.spread.few c.requires.with.2)) c.open.ensures.opened c.open.ensures.closed
