use Rattle.std.proofs.Common.{Ok, Err, ap, subst, ◌∙◌}
use Rattle.set_walk.specs.Walks.{passes}
use Rattle.cover_checker.specs.Reaching.{IsReach}
use Rattle.cover_checker.proofs.Verdicts.{ended-is, fault-is}
use Rattle.cover_checker.proofs.cover.by_sets.Goals as goal

pub returns : goal.returns
returns c = λ _.
    let list = c.args.list in
    let walk = subst (IsReach c.args.n c.args.winner c.args.sets (passes list)) c.in_ok-end.was (c.reach.ensures list c.refuting.ensures) in
    ap Ok c.verdict_of.ensures ∙ ended-is c.args.n c.args.winner c.args.sets list c.in_ok-end.end walk
