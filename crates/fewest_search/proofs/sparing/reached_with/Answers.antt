use Rattle.std.proofs.Common.{Ok, subst}
use Rattle.set_walk.specs.Walks.{passes}
use Rattle.cover_checker.specs.Reaching.{IsReach}
use Rattle.trimmer.specs.Remaining.{assertions_in as assertions_left}
use Rattle.fewest_search.proofs.sparing.reached_with.Goals as goal

pub returns-in-Ok-Ended : goal.returns-in-Ok-Ended
returns-in-Ok-Ended c =
    let list = assertions_left c.args.all.now in
    subst (λ e. IsReach c.args.n c.args.winner c.args.sets (passes list) (Ok e)) c.in-Ok-Ended.field-0-is
    (subst (IsReach c.args.n c.args.winner c.args.sets (passes list)) c.in-Ok-Ended.is (c.reach.ensures list c.refuting.ensures))
