use Rattle.std.proofs.Common.{◌<◌}
use Rattle.std.specs.Prelude.{All, IsTrue}
use Rattle.irv_base.specs.Candidates.{is_distinct}
use Rattle.irv_base.specs.declared.limits.TheConstants.{ROOM}
use Rattle.irv_base.proofs.Between.{all-at}
use Rattle.irv_base.proofs.rankings.Rankings.at.Goals as goal

pub returns-clause-below : goal.returns-clause-below
returns-clause-below c = all-at (All (λ d. d < ROOM)) c.self.inside.lists c.args.i c.at.result.now c.at.ensures c.self.invariant.below

pub returns-clause-distinct : goal.returns-clause-distinct
returns-clause-distinct c =
    all-at (λ ranking. IsTrue (is_distinct ranking)) c.self.inside.lists c.args.i c.at.result.now c.at.ensures c.self.invariant.distinct
