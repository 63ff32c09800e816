use Rattle.std.proofs.Common.{◌<◌}
use Rattle.std.specs.Prelude.{All, IsTrue}
use Rattle.std.proofs.lemmas.List.Elements.{All-push}
use Rattle.irv_base.specs.Candidates.{is_distinct}
use Rattle.irv_base.specs.declared.limits.TheConstants.{ROOM}
use Rattle.irv_base.proofs.rankings.Rankings.push.Goals as goal

pub invariant_of-self-2 : goal.invariant_of-self-2
invariant_of-self-2 c = rw (c.in_ok-push.ensures.pushed, c.candidates.ensures.same) (record {
  below = All-push (All (λ d. d < ROOM)) c.self.inside.lists c.args.ranking.now c.self.invariant.below c.candidates.ensures.below;
  distinct = All-push (λ ranking. IsTrue (is_distinct ranking)) c.self.inside.lists c.args.ranking.now c.self.invariant.distinct c.candidates.ensures.distinct;
})
