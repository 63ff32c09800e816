use Rattle.std.proofs.Common.{◌<◌}
use Rattle.std.specs.Prelude.{All, IsTrue}
use Rattle.std.proofs.lemmas.List.Elements.{All-append}
use Rattle.irv_base.specs.Candidates.{is_distinct}
use Rattle.irv_base.specs.declared.limits.TheConstants.{ROOM}
use Rattle.irv_base.proofs.rankings.Rankings.append.Goals as goal

pub invariant_of-self-2 : goal.invariant_of-self-2
invariant_of-self-2 c = rw c.in_ok-append.ensures.appended (record {
  below = All-append (All (λ d. d < ROOM)) c.self.inside.lists c.others.inside.lists c.self.invariant.below c.others.invariant.below;
  distinct = All-append (λ ranking. IsTrue (is_distinct ranking)) c.self.inside.lists c.others.inside.lists c.self.invariant.distinct c.others.invariant.distinct;
})
