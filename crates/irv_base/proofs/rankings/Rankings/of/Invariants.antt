use Rattle.std.proofs.Common.{◌≡◌, take}
use Rattle.irv_base.proofs.rankings.Rankings.of.Given as goal

abbrev pub invariant-loop-ranking : goal.invariant-loop-ranking
invariant-loop-ranking l = l.those ≡ take l.ranking-index l.rankings
