use Rattle.std.proofs.Common.{◌≡◌, ◌*◌, ◌<◌, All, length}
use Rattle.contest_tests.specs.declared.set_tallies_tests.TheConstants.{FEW}
use Rattle.contest_tests.proofs.set_tallies_tests.many_ballots.Given as goal

abbrev pub invariant-loop-time : goal.invariant-loop-time
invariant-loop-time l = record {
  long : length l.rankings.items ≡ l._time * 10;
  few : All (λ ranking. All (λ c. c < FEW) ranking) l.rankings.items;
}
