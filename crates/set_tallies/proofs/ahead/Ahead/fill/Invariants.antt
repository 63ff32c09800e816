use Rattle.std.proofs.Common.{◌≡◌, ◌^◌, map}
use Rattle.irv_base.specs.Candidates.{candidates}
use Rattle.set_tallies.specs.Bags.{votes_at, everyone}
use Rattle.set_tallies.proofs.ahead.Ahead.fill.Given as goal

abbrev pub invariant-loop-c : goal.invariant-loop-c
invariant-loop-c l = record {
  firsts : l.firsts.items ≡ map (λ w. votes_at l.bag (everyone l.bag.n) w) (candidates l.c);
  ahead : map (λ v. v.items) l.ahead.items ≡ map (λ c. map (λ w. votes_at l.bag (2 ^ w) c) (candidates l.bag.n)) (candidates l.c);
}
