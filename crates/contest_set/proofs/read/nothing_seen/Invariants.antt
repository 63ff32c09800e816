use Rattle.std.proofs.Common.{◌≡◌, [], replicate}
use Rattle.contest_set.proofs.read.nothing_seen.Given as goal

abbrev pub invariant-loop : goal.invariant-loop
invariant-loop l = l.seen.items ≡ replicate l.counter []
