use Rattle.std.proofs.Common.{◌≡◌, ◌+◌, map, take}
use Rattle.assertions.specs.Assorter.{assorter_value}
use Rattle.polling.specs.Polls.{counted, polled}
use Rattle.polling.proofs.counts.counts_over.Given as goal

abbrev pub invariant-loop-i : goal.invariant-loop-i
invariant-loop-i l = record {
  counts : l.counts ≡ counted (map (polled (assorter_value l.assertion)) (take l.i l.drawn));
  draws : l.counts.n0 + l.counts.n1 + l.counts.n2 ≡ l.i;
}
