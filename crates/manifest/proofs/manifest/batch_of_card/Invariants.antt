use Rattle.std.proofs.Common.{◌-◌, ◌<◌, ◌≤◌, length, get_or}
use Rattle.manifest.proofs.manifest.batch_of_card.Given as goal

abbrev pub invariant-halves : goal.invariant-halves
invariant-halves l = record {
  apart : l.low < l.high;
  within : l.high ≤ length l.firsts;
  begun : get_or l.firsts l.low 0 ≤ l.i;
  later : l.high < length l.firsts → l.i < get_or l.firsts l.high 0;
}

abbrev pub decreases-halves : goal.decreases-halves
decreases-halves l = l.high - l.low
