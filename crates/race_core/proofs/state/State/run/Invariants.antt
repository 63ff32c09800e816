use Rattle.std.proofs.Common.{◌≡◌, ◌+◌, take, drop, Some}
use Rattle.race_core.specs.Race.{run, taken_count}
use Rattle.race_core.proofs.state.State.run.Given as goal

abbrev pub invariant-loop-i : goal.invariant-loop-i
invariant-loop-i l = record {
  ran : run l.initial.self (take l.i l.events) ≡ Some l.self;
  counts : taken_count l.initial.self l.events ≡ l.i + taken_count l.self (drop l.i l.events);
}
