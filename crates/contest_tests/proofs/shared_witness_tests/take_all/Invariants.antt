use Rattle.std.proofs.Common.{◌≡◌}
use Rattle.contest_tests.proofs.shared_witness_tests.take_all.Given as goal

abbrev pub invariant-loop-turn : goal.invariant-loop-turn
invariant-loop-turn l = record {
  of_race : l.seat.race ≡ l.race.id;
  going : l.seat.view.ends ≡ 0;
}
