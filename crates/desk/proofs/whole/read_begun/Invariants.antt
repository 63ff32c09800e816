-- What was read so far is no longer in what is left, was counted, and was taken.
use Rattle.std.proofs.Common.{◌≡◌, ◌-◌, true, max}
use Rattle.std.specs.Io.KnownBytes.{Consumes}
use Rattle.desk.specs.Passing.{too_long_after}
use Rattle.desk.specs.Reading.{TookAll}
use Rattle.desk.proofs.whole.read_begun.Given as goal

abbrev pub invariant-loop-count : goal.invariant-loop-count
invariant-loop-count g l = record {
  begun : g.D.Desk.begun l.desk ≡ true;
  held : g.D.Desk.held l.desk ≡ g.D.Desk.held l.initial.desk;
  unfailed : g.D.Desk.faults l.desk ≡ g.D.Desk.faults l.initial.desk;
  taken : TookAll g.T.Taker.sought g.T.Taker.has_taken l.initial.into l.into (Consumes (g.D.Desk.left l.initial.desk) (g.D.Desk.left l.desk)) l.limit l.came;
  ready : g.T.Taker.ready l.into;
  begins : (g.D.Desk.served l.desk).begins ≡ (g.D.Desk.served l.initial.desk).begins;
  misses : (g.D.Desk.served l.desk).misses ≡ (g.D.Desk.served l.initial.desk).misses;
  all : (g.D.Desk.served l.desk).bytes ≡ l.came;
  longest : (g.D.Desk.served l.desk).longest ≡ max (g.D.Desk.served l.initial.desk).longest l.came;
  over : (g.D.Desk.served l.desk).too_long ≡ too_long_after l.came (g.D.Desk.served l.initial.desk).too_long;
}

abbrev pub decreases-loop-count : goal.decreases-loop-count
decreases-loop-count g l = l.limit - l.came
