use Rattle.ballot_reader.proofs.Contests.{ContestsSoFar}
use Rattle.ballot_reader.proofs.read.contests_left.Given as goal

abbrev pub invariant-loop-i : goal.invariant-loop-i
invariant-loop-i l = ContestsSoFar l.n l.fn.records.left l.contests.items l.i l.records.left
