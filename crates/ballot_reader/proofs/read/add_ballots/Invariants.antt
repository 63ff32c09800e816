use Rattle.std.proofs.Common.{List, length}
use Rattle.ballots.specs.Grammar.{Ballot}
use Rattle.ballot_reader.specs.Kept.{IsKeptUpTo}
use Rattle.ballot_reader.specs.declared.wanted.Wanted.{Wanted}
use Rattle.ballot_reader.proofs.Behind.{BallotsSoFar}
use Rattle.ballot_reader.proofs.read.add_ballots.Given as goal

abbrev pub invariant-records : goal.invariant-records
invariant-records l =
    (wanted : Wanted) → (earlier : List Ballot) → IsKeptUpTo l.contests wanted earlier l.first l.fn.kept →
    (ballots : List Ballot) × BallotsSoFar l.contests wanted earlier l.first l.fn.records.left ballots l.at l.records.left l.kept

abbrev pub decreases-records : goal.decreases-records
decreases-records l = length l.records.left
