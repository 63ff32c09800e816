use Rattle.std.proofs.Common.{List}
use Rattle.std.specs.Vec.Iter.{into_iter_items}
use Rattle.ballots.specs.Grammar.{Ballot}
use Rattle.ballot_reader.specs.Kept.{IsKept}
use Rattle.ballot_reader.specs.declared.wanted.Wanted.TheVariants.{All as EachContest}
use Rattle.ballot_reader.proofs.Filed.{FiledSoFar}
use Rattle.ballot_reader.proofs.read.files_of.Given as goal

abbrev pub invariant-loop-contest : goal.invariant-loop-contest
invariant-loop-contest l =
    (ballots : List Ballot) → IsKept l.fn.contests.items EachContest ballots l.fn.kept →
    FiledSoFar l.fn.contests.items ballots (into_iter_items l.contest-iterator) (into_iter_items l.parts) l.files.items
