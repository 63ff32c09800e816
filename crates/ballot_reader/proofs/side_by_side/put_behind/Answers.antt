use Rattle.std.proofs.Common.{◌+◌, sym, subst}
use Rattle.ballot_reader.specs.Kept.{KeptBallots}
use Rattle.ballot_reader.specs.Parts.{IsReadBehind}
use Rattle.ballot_reader.specs.declared.wanted.Wanted.TheVariants.{VotesOf}
use Rattle.ballot_reader.proofs.side_by_side.put_behind.Goals as goal

pub returns-then-can_join-clause-read : goal.returns-then-can_join-clause-read
returns-then-can_join-clause-read c = λ earlier up_to.
    let contests = c.args.contests.now in
    let audited = c.args.audited in
    let first = c.args.first in
    let lines = c.args.lines.now in
    let part = rw c.in-Some.is at c.requires.alone in
    subst (λ (k : KeptBallots). IsReadBehind contests (VotesOf audited) earlier first lines (first + k.count) c.join.new.self) (sym c.part.view_is)
    (c.in_ok-join.ensures contests audited earlier first lines up_to part)
