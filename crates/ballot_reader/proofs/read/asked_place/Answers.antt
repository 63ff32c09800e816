use Rattle.std.proofs.Common.{◌∙◌, ap}
use Rattle.std.specs.Prelude.{position}
use Rattle.ballots.specs.Grammar.{has_id}
use Rattle.ballot_reader.proofs.Heads.{asked-none, asked-place}
use Rattle.ballot_reader.proofs.read.asked_place.Goals as goal

pub returns-in-Some-clause-asked : goal.returns-in-Some-clause-asked
returns-in-Some-clause-asked c =
    rw c.in-Some.is (asked-place c.args.contests.now c.in-Some.id.now c.contest_place.result (c.contest_place.ensures.place
    ∙ ap (λ id. position (has_id id) c.args.contests.now) c.bytes.ensures.same))

pub returns-in-Some-clause-none : goal.returns-in-Some-clause-none
returns-in-Some-clause-none c =
    rw c.in-Some.is (asked-none c.args.contests.now c.in-Some.id.now c.contest_place.result (c.contest_place.ensures.place
    ∙ ap (λ id. position (has_id id) c.args.contests.now) c.bytes.ensures.same))
