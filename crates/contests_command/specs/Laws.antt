-- The end of an audit of all contests if no budget runs out.
use Rattle.std.specs.Prelude.{◌≡◌, List, All}
use Rattle.ballots.specs.Ballots.{BallotFile}
use Rattle.manifest.specs.Cards.{Batches}
use Rattle.seen_file.specs.Seen.{Entry}
use Rattle.cli_base.specs.Outcome.{Verdict}
use Rattle.command.specs.declared.contests.ContestsTask.{ContestsTask}
use Rattle.contest_set.specs.Ends.{EndsAs}
use Rattle.contest_set.specs.declared.end.ContestEnd.{ContestEnd}
use Rattle.contest_set.specs.declared.terms.SharedTerms.{SharedTerms}
use Rattle.contests_command.specs.Contests.{Audits, IsUnspent, SufficeFor}

-- the nodes of a contest don't run out, if they are enough for it
abbrev pub EnoughNodes : Type 0
EnoughNodes =
    (batches : Batches) (terms : SharedTerms) (ballots : BallotFile) (seen : List Entry)
    (end : ContestEnd) →
    SufficeFor terms.nodes ballots → EndsAs batches terms ballots seen end → IsUnspent end

-- an audit of all contests has one end, if the nodes are enough for each contest
abbrev pub AuditsOnce : Type 0
AuditsOnce =
    (task : ContestsTask) (list : List BallotFile) (batches : Batches)
    (seen : List (List Entry)) → All (SufficeFor task.nodes) list → (v w : Verdict) →
    Audits task list batches seen v → Audits task list batches seen w → v ≡ w
