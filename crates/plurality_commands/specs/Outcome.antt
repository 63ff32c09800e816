-- The outcome of a plurality contest, for its commands: they continue with it, or end with its tie.
use Rattle.std.specs.Prelude.{◌≡◌, ℕ, List, [], length, Result, Err}
use Rattle.sha2.specs.Sha256.{sha256}
use Rattle.ballots.specs.Ballots.{BallotFile}
use Rattle.report.specs.Ends.{tie_text}
use Rattle.cli_base.specs.Outcome.{Verdict, Answered}
use Rattle.cli_base.specs.Script.{Script}
use Rattle.cli_base.specs.declared.outcome.AnswerKind.TheVariants.{Tie as TieKind}
use Rattle.input_files.specs.Judged.{told, go_on}
use Rattle.plurality.specs.Plural.{Outcome, Tie, outcome_of}

-- the outcome of a ballot file's contest
abbrev pub outcome_in : BallotFile → Result Outcome Tie
outcome_in ballots = outcome_of (length ballots.candidates) ballots.rankings

-- a tie is printed like that of a first round: who shares the greatest number of first preferences, and that number
abbrev pub tied : BallotFile → Tie → Verdict
tied ballots tie = Answered TieKind (tie_text ballots.candidates 1 tie.tied tie.tally)

-- there is a tie, and this verdict is the one for it
abbrev pub TellsOfTie : BallotFile → Verdict → Type 0
TellsOfTie ballots verdict =
    (tie : Tie) × (outcome_in ballots ≡ Err tie) × (verdict ≡ tied ballots tie)

-- the script that continues with the outcome if there is one, and otherwise ends with the tie
abbrev pub if_won : BallotFile → (Outcome → Script) → Script
if_won ballots next = go_on (told (tied ballots) (outcome_in ballots)) next

-- there is no assertion file, so its digest is that of no bytes
abbrev pub no_assertions : List ℕ
no_assertions = sha256 []
