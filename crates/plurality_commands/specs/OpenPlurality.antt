-- `plurality BALLOTS MANIFEST`: the session of an audit of a plurality contest before its first round.
use Rattle.std.specs.Prelude.{ℕ, List, [], ◌∷◌, length, Result, Ok, Err}
use Rattle.sha2.specs.Sha256.{sha256}
use Rattle.ballots.specs.Ballots.{BallotFile}
use Rattle.ballots.specs.Grammar.{ballots_of}
use Rattle.manifest.specs.Cards.{Batches, cards_of}
use Rattle.session_state.specs.Content.{begun_with}
use Rattle.session_state.specs.declared.digests.Digests.{Digests}
use Rattle.session_file.specs.Text.{session_text}
use Rattle.command.specs.declared.open_plurality.OpenPluralityTask.{OpenPluralityTask}
use Rattle.cli_base.specs.Outcome.{Verdict, Answered}
use Rattle.cli_base.specs.Script.{Script, Read, ends}
use Rattle.cli_base.specs.declared.outcome.AnswerKind.{AnswerKind}
use Rattle.cli_base.specs.declared.outcome.AnswerKind.TheVariants.{Done, Tie as TieKind}
use Rattle.input_files.specs.Cards.{cards_for}
use Rattle.input_files.specs.Judged.{told, go_on}
use Rattle.input_files.specs.Refusals.{refused_ballots}
use Rattle.plurality.specs.Plural.{Outcome, Tie}
use Rattle.plurality_commands.specs.Outcome.{no_assertions, outcome_in, tied}

-- the digests of the two files
abbrev pub digests_of : List ℕ → List ℕ → Digests
digests_of ballots manifest =
    record { ballots = ballots; manifest = manifest; assertions = no_assertions }

-- a session of the contest and of the margins of its outcome, without rounds
abbrev pub opened : OpenPluralityTask → BallotFile → Batches → Digests → Outcome → Verdict
opened task ballots batches digests outcome =
    Answered Done (session_text (begun_with ballots.contest (length (cards_of batches))
    outcome.margins task.seed task.limit task.gamma digests))

-- the session is opened, or the tie is printed
abbrev pub opened_or_tied :
    OpenPluralityTask → BallotFile → Batches → Digests → Result Outcome Tie → Verdict
opened_or_tied task ballots batches digests (Ok outcome) =
    opened task ballots batches digests outcome
opened_or_tied task ballots batches digests (Err tie) = tied ballots tie

-- once the ballots, of a file with this digest, have their cards, they are counted
abbrev pub after_ballots : OpenPluralityTask → BallotFile → List ℕ → Script
after_ballots task ballots digest = Read task.manifest (λ bytes.
    go_on (cards_for task.ballots ballots task.manifest bytes) (λ batches.
    ends (opened_or_tied task ballots batches (digests_of digest (sha256 bytes))
    (outcome_in ballots))))

abbrev pub script : OpenPluralityTask → Script
script task = Read task.ballots (λ bytes.
    go_on (told (refused_ballots task.ballots) (ballots_of bytes task.contest)) (λ ballots.
    after_ballots task ballots (sha256 bytes)))

-- the kinds of its answers
abbrev pub kinds : List AnswerKind
kinds = Done ∷ TieKind ∷ []
