-- `open BALLOTS MANIFEST ASSERTIONS`: the session of an audit before its first round.
use Rattle.std.specs.Prelude.{◌≡◌, ℕ, List, [], ◌∷◌, length}
use Rattle.std.specs.Bool.{MatchBool}
use Rattle.sha2.specs.Sha256.{sha256}
use Rattle.ballots.specs.Ballots.{BallotFile}
use Rattle.ballots.specs.Grammar.{ballots_of}
use Rattle.manifest.specs.Cards.{Batches, cards_of}
use Rattle.assertion_file.specs.Content.{Content as FileContent}
use Rattle.assertion_file.specs.Reading.{assertion_file_of}
use Rattle.session_state.specs.Content.{begun}
use Rattle.session_state.specs.declared.digests.Digests.{Digests}
use Rattle.session_file.specs.Text.{session_text}
use Rattle.check_command.specs.Check.{Checks}
use Rattle.command.specs.declared.open.OpenTask.{OpenTask}
use Rattle.cli_base.specs.Outcome.{Verdict, Answered}
use Rattle.cli_base.specs.Script.{Script, Read, Ends}
use Rattle.cli_base.specs.declared.outcome.AnswerKind.{AnswerKind}
use Rattle.cli_base.specs.declared.outcome.AnswerKind.TheVariants.{Done, Spent, Differs}
use Rattle.input_files.specs.Cards.{cards_for}
use Rattle.input_files.specs.Judged.{told, go_on}
use Rattle.input_files.specs.Refusals.{refused_assertions, refused_ballots}
use Rattle.session_commands.specs.Accepted.{is_accepted}
use Rattle.session_commands.specs.declared.open.Earlier.{Earlier}

-- the digests of all three files; the assertion file's digest is added last, since this file is read last
abbrev pub all_digests : Earlier → List ℕ → Digests
all_digests earlier assertions =
    record {
      ballots = earlier.ballots;
      manifest = earlier.manifest;
      assertions = sha256 assertions;
    }

-- a session of the file's contest and claims, without rounds
abbrev pub opened : OpenTask → Batches → FileContent → Digests → Verdict
opened task batches file digests =
    Answered Done (session_text (begun file.contest (length (cards_of batches)) file task.seed
    task.limit task.gamma digests))

-- the session is opened if a check accepts the file; otherwise the call ends as the check does
abbrev pub Opens : OpenTask → BallotFile → Batches → FileContent → Digests → Verdict → Type 0
Opens task ballots batches file digests verdict =
    MatchBool (is_accepted task.budget ballots file) (verdict ≡ opened task batches file digests)
    (Checks task.budget ballots file verdict)

-- once the ballots have their cards, the command reads the assertions
abbrev pub after_manifest : OpenTask → BallotFile → Batches → Earlier → Script
after_manifest task ballots batches earlier = Read task.assertions (λ bytes.
    go_on (told (refused_assertions task.assertions) (assertion_file_of bytes)) (λ file.
    Ends (Opens task ballots batches file (all_digests earlier bytes))))

abbrev pub after_ballots : OpenTask → BallotFile → List ℕ → Script
after_ballots task ballots digest = Read task.manifest (λ bytes.
    go_on (cards_for task.ballots ballots task.manifest bytes) (λ batches.
    after_manifest task ballots batches (record { ballots = digest; manifest = sha256 bytes })))

abbrev pub script : OpenTask → Script
script task = Read task.ballots (λ bytes.
    go_on (told (refused_ballots task.ballots) (ballots_of bytes task.contest)) (λ ballots.
    after_ballots task ballots (sha256 bytes)))

-- the kinds of its answers
abbrev pub kinds : List AnswerKind
kinds = Done ∷ Spent ∷ Differs ∷ []
