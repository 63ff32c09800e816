-- `trim BALLOTS ASSERTIONS`: an assertion file that a check accepts, without the claims that can be removed.
use Rattle.std.specs.Prelude.{◌≡◌, ℕ, List, [], ◌∷◌, Option, None, Some, Result, Ok, Err}
use Rattle.budget.specs.declared.budget.Budget.{Budget}
use Rattle.ballots.specs.Ballots.{BallotFile}
use Rattle.ballots.specs.Grammar.{ballots_of}
use Rattle.assertion_file.specs.Content.{Content}
use Rattle.assertion_file.specs.Ids.{id_of}
use Rattle.assertion_file.specs.Reading.{assertion_file_of}
use Rattle.assertion_file.specs.Text.{assertion_file_text}
use Rattle.cover_checker.specs.Checks.{IsAnswer}
use Rattle.cover_checker.specs.Findings.{Answer}
use Rattle.cover_checker.specs.declared.checked.Checked.TheVariants.{Accepted}
use Rattle.trimmer.specs.Trimmed.{trimmed}
use Rattle.trimmer.specs.declared.fault.TrimFault.{TrimFault}
use Rattle.trimmer.specs.declared.fault.TrimFault.TheVariants.{Spent as SpentAt, SpentSets, Memory}
use Rattle.report.specs.Ends.{spent_at, spent_sets}
use Rattle.cli_base.specs.Outcome.{Verdict, Answered}
use Rattle.cli_base.specs.declared.outcome.AnswerKind.{AnswerKind}
use Rattle.cli_base.specs.declared.outcome.AnswerKind.TheVariants.{Done, Spent, Differs}
use Rattle.cli_base.specs.Script.{Script, Read, Ends}
use Rattle.command.specs.declared.trim.TrimTask.{TrimTask}
use Rattle.input_files.specs.Judged.{told, go_on}
use Rattle.input_files.specs.Refusals.{refused_assertions, refused_ballots}
use Rattle.check_command.specs.Check.{verdict_on as check_verdict}

-- the trimmed file, or the trial for which the budget isn't enough, printed by the ids of the file
abbrev pub trim_verdict : Content → Result Content TrimFault → Option Verdict
trim_verdict file (Ok left) = Some (Answered Done (assertion_file_text left))
trim_verdict file (Err (SpentAt claim last)) =
    Some (Answered Spent (spent_at (id_of file.candidates last)))
trim_verdict file (Err (SpentSets claim sets)) = Some (Answered Spent (spent_sets sets))
trim_verdict file (Err Memory) = None

-- a file that the checker accepts is trimmed; for every other answer the verdict is that of `check`
abbrev pub verdict_on : Budget → Content → Answer → Option Verdict
verdict_on budget file (Ok Accepted) = trim_verdict file (trimmed budget file)
verdict_on budget file answer = check_verdict file answer

abbrev pub Trims : Budget → BallotFile → Content → Verdict → Type 0
Trims budget ballots file verdict =
    (answer : Answer) × IsAnswer budget ballots file answer
    × (verdict_on budget file answer ≡ Some verdict)

-- a trim of these ballots, by the assertion file of this name
abbrev pub after_ballots : List ℕ → Budget → BallotFile → Script
after_ballots assertions budget ballots = Read assertions (λ bytes.
    go_on (told (refused_assertions assertions) (assertion_file_of bytes)) (λ file.
    Ends (Trims budget ballots file)))

-- the files are read and judged as by `check`
abbrev pub script : TrimTask → Script
script task = Read task.ballots (λ bytes.
    go_on (told (refused_ballots task.ballots) (ballots_of bytes task.contest)) (λ ballots.
    after_ballots task.assertions task.budget ballots))

-- the kinds of its answers
abbrev pub kinds : List AnswerKind
kinds = Done ∷ Spent ∷ Differs ∷ []
