-- `check BALLOTS ASSERTIONS`: whether an assertion file holds of a ballot file's contest, or the first difference.
use Rattle.std.specs.Prelude.{◌≡◌, ℕ, ℤ, List, [], ◌∷◌, ◌++◌, length, Option, None, Some, Ok, Err, codes}
use Rattle.std.specs.Fmt.{decimal, signed_decimal}
use Rattle.budget.specs.declared.budget.Budget.{Budget}
use Rattle.ballots.specs.Ballots.{BallotFile}
use Rattle.ballots.specs.Grammar.{ballots_of}
use Rattle.assertion_file.specs.Content.{Content}
use Rattle.assertion_file.specs.Ids.{id_of}
use Rattle.assertion_file.specs.Reading.{assertion_file_of}
use Rattle.cover_checker.specs.Checks.{IsAnswer}
use Rattle.cover_checker.specs.Findings.{Answer}
use Rattle.cover_checker.specs.declared.checked.Checked.{Checked}
use Rattle.cover_checker.specs.declared.checked.Checked.TheVariants.{OtherContest, OtherWinner, OtherMargin, Stands, NotLeast, NotAlternative, Harder, OtherDraws, Accepted}
use Rattle.cover_checker.specs.declared.checked.CheckFault.TheVariants.{Spent as SpentAt, SpentSets, Memory}
use Rattle.report.specs.Ends.{spent_at, spent_sets}
use Rattle.report.specs.Texts.{order_text, assertion_text}
use Rattle.cli_base.specs.Outcome.{Verdict, Answered}
use Rattle.cli_base.specs.declared.outcome.AnswerKind.{AnswerKind}
use Rattle.cli_base.specs.declared.outcome.AnswerKind.TheVariants.{Done, Spent, Differs}
use Rattle.cli_base.specs.Script.{Script, Read, Ends}
use Rattle.command.specs.declared.check.CheckTask.{CheckTask}
use Rattle.input_files.specs.Judged.{told, go_on}
use Rattle.input_files.specs.Refusals.{refused_assertions, refused_ballots}

-- ---- the texts

abbrev pub yes_lines : ℕ → ℕ → List ℕ
yes_lines assertions margin = codes "yes\nassertions " ++ decimal assertions ++ codes "\nmargin "
    ++ decimal margin ++ codes "\n"

-- a file without an order says nothing of a best margin
abbrev pub yes_by : Option (List ℕ) → ℕ → ℕ → List ℕ
yes_by (Some order) assertions margin = yes_lines assertions margin
yes_by None assertions margin = yes_lines assertions margin ++ codes "not said to be best\n"

abbrev pub yes_text : Content → List ℕ
yes_text file = yes_by file.order (length file.claims) file.margin

abbrev pub no_line : List ℕ → List ℕ
no_line difference = codes "no: " ++ difference ++ codes "\n"

-- a difference in words

abbrev pub winner_is : List ℕ → List ℕ
winner_is winner = codes "winner is " ++ winner

abbrev pub has_margin : ℕ → ℤ → List ℕ
has_margin index found =
    codes "assertion " ++ decimal index ++ codes " has margin " ++ signed_decimal found

abbrev pub stands : List ℕ → List ℕ
stands order = codes "order " ++ order ++ codes " stands"

abbrev pub smallest_is : ℕ → List ℕ
smallest_is found = codes "smallest margin is " ++ decimal found

abbrev pub is_refuted_by : List ℕ → ℕ → List ℕ
is_refuted_by assertion margin =
    codes "order is refuted by " ++ assertion ++ codes " margin " ++ decimal margin

abbrev pub needs_draws : ℕ → ℕ → List ℕ
needs_draws index draws =
    codes "assertion " ++ decimal index ++ codes " needs " ++ decimal draws ++ codes " draws"

abbrev pub needs_full_count : ℕ → List ℕ
needs_full_count index = codes "assertion " ++ decimal index ++ codes " needs a full count"

abbrev pub needs : ℕ → Option ℕ → List ℕ
needs index (Some draws) = needs_draws index draws
needs index None = needs_full_count index

-- ---- how a check ends

abbrev pub differs : List ℕ → Verdict
differs difference = Answered Differs (no_line difference)

-- the verdict on what the checker found, printed by the ids of the file
abbrev pub found_verdict : Content → Checked → Verdict
found_verdict file OtherContest = differs (codes "contest differs")
found_verdict file (OtherWinner winner) = differs (winner_is (id_of file.candidates winner))
found_verdict file (OtherMargin index found) = differs (has_margin index found)
found_verdict file (Stands order) = differs (stands (order_text file.candidates order))
found_verdict file (NotLeast found) = differs (smallest_is found)
found_verdict file NotAlternative = differs (codes "order elects the winner")
found_verdict file (Harder assertion margin) =
    differs (is_refuted_by (assertion_text file.candidates assertion) margin)
found_verdict file (OtherDraws index found) = differs (needs index found)
found_verdict file Accepted = Answered Done (yes_text file)

abbrev pub verdict_on : Content → Answer → Option Verdict
verdict_on file (Ok found) = Some (found_verdict file found)
verdict_on file (Err (SpentAt last)) = Some (Answered Spent (spent_at (id_of file.candidates last)))
verdict_on file (Err (SpentSets sets)) = Some (Answered Spent (spent_sets sets))
verdict_on file (Err Memory) = None

-- a check ends with the verdict on an answer that the checker may give
abbrev pub Checks : Budget → BallotFile → Content → Verdict → Type 0
Checks budget ballots file verdict =
    (answer : Answer) × IsAnswer budget ballots file answer × (verdict_on file answer ≡ Some verdict)

-- ---- the command

-- a check of these ballots, by the assertion file of this name
abbrev pub after_ballots : List ℕ → Budget → BallotFile → Script
after_ballots assertions budget ballots = Read assertions (λ bytes.
    go_on (told (refused_assertions assertions) (assertion_file_of bytes)) (λ file.
    Ends (Checks budget ballots file)))

-- the ballots are judged before the assertion file is read
abbrev pub script : CheckTask → Script
script task = Read task.ballots (λ bytes.
    go_on (told (refused_ballots task.ballots) (ballots_of bytes task.contest)) (λ ballots.
    after_ballots task.assertions task.budget ballots))

-- the kinds of its answers
abbrev pub kinds : List AnswerKind
kinds = Done ∷ Spent ∷ Differs ∷ []
