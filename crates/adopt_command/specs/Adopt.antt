-- `adopt BALLOTS CLAIMS`: an assertion file with the assertions of a claims file and their margins.
use Rattle.std.specs.Prelude.{◌≡◌, ℕ, List, [], ◌∷◌, ◌++◌, Option, None, Some, codes, Ok, Err}
use Rattle.budget.specs.declared.budget.Budget.{Budget}
use Rattle.irv_base.specs.Names.{Id}
use Rattle.ballots.specs.Ballots.{BallotFile}
use Rattle.ballots.specs.Grammar.{ballots_of}
use Rattle.assertion_file.specs.Ids.{id_of}
use Rattle.assertion_file.specs.Text.{assertion_file_text}
use Rattle.claims_file.specs.Claimed.{Claimed}
use Rattle.claims_file.specs.Reading.{claims_of}
use Rattle.adoption.specs.Answers.{Answer, IsAnswer}
use Rattle.adoption.specs.declared.adoption.Adoption.{Adoption}
use Rattle.adoption.specs.declared.adoption.Adoption.TheVariants.{OtherWinner, Untrue, Stands, Adopted}
use Rattle.cover_checker.specs.declared.cover.CoverFault.TheVariants.{Spent as SpentAt, SpentSets, Memory}
use Rattle.report.specs.Ends.{spent_at, spent_sets}
use Rattle.report.specs.Texts.{assertion_text, order_text}
use Rattle.cli_base.specs.Outcome.{Verdict, Answered}
use Rattle.cli_base.specs.declared.outcome.AnswerKind.{AnswerKind}
use Rattle.cli_base.specs.declared.outcome.AnswerKind.TheVariants.{Done, Spent, Differs}
use Rattle.cli_base.specs.Script.{Script, Read, Ends}
use Rattle.command.specs.declared.adopt.AdoptTask.{AdoptTask}
use Rattle.input_files.specs.Judged.{told, go_on}
use Rattle.input_files.specs.Refusals.{refused_ballots, refused_claims}
use Rattle.check_command.specs.Check.{differs, stands, winner_is}

abbrev pub isnt_true : List ℕ → List ℕ
isnt_true assertion = codes "assertion " ++ assertion ++ codes " isn't true"

-- the verdict on the result for the claims, printed by the ids of the contest's candidates
abbrev pub adoption_verdict : List Id → Adoption → Verdict
adoption_verdict ids (OtherWinner winner) = differs (winner_is (id_of ids winner))
adoption_verdict ids (Untrue assertion) = differs (isnt_true (assertion_text ids assertion))
adoption_verdict ids (Stands order) = differs (stands (order_text ids order))
adoption_verdict ids (Adopted file) = Answered Done (assertion_file_text file)

abbrev pub verdict_on : List Id → Answer → Option Verdict
verdict_on ids (Ok adoption) = Some (adoption_verdict ids adoption)
verdict_on ids (Err (SpentAt last)) = Some (Answered Spent (spent_at (id_of ids last)))
verdict_on ids (Err (SpentSets sets)) = Some (Answered Spent (spent_sets sets))
verdict_on ids (Err Memory) = None

-- an adoption ends with the verdict on a possible answer
abbrev pub Adopts : Budget → BallotFile → Claimed → Verdict → Type 0
Adopts budget ballots claims verdict =
    (answer : Answer) × IsAnswer budget ballots claims answer
    × (verdict_on ballots.candidates answer ≡ Some verdict)

-- an adoption over these ballots, by the claims file of this name
abbrev pub after_ballots : List ℕ → Budget → BallotFile → Script
after_ballots name budget ballots = Read name (λ bytes.
    go_on (told (refused_claims name) (claims_of ballots.contest ballots.candidates bytes)) (λ claims.
    Ends (Adopts budget ballots claims)))

-- the ballots are judged before the claims file is read
abbrev pub script : AdoptTask → Script
script task = Read task.ballots (λ bytes.
    go_on (told (refused_ballots task.ballots) (ballots_of bytes task.contest)) (λ ballots.
    after_ballots task.claims task.budget ballots))

-- the kinds of its answers
abbrev pub kinds : List AnswerKind
kinds = Done ∷ Spent ∷ Differs ∷ []
