-- `search FILE`: the assertions that together confirm the winner of a ballot file's contest, or why there are none.
use Rattle.std.specs.Prelude.{◌≡◌, ◌⊎◌, ◌≤◌, ◌<◌, ℕ, Bool, true, nat_le, List, [], ◌∷◌, ◌++◌, length, Option, None, Some, option_map, unwrap_or, MatchBool, codes}
use Rattle.std.specs.Fmt.{decimal}
use Rattle.budget.specs.declared.budget.Budget.{Budget}
use Rattle.ballots.specs.Ballots.{BallotFile}
use Rattle.ballots.specs.Grammar.{ballots_of}
use Rattle.assertion_file.specs.Content.{Content, Plan}
use Rattle.assertion_file.specs.Text.{assertion_file_text}
use Rattle.report.specs.Texts.{order_text}
use Rattle.cli_base.specs.Outcome.{Verdict, Refused, One, broken_at}
use Rattle.cli_base.specs.declared.outcome.AnswerKind.{AnswerKind}
use Rattle.cli_base.specs.declared.outcome.AnswerKind.TheVariants.{Done, Tie, Spent, FullCount}
use Rattle.cli_base.specs.Script.{Script, Read, Ends}
use Rattle.command.specs.declared.plan_terms.PlanTerms.{PlanTerms}
use Rattle.command.specs.declared.search.SearchTask.{SearchTask}
use Rattle.input_files.specs.Judged.{told, go_on}
use Rattle.input_files.specs.Refusals.{refused_ballots}
use Rattle.contest_search.specs.Budget.{IsInBudget}
use Rattle.contest_search.specs.Certificate.{IsCertificateOfDecided}
use Rattle.contest_search.specs.Planned.{plan_of}
use Rattle.search_commands.specs.Ends.{HasTieIn, HasSpent}

-- ---- the text of a full count

-- the order of a certificate, which has one
abbrev pub certificate_order_text : Content → List ℕ
certificate_order_text file = order_text file.candidates (unwrap_or file.order [])

abbrev pub full_count_lines : List ℕ → ℕ → ℕ → List ℕ
full_count_lines order margin floor =
    codes "full count\norder " ++ order ++ codes "\nmargin " ++ decimal margin ++ codes "\nfloor "
    ++ decimal floor ++ codes "\n"

abbrev pub full_count_text : Content → ℕ → List ℕ
full_count_text file floor =
    full_count_lines (certificate_order_text file) file.margin floor

-- ---- the draws of a clean audit

-- for the claims of a file, by these terms
abbrev pub plan_by : Content → PlanTerms → Plan
plan_by file terms = plan_of terms.cards terms.gamma terms.limit file

-- a certificate as it is printed: with draws, if there are terms for them
abbrev pub printed : Option PlanTerms → Content → Content
printed plan file = record file { plan = option_map (plan_by file) plan }

-- if a number of cards is given, there are at least as many cards as ballots
abbrev pub has_cards : Option PlanTerms → BallotFile → Bool
has_cards None ballots = true
has_cards (Some terms) ballots = nat_le (length ballots.rankings) terms.cards

-- there are more ballots than cards
abbrev pub more_ballots : List ℕ → Verdict
more_ballots name = Refused name (broken_at (codes "B11") 0)

-- ---- how a search with a budget ends, if a margin below `least` calls for a full count

-- with the certificate if its margin reaches `least`, as it is printed with this plan
pub record HasCertificate (budget : Budget) (least : ℕ) (plan : Option PlanTerms) (ballots : BallotFile)
    (text : List ℕ) : Type 0 where
  pub file : Content
  pub is : IsCertificateOfDecided ballots file
  pub within : IsInBudget ballots is.winner budget
  pub floor : least ≤ file.margin
  pub shown : text ≡ assertion_file_text (printed plan file)

-- with only the certificate's order if its margin doesn't reach `least`
pub record HasFullCount (budget : Budget) (least : ℕ) (ballots : BallotFile) (text : List ℕ) : Type 0 where
  pub file : Content
  pub is : IsCertificateOfDecided ballots file
  pub within : IsInBudget ballots is.winner budget
  pub floor : file.margin < least
  pub shown : text ≡ full_count_text file least

abbrev pub Finds : Budget → ℕ → Option PlanTerms → BallotFile → Verdict → Type 0
Finds budget least plan ballots verdict =
    One (HasCertificate budget least plan ballots) Done verdict ⊎ One (HasTieIn budget ballots) Tie verdict
    ⊎ One (HasSpent budget ballots) Spent verdict
    ⊎ One (HasFullCount budget least ballots) FullCount verdict

-- ---- the command

-- the contest is searched if each of its ballots has a card; otherwise the ballots are refused
abbrev pub Searches : SearchTask → BallotFile → Verdict → Type 0
Searches task ballots verdict =
    MatchBool (has_cards task.plan ballots)
    (Finds task.budget task.floor task.plan ballots verdict) (verdict ≡ more_ballots task.ballots)

abbrev pub script : SearchTask → Script
script task = Read task.ballots (λ bytes.
    go_on (told (refused_ballots task.ballots) (ballots_of bytes task.contest)) (λ ballots.
    Ends (Searches task ballots)))

-- the kinds of its answers
abbrev pub kinds : List AnswerKind
kinds = Done ∷ Tie ∷ Spent ∷ FullCount ∷ []
