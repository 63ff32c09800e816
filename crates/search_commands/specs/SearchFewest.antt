-- `search FILE --fewest`: assertions that together confirm the winner of a ballot file's contest with the fewest NENs, or why there are none.
use Rattle.std.specs.Prelude.{◌≡◌, ◌⊎◌, ◌≤◌, ◌<◌, ℕ, List, Option, MatchBool}
use Rattle.budget.specs.declared.budget.Budget.TheVariants.{Sets}
use Rattle.ballots.specs.Ballots.{BallotFile}
use Rattle.ballots.specs.Grammar.{ballots_of}
use Rattle.assertion_file.specs.Content.{Content}
use Rattle.assertion_file.specs.Text.{assertion_file_text}
use Rattle.report.specs.Ends.{spent_sets_text}
use Rattle.cli_base.specs.Outcome.{Verdict, One}
use Rattle.cli_base.specs.declared.outcome.AnswerKind.{AnswerKind}
use Rattle.cli_base.specs.declared.outcome.AnswerKind.TheVariants.{Done, Tie, Spent, FullCount}
use Rattle.cli_base.specs.Script.{Script, Read, Ends}
use Rattle.command.specs.declared.plan_terms.PlanTerms.{PlanTerms}
use Rattle.command.specs.declared.search_fewest.SearchFewestTask.{SearchFewestTask}
use Rattle.input_files.specs.Judged.{told, go_on}
use Rattle.input_files.specs.Refusals.{refused_ballots}
use Rattle.contest_search.specs.Fewest.{IsFewestFoundIn, IsSpentFewest, with_own_margin}
use Rattle.search_commands.specs.Ends.{HasTieIn}
use Rattle.search_commands.specs.Search as search
use Rattle.search_commands.specs.Search.{full_count_text, has_cards, more_ballots, printed}

-- ---- how it ends, with this many sets and this gap, if a best margin below `least` calls for a full count

-- with assertions that have the fewest NENs if the best margin reaches `least`, as they are printed with this plan
pub record HasFewest (sets gap least : ℕ) (plan : Option PlanTerms) (ballots : BallotFile)
    (text : List ℕ) : Type 0 where
  pub file : Content
  pub is : IsFewestFoundIn sets gap ballots file
  pub floor : least ≤ file.margin
  pub shown : text ≡ assertion_file_text (printed plan (with_own_margin file))

-- with only the order if the best margin doesn't reach `least`
pub record HasFullCount (sets gap least : ℕ) (ballots : BallotFile) (text : List ℕ) : Type 0 where
  pub file : Content
  pub is : IsFewestFoundIn sets gap ballots file
  pub floor : file.margin < least
  pub shown : text ≡ full_count_text file least

-- the search needs more sets than there are; the order that a search starts with is printed
pub record HasSpent (sets : ℕ) (ballots : BallotFile) (text : List ℕ) : Type 0 where
  pub order : List ℕ
  pub margin : ℕ
  pub is : IsSpentFewest sets ballots order margin
  pub shown : text ≡ spent_sets_text ballots.candidates sets order margin

abbrev pub Finds : ℕ → ℕ → ℕ → Option PlanTerms → BallotFile → Verdict → Type 0
Finds sets gap least plan ballots verdict =
    One (HasFewest sets gap least plan ballots) Done verdict
    ⊎ One (HasTieIn (Sets sets) ballots) Tie verdict ⊎ One (HasSpent sets ballots) Spent verdict
    ⊎ One (HasFullCount sets gap least ballots) FullCount verdict

-- ---- the command

-- the contest is searched if each of its ballots has a card; otherwise the ballots are refused
abbrev pub Searches : SearchFewestTask → BallotFile → Verdict → Type 0
Searches task ballots verdict =
    MatchBool (has_cards task.plan ballots)
    (Finds task.sets task.gap task.floor task.plan ballots verdict) (verdict ≡ more_ballots task.ballots)

abbrev pub script : SearchFewestTask → Script
script task = Read task.ballots (λ bytes.
    go_on (told (refused_ballots task.ballots) (ballots_of bytes task.contest)) (λ ballots.
    Ends (Searches task ballots)))

-- the kinds of its answers, which are those of a search
abbrev pub kinds : List AnswerKind
kinds = search.kinds
