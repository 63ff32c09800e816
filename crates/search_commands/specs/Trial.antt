-- `trial`: the assertions that confirm the winner of a contest whose records a number draws, in a few lines.
use Rattle.std.specs.Prelude.{◌≡◌, ◌⊎◌, ◌+◌, ℕ, List, [], ◌∷◌, ◌++◌, length, map, codes}
use Rattle.std.specs.Fmt.{decimal}
use Rattle.irv_base.specs.Candidates.{candidates}
use Rattle.irv_base.specs.Names.{Id}
use Rattle.trial.specs.Records.{trial_records}
use Rattle.ballots.specs.Ballots.{BallotFile, votes_with}
use Rattle.assertion_file.specs.Content.{Content}
use Rattle.assertion_file.specs.Ids.{id_of}
use Rattle.cli_base.specs.Outcome.{Verdict, One}
use Rattle.cli_base.specs.declared.outcome.AnswerKind.{AnswerKind}
use Rattle.cli_base.specs.declared.outcome.AnswerKind.TheVariants.{Done, Tie, Spent}
use Rattle.cli_base.specs.Script.{Script, Ends}
use Rattle.command.specs.declared.trial.TrialTask.{TrialTask}
use Rattle.contest_search.specs.Found.{IsFoundIn}
use Rattle.search_commands.specs.Ends.{HasTieIn, HasSpent}
use Rattle.search_commands.specs.Search.{certificate_order_text}

-- ---- its contest

-- the ids of n candidates, which are their numbers from 1
abbrev pub trial_candidates : ℕ → List Id
trial_candidates n = map (λ c. decimal (c + 1)) (candidates n)

-- the records are those that the number draws
abbrev pub contest_of : TrialTask → BallotFile
contest_of task =
    votes_with (codes "trial") (trial_candidates task.candidates)
    (trial_records task.number task.candidates task.ballots)

-- ---- its lines

abbrev pub records_lines : ℕ → ℕ → ℕ → List ℕ
records_lines number candidates records =
    codes "number " ++ decimal number ++ codes "\ncandidates " ++ decimal candidates
    ++ codes "\nrecords " ++ decimal records ++ codes "\n"

abbrev pub found_lines : List ℕ → ℕ → ℕ → List ℕ → List ℕ
found_lines winner margin assertions order =
    codes "winner " ++ winner ++ codes "\nmargin " ++ decimal margin ++ codes "\nassertions "
    ++ decimal assertions ++ codes "\norder " ++ order ++ codes "\n"

-- what a trial prints: its records, and then what an assertion file would say
abbrev pub trial_text : ℕ → Content → List ℕ
trial_text number file =
    records_lines number (length file.candidates) file.records
    ++ found_lines (id_of file.candidates file.winner) file.margin (length file.claims)
    (certificate_order_text file)

-- ---- how a trial ends

pub record HasLines (task : TrialTask) (text : List ℕ) : Type 0 where
  pub file : Content
  pub found : IsFoundIn task.budget (contest_of task) file
  pub shown : text ≡ trial_text task.number file

abbrev pub Tries : TrialTask → Verdict → Type 0
Tries task verdict =
    One (HasLines task) Done verdict ⊎ One (HasTieIn task.budget (contest_of task)) Tie verdict
    ⊎ One (HasSpent task.budget (contest_of task)) Spent verdict

-- ---- the command, which reads no file

abbrev pub script : TrialTask → Script
script task = Ends (Tries task)

-- the kinds of its answers
abbrev pub kinds : List AnswerKind
kinds = Done ∷ Tie ∷ Spent ∷ []
