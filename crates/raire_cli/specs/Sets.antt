-- When a number of sets runs out: exactly when more sets count.
use Rattle.std.specs.Prelude.{◌≡◌, ◌≢◌, ◌⊎◌, ◌≤◌, ◌<◌, ◌-◌, ◌^◌, ℕ, List, Option, None, Some, IfSome, Ok, Err, IsTrue}
use Rattle.std.specs.List.{list_all}
use Rattle.desk.specs.Desk.{File}
use Rattle.assertions.specs.Assertions.{is_true}
use Rattle.ballots.specs.Ballots.{BallotFile}
use Rattle.manifest.specs.Cards.{Batches}
use Rattle.assertion_file.specs.Content.{Content, candidate_count as count_in}
use Rattle.assertion_file.specs.Reading.{assertion_file_of}
use Rattle.session_state.specs.Content.{Content as Session}
use Rattle.budget.specs.declared.budget.Budget.TheVariants.{Sets}
use Rattle.cover_checker.specs.Checks.{IsAnswer}
use Rattle.cover_checker.specs.Covers.{standing_sets}
use Rattle.cover_checker.specs.Findings.{assertions_of, is_about, other_margin}
use Rattle.cover_checker.specs.declared.checked.Checked.TheVariants.{Accepted}
use Rattle.claims_file.specs.Claimed.{Claimed}
use Rattle.adoption.specs.Adopted.{each_once}
use Rattle.trimmer.specs.Trimmed.{trimmed}
use Rattle.trimmer.specs.declared.fault.TrimFault.TheVariants.{SpentSets}
use Rattle.cli_base.specs.Statuses.{Exactly}
use Rattle.command.specs.declared.audit.AuditTask.{AuditTask}
use Rattle.command.specs.declared.open.OpenTask.{OpenTask}
use Rattle.command_line.specs.Line.{command_of}
use Rattle.command_line.specs.declared.commands.Command.{Command}
use Rattle.command_line.specs.declared.commands.Command.TheVariants.{Search, SearchFewest, Check, Trim, Adopt, Open, Audit, Trial}
use Rattle.contest_search.specs.Budget.{sets_of}
use Rattle.contest_search.specs.Contest.{candidate_count, IsWon}
use Rattle.contest_search.specs.Fewest.{fewest_sets_of}
use Rattle.input_files.specs.Cards.{cards_for}
use Rattle.search_commands.specs.Trial.{contest_of}
use Rattle.session_commands.specs.Audit.{same_assertions}
use Rattle.session_rounds.specs.Rounds.{same_ballots, same_manifest, session_to_go_on}
use Rattle.raire_cli.specs.Budgets.{budget_of, start_of}
use Rattle.raire_cli.specs.Held.{AreBallots, AreChecked, AreClaimed, Says}
use Rattle.raire_cli.specs.Undecided.{IsAbout}

-- ---- more sets count than the budget has

-- a search of the contest needs more sets, and the order that it starts with doesn't show that the contest isn't decided
pub record NeedsMore (sets : ℕ) (ballots : BallotFile) : Type 0 where
  pub winner : ℕ
  pub won : IsWon ballots winner
  pub above : sets < sets_of ballots winner
  pub some : 1 ≤ start_of ballots won.order

-- a search for the fewest NENs needs more sets, and the order that it starts with doesn't show that the contest isn't decided
pub record FewestNeedMore (sets : ℕ) (ballots : BallotFile) : Type 0 where
  pub winner : ℕ
  pub won : IsWon ballots winner
  pub above : sets < fewest_sets_of ballots winner
  pub some : 1 ≤ start_of ballots won.order

-- the file is about the contest and its winner, no claim has a different margin, and more sets count among the orders that its claims don't
-- refute
pub record CountsMore (sets : ℕ) (ballots : BallotFile) (file : Content) : Type 0 where
  pub about : IsTrue (is_about ballots file)
  pub won : IsWon ballots file.winner
  pub margins : other_margin ballots.rankings file ≡ None
  pub above : sets < standing_sets (count_in file) file.winner (assertions_of file)

-- a check accepts the file, and without one of its claims more sets count
pub record TrialCountsMore (sets : ℕ) (ballots : BallotFile) (file : Content) : Type 0 where
  pub accepted : IsAnswer (Sets sets) ballots file (Ok Accepted)
  pub claim : ℕ
  pub spent : trimmed (Sets sets) file ≡ Err (SpentSets claim sets)

-- the claims are about the winner of the contest, all of them are true, and more sets count among the orders that they don't refute
pub record ClaimsCountMore (sets : ℕ) (ballots : BallotFile) (claims : Claimed) : Type 0 where
  pub won : IsWon ballots claims.winner
  pub hold : IsTrue (list_all (is_true ballots.rankings) claims.assertions)
  pub above : sets < standing_sets (candidate_count ballots) claims.winner
      (each_once (candidate_count ballots) claims.assertions)

-- ---- the files of a command that judges an assertion file

-- the files of a session that is opened; each ballot has a card
pub record AreOpened (files : List File) (task : OpenTask) (ballots : BallotFile)
    (file : Content) : Type 0 where
  pub of_ballots : AreBallots files task.ballots task.contest ballots
  pub batches : Batches
  pub of_manifest : Says files task.manifest (cards_for task.ballots ballots task.manifest) batches
  pub of_assertions : Says files task.assertions assertion_file_of file

-- the files of a round; the session continues up to this number of draws, the other files are those that it is about, and each ballot has a
-- card
pub record AreOfRound (files : List File) (task : AuditTask) (ballots : BallotFile)
    (file : Content) : Type 0 where
  pub session : Session
  pub of_session : Says files task.session (session_to_go_on task.session task.draws) session
  pub of_ballots : Says files task.ballots (same_ballots task.ballots session) ballots
  pub batches : Batches
  pub of_manifest : Says files task.manifest
      (same_manifest task.ballots task.manifest session ballots) batches
  pub of_assertions : Says files task.assertions (same_assertions task session) file

-- ---- each command that may have a number of sets

-- a search or a trial needs more sets, or more sets count in the check of an assertion file or of claims, and everything that is judged
-- before that was accepted
abbrev pub MoreCount : List File → Command → ℕ → Type 0
MoreCount files (Search task) sets =
    (ballots : BallotFile) × IsAbout files (Search task) ballots × NeedsMore sets ballots
MoreCount files (SearchFewest task) sets =
    (ballots : BallotFile) × IsAbout files (SearchFewest task) ballots × FewestNeedMore sets ballots
MoreCount files (Check task) sets =
    (ballots : BallotFile) × (file : Content)
    × AreChecked files task.ballots task.assertions task.contest ballots file
    × CountsMore sets ballots file
MoreCount files (Trim task) sets =
    (ballots : BallotFile) × (file : Content)
    × AreChecked files task.ballots task.assertions task.contest ballots file
    × (CountsMore sets ballots file ⊎ TrialCountsMore sets ballots file)
MoreCount files (Adopt task) sets =
    (ballots : BallotFile) × (claims : Claimed)
    × AreClaimed files task.ballots task.claims task.contest ballots claims
    × ClaimsCountMore sets ballots claims
MoreCount files (Open task) sets =
    (ballots : BallotFile) × (file : Content) × AreOpened files task ballots file
    × CountsMore sets ballots file
MoreCount files (Audit task) sets =
    (ballots : BallotFile) × (file : Content) × AreOfRound files task ballots file
    × CountsMore sets ballots file
MoreCount files (Trial task) sets = NeedsMore sets (contest_of task)
MoreCount files _ sets = ⊥

-- ---- what `run` promises

-- Status 4 of a command with a number of sets occurs exactly when more sets count.
abbrev pub IsSpentBySets : Option (List File) → List (List ℕ) → ℕ → Type 0
IsSpentBySets held words status = IfSome held (λ files. (command : Command) (sets : ℕ) →
    command_of words ≡ Some command → budget_of command ≡ Sets sets →
    Exactly 4 status (MoreCount files command sets))

-- With at least 2^n - 3 sets, a search or a trial of n candidates doesn't run out of budget.
abbrev pub IsNeverSpentBySets : Option (List File) → List (List ℕ) → ℕ → Type 0
IsNeverSpentBySets held words status =
    IfSome held (λ files. (command : Command) (ballots : BallotFile) (sets : ℕ) →
    command_of words ≡ Some command → IsAbout files command ballots →
    budget_of command ≡ Sets sets → 2 ^ candidate_count ballots - 3 ≤ sets →
    status ≢ 4)
