-- What the number of workers and the budget change in a search or a trial, how many nodes or sets are enough, and which sessions of an
-- audit the risk limit counts.
use Rattle.std.specs.Prelude.{◌≡◌, ℕ, ◌≤◌, List, length, Option, Some, IsTrue, ⊤}
use Rattle.desk.specs.Desk.{File}
use Rattle.manifest.specs.Linked.{linked_of}
use Rattle.assertion_file.specs.Content.{Content as FileContent, IsSound, candidate_count as count_in}
use Rattle.cover_checker.specs.Covers.{standing_sets}
use Rattle.cover_checker.specs.Findings.{assertions_of}
use Rattle.session_state.specs.Content.{Content}
use Rattle.session_state.specs.Sessions.{is_signed_off}
use Rattle.session_state.specs.RiskOfValues.{MayBeSignedOff}
use Rattle.audit_session.specs.Laws.{AreTrueEntries}
use Rattle.ballots.specs.Ballots.{BallotFile, AreCandidates}
use Rattle.claims_file.specs.Claimed.{AreSound, Claimed}
use Rattle.adoption.specs.Adopted.{each_once}
use Rattle.cli_base.specs.Outcome.{Outcome}
use Rattle.cli_base.specs.Script.{AsHeld, ByDesk, IsDue, MayCome, SameButBudget}
use Rattle.command.specs.declared.search.SearchTask.{SearchTask}
use Rattle.command.specs.declared.search_fewest.SearchFewestTask.{SearchFewestTask}
use Rattle.command.specs.declared.trial.TrialTask.{TrialTask}
use Rattle.command_line.specs.Line.{command_of}
use Rattle.command_line.specs.declared.commands.Command.TheVariants.{Search, SearchFewest, Trial}
use Rattle.budget.specs.declared.budget.Budget.{Budget}
use Rattle.budget.specs.declared.budget.Budget.TheVariants.{Sets}
use Rattle.budget.specs.declared.limits.TheConstants.{DEFAULT_NODES, MOST_SETS}
use Rattle.raire_cli.specs.Answers.{asked}
use Rattle.contest_search.specs.Budget.{nodes_for, sets_of}
use Rattle.contest_search.specs.Contest.{candidate_count, IsOther, IsWon}
use Rattle.raire_cli.specs.Audits.{GoesOn, cards, claims, drawn}

-- the words ask for this search, with this number of workers
abbrev pub AskForWorkers : SearchTask → ℕ → List (List ℕ) → Type 0
AskForWorkers task workers words =
    command_of words ≡ Some (Search (record task { workers = workers }))

-- If two searches differ only in their number of workers, each may end in every way in which the other may, whatever files there are, even
-- if the desk or memory fails.
abbrev pub WorkersAskTheSame : Type 0
WorkersAskTheSame =
    (task : SearchTask) (some more : ℕ) (words others : List (List ℕ)) →
    AskForWorkers task some words → AskForWorkers task more others →
    (held : Option (List File)) (due : Outcome) → IsDue (ByDesk held ⊤) (asked words) due →
    IsDue (ByDesk held ⊤) (asked others) due

-- Over the same files they come to the same status and bytes, unless a budget runs out.
abbrev pub WorkersComeToTheSame : Type 0
WorkersComeToTheSame =
    (task : SearchTask) (some more : ℕ) (words others : List (List ℕ)) →
    AskForWorkers task some words → AskForWorkers task more others →
    (files : List File) (due other : Outcome) → MayCome (AsHeld files) (asked words) due →
    MayCome (AsHeld files) (asked others) other →
    SameButBudget due other

-- The same holds for two trials.
abbrev pub TrialsComeToTheSame : Type 0
TrialsComeToTheSame =
    (task : TrialTask) (some more : ℕ) (words others : List (List ℕ)) →
    command_of words ≡ Some (Trial (record task { workers = some })) →
    command_of others ≡ Some (Trial (record task { workers = more })) →
    (files : List File) (due other : Outcome) → MayCome (AsHeld files) (asked words) due →
    MayCome (AsHeld files) (asked others) other →
    SameButBudget due other

-- With a number of sets there is no exception: two searches that differ only in their number of workers come to the same status and bytes.
abbrev pub SetsComeToTheSame : Type 0
SetsComeToTheSame =
    (task : SearchTask) (sets some more : ℕ) (words others : List (List ℕ)) →
    AskForWorkers (record task { budget = Sets sets }) some words →
    AskForWorkers (record task { budget = Sets sets }) more others →
    (files : List File) (due other : Outcome) → MayCome (AsHeld files) (asked words) due →
    MayCome (AsHeld files) (asked others) other → due ≡ other

-- So do two trials.
abbrev pub TrialsBySetsComeToTheSame : Type 0
TrialsBySetsComeToTheSame =
    (task : TrialTask) (sets some more : ℕ) (words others : List (List ℕ)) →
    command_of words ≡ Some (Trial (record task { budget = Sets sets; workers = some })) →
    command_of others ≡ Some (Trial (record task { budget = Sets sets; workers = more })) →
    (files : List File) (due other : Outcome) → MayCome (AsHeld files) (asked words) due →
    MayCome (AsHeld files) (asked others) other → due ≡ other

-- Two searches for the fewest NENs that differ only in their number of workers come to the same status.
abbrev pub FewestComeToTheSameStatus : Type 0
FewestComeToTheSameStatus =
    (task : SearchFewestTask) (some more : ℕ) (words others : List (List ℕ)) →
    command_of words ≡ Some (SearchFewest (record task { workers = some })) →
    command_of others ≡ Some (SearchFewest (record task { workers = more })) →
    (files : List File) (due other : Outcome) → MayCome (AsHeld files) (asked words) due →
    MayCome (AsHeld files) (asked others) other → due.status ≡ other.status

-- Two searches of the same contest with the same floor and plan, by nodes or by sets, come to the same status and bytes, unless a budget
-- runs out.
abbrev pub BudgetsComeToTheSame : Type 0
BudgetsComeToTheSame =
    (task : SearchTask) (some more : Budget) (few many : ℕ) (words others : List (List ℕ)) →
    AskForWorkers (record task { budget = some }) few words →
    AskForWorkers (record task { budget = more }) many others →
    (files : List File) (due other : Outcome) → MayCome (AsHeld files) (asked words) due →
    MayCome (AsHeld files) (asked others) other →
    SameButBudget due other

-- The default number of nodes is enough for up to nine candidates.
abbrev pub DefaultSuffices : Type 0
DefaultSuffices =
    (ballots : BallotFile) (tabulated : List ℕ) (winner c : ℕ) → IsOther ballots winner c →
    candidate_count ballots ≤ 9 →
    nodes_for ballots tabulated winner c ≤ DEFAULT_NODES

-- The maximum number of sets is enough for a search or a trial of up to twenty candidates.
abbrev pub MostSetsSuffice : Type 0
MostSetsSuffice =
    (ballots : BallotFile) (winner : ℕ) → IsWon ballots winner → candidate_count ballots ≤ 20 →
    sets_of ballots winner ≤ MOST_SETS

-- It is enough to check an assertion file of up to twenty candidates.
abbrev pub MostSetsSufficeToCheck : Type 0
MostSetsSufficeToCheck =
    (file : FileContent) → IsSound file → count_in file ≤ 20 →
    standing_sets (count_in file) file.winner (assertions_of file) ≤ MOST_SETS

-- It is enough to adopt claims about up to twenty candidates.
abbrev pub MostSetsSufficeToAdopt : Type 0
MostSetsSufficeToAdopt =
    (ballots : BallotFile) (claims : Claimed) → AreCandidates ballots.candidates →
    AreSound (candidate_count ballots) claims → candidate_count ballots ≤ 20 →
    standing_sets (candidate_count ballots) claims.winner
    (each_once (candidate_count ballots) claims.assertions) ≤ MOST_SETS

-- If the drawn cards were read as they are, a session that an audit signs off is among those that the risk limit counts. This also holds
-- among longer sequences.
abbrev pub SignedOffIsCounted : Type 0
SignedOffIsCounted =
    (words : List (List ℕ)) (files : List File) (next : Content) (on : GoesOn words files next)
    (actual : List (List ℕ)) (most : ℕ) →
    IsTrue (is_signed_off next.session) → on.asks.task.draws ≤ most → length actual ≡ cards on.inputs →
    AreTrueEntries actual on.inputs.entries (drawn on.inputs on.asks.task.draws) →
    MayBeSignedOff on.inputs.session.session.limit on.inputs.session.session.gamma
    (claims on.inputs)
    (linked_of on.inputs.basis.batches on.inputs.basis.ballots) actual (drawn on.inputs most)
