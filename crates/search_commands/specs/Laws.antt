-- How a search and a tabulation end, and why a trial is a search.
use Rattle.std.specs.Prelude.{◌⊎◌, ◌↔◌, ℕ, ◌≤◌, ◌<◌, List, Option, None}
use Rattle.budget.specs.declared.budget.Budget.{Budget}
use Rattle.budget.specs.declared.budget.Budget.TheVariants.{Nodes, Sets}
use Rattle.assertions.specs.Hardness.{first_bound}
use Rattle.irv_base.specs.declared.limits.TheConstants.{FEWEST_CANDIDATES}
use Rattle.ballots.specs.Ballots.{BallotFile}
use Rattle.cover_checker.specs.Covers.{IsEnoughFor}
use Rattle.cli_base.specs.Outcome.{Verdict, Answered, One}
use Rattle.cli_base.specs.declared.outcome.AnswerKind.{AnswerKind}
use Rattle.cli_base.specs.declared.outcome.AnswerKind.TheVariants.{Done, Tie, Spent}
use Rattle.command.specs.declared.plan_terms.PlanTerms.{PlanTerms}
use Rattle.command.specs.declared.trial.TrialTask.{TrialTask}
use Rattle.contest_search.specs.Budget.{certificate_nodes, sets_of, IsInBudget}
use Rattle.contest_search.specs.Contest.{candidate_count, IsElected, IsOther, IsUndecided, IsWon}
use Rattle.search_commands.specs.Ends.{HasTie, HasSpent}
use Rattle.search_commands.specs.Search.{Finds}
use Rattle.search_commands.specs.Tabulate.{HasStopped, Tabulates}
use Rattle.search_commands.specs.Trial.{contest_of, HasLines, Tries}

-- ---- the ends of a search and of a tabulation

-- A contest that isn't decided has a first tie.
abbrev pub UndecidedHasTie : Type 0
UndecidedHasTie =
    (ballots : BallotFile) → FEWEST_CANDIDATES ≤ candidate_count ballots → IsUndecided ballots →
    (text : List ℕ) × HasTie ballots text

-- A search has an end, whatever its budget and its floor.
abbrev pub EndExists : Type 0
EndExists =
    (budget : Budget) (least : ℕ) (plan : Option PlanTerms) (ballots : BallotFile) →
    FEWEST_CANDIDATES ≤ candidate_count ballots →
    (verdict : Verdict) × Finds budget least plan ballots verdict

-- If the budget is enough for the certificate, a search has an end at which it isn't out of budget.
abbrev pub UnspentEndExists : Type 0
UnspentEndExists =
    (budget : Budget) (least : ℕ) (plan : Option PlanTerms) (ballots : BallotFile) (winner : ℕ) →
    FEWEST_CANDIDATES ≤ candidate_count ballots → IsWon ballots winner →
    IsInBudget ballots winner budget →
    (verdict : Verdict) × Finds budget least plan ballots verdict
    × (One (HasSpent budget ballots) Spent verdict → ⊥)

-- A search that isn't out of budget ends with a tie exactly if its contest isn't decided.
abbrev pub TieIffUndecided : Type 0
TieIffUndecided =
    (budget : Budget) (least : ℕ) (plan : Option PlanTerms) (ballots : BallotFile) (verdict : Verdict) →
    Finds budget least plan ballots verdict →
    (One (HasSpent budget ballots) Spent verdict → ⊥) →
    (One (HasTie ballots) Tie verdict ↔ IsUndecided ballots)

-- A tabulation has an end at which it isn't out of budget, whatever its number of nodes.
abbrev pub TabulationExists : Type 0
TabulationExists =
    (nodes : ℕ) (ballots : BallotFile) → FEWEST_CANDIDATES ≤ candidate_count ballots →
    (verdict : Verdict) × Tabulates nodes ballots verdict
    × (One (HasStopped nodes ballots) Spent verdict → ⊥)

-- A tabulation that isn't out of budget names no winner exactly if its contest isn't decided.
abbrev pub NoWinnerIffUndecided : Type 0
NoWinnerIffUndecided =
    (nodes : ℕ) (ballots : BallotFile) (verdict : Verdict) → Tabulates nodes ballots verdict →
    (One (HasStopped nodes ballots) Spent verdict → ⊥) →
    (One (HasTie ballots) Tie verdict ↔ IsUndecided ballots)

-- ---- the budget that a search needs

-- If the certificate of a decided contest needs more nodes for a candidate, a search runs out of budget.
abbrev pub SpentWhereAbove : Type 0
SpentWhereAbove =
    (nodes least : ℕ) (plan : Option PlanTerms) (ballots : BallotFile) (winner c : ℕ)
    (verdict : Verdict) →
    IsWon ballots winner → IsElected ballots winner → IsOther ballots winner c →
    nodes < certificate_nodes ballots winner c → Finds (Nodes nodes) least plan ballots verdict →
    One (HasSpent (Nodes nodes) ballots) Spent verdict

-- A search by sets runs out of budget exactly if it needs more sets, and the order that it starts with isn't of hardness 0.
abbrev pub SpentBySetsExactly : Type 0
SpentBySetsExactly =
    (sets least : ℕ) (plan : Option PlanTerms) (ballots : BallotFile) (winner : ℕ)
    (won : IsWon ballots winner) (verdict : Verdict) → Finds (Sets sets) least plan ballots verdict →
    (One (HasSpent (Sets sets) ballots) Spent verdict
    ↔ ((1 ≤ first_bound (candidate_count ballots) ballots.rankings won.order)
    × (sets < sets_of ballots winner)))

-- ---- a trial

-- one of the verdicts is an answer of this kind
abbrev pub IsAmongKinds : (Verdict → Type 0) → AnswerKind → Type 0
IsAmongKinds verdicts kind = (text : List ℕ) × verdicts (Answered kind text)

-- A trial may have an answer of a kind exactly if a search of its contest at floor 1 may: no margin is below that floor.
abbrev pub TrialIsASearch : Type 0
TrialIsASearch =
    (task : TrialTask) (kind : AnswerKind) → FEWEST_CANDIDATES ≤ task.candidates →
    IsAmongKinds (Tries task) kind ↔ IsAmongKinds (Finds task.budget 1 None (contest_of task)) kind

-- With twice the factorial of the number of the other candidates as nodes, or with all sets but three, a trial has its lines, or a tie.
abbrev pub TrialIsComplete : Type 0
TrialIsComplete =
    (task : TrialTask) (verdict : Verdict) → IsEnoughFor task.candidates task.budget →
    Tries task verdict →
    One (HasLines task) Done verdict ⊎ One (HasTie (contest_of task)) Tie verdict
