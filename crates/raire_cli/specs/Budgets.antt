-- How large a budget is enough for a search or a trial.
use Rattle.std.specs.Prelude.{ℕ, ◌≤◌, List}
use Rattle.assertions.specs.Hardness.{first_bound}
use Rattle.bound_search.specs.Race.{work_for}
use Rattle.ballots.specs.Ballots.{BallotFile}
use Rattle.budget.specs.declared.budget.Budget.{Budget}
use Rattle.budget.specs.declared.budget.Budget.TheVariants.{Nodes, Sets}
use Rattle.contest_search.specs.Budget.{nodes_for, sets_of}
use Rattle.contest_search.specs.Contest.{candidate_count, IsOther, IsWon}
use Rattle.command_line.specs.declared.commands.Command.{Command}
use Rattle.command_line.specs.declared.commands.Command.TheVariants.{Search, SearchFewest, Tabulate, Trial, Check, Trim, Adopt, Open, Audit, Poll, PollEach, Contests}

-- the budget of a command; for a command without a budget this is 0 nodes, fewer than any budget has
abbrev pub budget_of : Command → Budget
budget_of (Search task) = task.budget
budget_of (SearchFewest task) = Sets task.sets
budget_of (Tabulate task) = Nodes task.nodes
budget_of (Trial task) = task.budget
budget_of (Check task) = task.budget
budget_of (Trim task) = task.budget
budget_of (Adopt task) = task.budget
budget_of (Open task) = task.budget
budget_of (Audit task) = task.budget
budget_of (Poll task) = Nodes task.nodes
budget_of (PollEach task) = Nodes task.nodes
budget_of (Contests task) = Nodes task.nodes
budget_of _ = Nodes 0

-- the hardness of the order that a search starts with, given the tabulated order
abbrev pub start_of : BallotFile → List ℕ → ℕ
start_of ballots tabulated = first_bound (candidate_count ballots) ballots.rankings tabulated

-- given the tabulated order and the candidate who won: the budget has as many nodes as a search may need for each other candidate, or as
-- many sets as it needs
abbrev pub Suffices : Budget → BallotFile → List ℕ → ℕ → Type 0
Suffices (Nodes nodes) ballots tabulated winner =
    (c : ℕ) → IsOther ballots winner c → nodes_for ballots tabulated winner c ≤ nodes
Suffices (Sets sets) ballots tabulated winner = sets_of ballots winner ≤ sets

-- for a contest that isn't decided: the budget has as many nodes as the race may need for each candidate that the tabulated order doesn't
-- elect; or it has as many sets as a search needs, unless the order that the search starts with shows that the contest isn't decided
abbrev pub SufficesForTie : Budget → BallotFile → Type 0
SufficesForTie (Nodes nodes) ballots =
    (winner c : ℕ) (won : IsWon ballots winner) → IsOther ballots winner c →
    work_for (candidate_count ballots) ballots.rankings won.order c ≤ nodes
SufficesForTie (Sets sets) ballots =
    (winner : ℕ) (won : IsWon ballots winner) → 1 ≤ start_of ballots won.order →
    sets_of ballots winner ≤ sets
