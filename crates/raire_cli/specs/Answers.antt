-- What the words of a call ask for. A command is given by the files that it reads, in order, and by what it comes to.
use Rattle.std.specs.Prelude.{ℕ, Bool, true, false, List, [], ◌∷◌, length, Option, None, Some}
use Rattle.budget.specs.declared.budget.Budget.{Budget}
use Rattle.budget.specs.declared.budget.Budget.TheVariants.{Nodes, Sets}
use Rattle.desk.specs.Desk.{File}
use Rattle.cli_base.specs.Script.{Script, Asked, Nothing, Runs}
use Rattle.command_line.specs.Line.{command_of}
use Rattle.command_line.specs.declared.commands.Command.{Command}
use Rattle.command_line.specs.declared.commands.Command.TheVariants.{Search, SearchFewest, Tabulate, Check, Trim, Adopt, Sample, Plan, Open, Audit, Report, Trial, Poll, PollEach, OpenPlurality, AuditPlurality, Contests}
use Rattle.search_commands.specs.Search as search
use Rattle.search_commands.specs.SearchFewest as search_fewest
use Rattle.search_commands.specs.Tabulate as tabulate
use Rattle.search_commands.specs.Trial as trial
use Rattle.check_command.specs.Check as check
use Rattle.trim_command.specs.Trim as trim
use Rattle.adopt_command.specs.Adopt as adopt
use Rattle.audit_commands.specs.Sample as sample
use Rattle.audit_commands.specs.Plan as plan
use Rattle.session_commands.specs.Open as opening
use Rattle.session_commands.specs.Audit as audit
use Rattle.session_commands.specs.Report as report
use Rattle.poll_command.specs.Poll as poll
use Rattle.poll_command.specs.Each as poll_each
use Rattle.plurality_commands.specs.OpenPlurality as plurality_opening
use Rattle.plurality_commands.specs.AuditPlurality as plurality_round
use Rattle.contests_command.specs.Contests as contests

abbrev pub script_of : Command → Script
script_of (Search task) = search.script task
script_of (SearchFewest task) = search_fewest.script task
script_of (Tabulate task) = tabulate.script task
script_of (Check task) = check.script task
script_of (Trim task) = trim.script task
script_of (Adopt task) = adopt.script task
script_of (Sample task) = sample.script task
script_of (Plan task) = plan.script task
script_of (Open task) = opening.script task
script_of (Audit task) = audit.script task
script_of (Report task) = report.script task
script_of (Trial task) = trial.script task
script_of (Poll task) = poll.script task
script_of (PollEach task) = poll_each.script task
script_of (OpenPlurality task) = plurality_opening.script task
script_of (AuditPlurality task) = plurality_round.script task
script_of (Contests task) = contests.script task

abbrev pub asked_by : Option Command → Asked
asked_by None = Nothing
asked_by (Some command) = Runs (script_of command)

abbrev pub asked : List (List ℕ) → Asked
asked words = asked_by (command_of words)

-- the names of a command's files, in the order in which it reads them
abbrev pub files_of : Command → List (List ℕ)
files_of (Search task) = task.ballots ∷ []
files_of (SearchFewest task) = task.ballots ∷ []
files_of (Tabulate task) = task.ballots ∷ []
files_of (Check task) = task.ballots ∷ task.assertions ∷ []
files_of (Trim task) = task.ballots ∷ task.assertions ∷ []
files_of (Adopt task) = task.ballots ∷ task.claims ∷ []
files_of (Sample task) = task.manifest ∷ []
files_of (Plan task) = task.manifest ∷ task.assertions ∷ []
files_of (Open task) = task.ballots ∷ task.manifest ∷ task.assertions ∷ []
files_of (Audit task) =
    task.session ∷ task.ballots ∷ task.manifest ∷ task.assertions ∷ task.seen ∷ []
files_of (Report task) = task.session ∷ []
files_of (Trial task) = []
files_of (Poll task) = task.manifest ∷ task.assertions ∷ task.seen ∷ []
files_of (PollEach task) = task.manifest ∷ task.assertions ∷ task.seen ∷ []
files_of (OpenPlurality task) = task.ballots ∷ task.manifest ∷ []
files_of (AuditPlurality task) = task.session ∷ task.ballots ∷ task.manifest ∷ task.seen ∷ []
files_of (Contests task) = task.ballots ∷ task.manifest ∷ task.seen ∷ []

-- what is known about the files that the words may name: what the desk reports, or that there are none for a trial, which reads no files
abbrev pub known_by : Option Command → Option (List File) → Option (List File)
known_by (Some (Trial task)) held = Some []
known_by _ held = held

abbrev pub files_known : List (List ℕ) → Option (List File) → Option (List File)
files_known words held = known_by (command_of words) held

-- the number of files that the words name
abbrev pub count_of : Option Command → ℕ
count_of None = 0
count_of (Some command) = length (files_of command)

abbrev pub file_count : List (List ℕ) → ℕ
file_count words = count_of (command_of words)

abbrev pub has_nodes : Budget → Bool
has_nodes (Nodes nodes) = true
has_nodes (Sets sets) = false

-- whether a budget of nodes may leave open what the command comes to: it may for a search, a tabulation, a trial or an audit of all
-- contests
abbrev pub is_open : Command → Bool
is_open (Search task) = has_nodes task.budget
is_open (Tabulate task) = true
is_open (Trial task) = has_nodes task.budget
is_open (Contests task) = true
is_open _ = false

-- whether the files leave open what the command prints: if several choices have the fewest NENs, one of them is printed
abbrev pub has_choice : Command → Bool
has_choice (SearchFewest task) = true
has_choice _ = false

-- whether the command audits all contests of a file, each of which has a budget of its own
abbrev pub is_of_contests : Command → Bool
is_of_contests (Contests task) = true
is_of_contests _ = false

abbrev pub of_contests : Option Command → Bool
of_contests None = false
of_contests (Some command) = is_of_contests command
