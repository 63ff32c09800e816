-- What is known about every command, with a row for each.
use Rattle.std.proofs.Common.{◌≡◌, ◌⊎◌, inl, inr, ℕ, List, Bool, true, false, Option, Some, None, refl, sym, ap, subst}
use Rattle.std.proofs.lemmas.Bool.{false≢true}
use Rattle.cli_base.specs.Outcome.{Outcome, Answered}
use Rattle.cli_base.specs.Script.{Script, Readings, Agree, AgreeOn, AreOfKind, ComesTo, Concludes, Same, SameButBudget, SameButContests, SameStatus, SameStatusButBudget}
use Rattle.cli_base.specs.declared.outcome.AnswerKind.{AnswerKind}
use Rattle.cli_base.specs.declared.outcome.AnswerKind.TheVariants.{Tie, FullCount}
use Rattle.cli_base.proofs.AmongKinds.{is_among, not_among}
use Rattle.cli_base.proofs.Scripts.{agree-weaker, of_kind}
use Rattle.budget.specs.declared.budget.Budget.{Budget}
use Rattle.budget.specs.declared.budget.Budget.TheVariants.{Nodes, Sets}
use Rattle.command.specs.declared.search.SearchTask.{SearchTask}
use Rattle.command.specs.declared.trial.TrialTask.{TrialTask}
use Rattle.command_line.specs.Line.{command_of}
use Rattle.command_line.specs.declared.commands.Command.{Command}
use Rattle.command_line.specs.declared.commands.Command.TheVariants.{Search, SearchFewest, Tabulate, Check, Trim, Adopt, Sample, Plan, Open, Audit, Report, Trial, Poll, PollEach, OpenPlurality, AuditPlurality, Contests}
use Rattle.search_commands.specs.Search as search
use Rattle.search_commands.specs.SearchFewest as search_fewest
use Rattle.search_commands.specs.Tabulate as tabulate
use Rattle.search_commands.specs.Trial as trial
use Rattle.check_command.specs.Check as check
use Rattle.trim_command.specs.Trim as trim
use Rattle.adopt_command.specs.Adopt as adopt
use Rattle.audit_commands.specs.Sample as sample
use Rattle.audit_commands.specs.Plan as plan
use Rattle.session_commands.specs.Open as opening
use Rattle.session_commands.specs.Audit as audit
use Rattle.session_commands.specs.Report as report
use Rattle.poll_command.specs.Poll as poll
use Rattle.plurality_commands.specs.OpenPlurality as plurality_opening
use Rattle.plurality_commands.specs.AuditPlurality as plurality_round
use Rattle.contests_command.specs.Contests as contests
use Rattle.search_commands.proofs.Searches as searches
use Rattle.search_commands.proofs.Fewest as searches_fewest
use Rattle.search_commands.proofs.Tabulations as tabulations
use Rattle.search_commands.proofs.Tried as tried
use Rattle.check_command.proofs.Checks as checks
use Rattle.trim_command.proofs.Trims as trims
use Rattle.adopt_command.proofs.Adopts as adopts
use Rattle.audit_commands.proofs.Samples as samples
use Rattle.audit_commands.proofs.Plans as plans
use Rattle.session_commands.proofs.Opens as opens
use Rattle.session_commands.proofs.Audits as audits
use Rattle.session_commands.proofs.Reports as reports
use Rattle.poll_command.proofs.Polls as polls
use Rattle.poll_command.proofs.EachPolls as polls_each
use Rattle.plurality_commands.proofs.Opens as plurality_opens
use Rattle.plurality_commands.proofs.Audits as plurality_audits
use Rattle.contests_command.proofs.Audits as contest_audits
use Rattle.command.specs.declared.contests.ContestsTask.{ContestsTask}
use Rattle.raire_cli.specs.Asks.{Asks}
use Rattle.raire_cli.specs.Answers.{script_of, asked_by, has_choice, has_nodes, is_of_contests, is_open, of_contests}
use Rattle.raire_cli.proofs.EitherBudget.{search_agrees, trial_agrees}

-- how far the ends of a script agree
abbrev SameBy : Bool → Bool → Bool → Outcome → Outcome → Type 0
SameBy true may_be_open choice = SameButContests
SameBy false true choice = SameButBudget
SameBy false false true = SameStatus
SameBy false false false = Same

-- the kinds of the answers of a command
abbrev pub kinds_of : Command → List AnswerKind
kinds_of (Search task) = search.kinds
kinds_of (SearchFewest task) = search_fewest.kinds
kinds_of (Tabulate task) = tabulate.kinds
kinds_of (Check task) = check.kinds
kinds_of (Trim task) = trim.kinds
kinds_of (Adopt task) = adopt.kinds
kinds_of (Sample task) = sample.kinds
kinds_of (Plan task) = plan.kinds
kinds_of (Open task) = opening.kinds
kinds_of (Audit task) = audit.kinds
kinds_of (Report task) = report.kinds
kinds_of (Trial task) = trial.kinds
kinds_of (Poll task) = poll.kinds
kinds_of (PollEach task) = poll.kinds
kinds_of (OpenPlurality task) = plurality_opening.kinds
kinds_of (AuditPlurality task) = plurality_round.kinds
kinds_of (Contests task) = contests.kinds

-- the ends of its script agree, and its answers are of these kinds
record IsKnown (of_contests may_be_open choice : Bool) (kinds : List AnswerKind) (script : Script) : Type 0 where
  pub agree : Agree (SameBy of_contests may_be_open choice) script
  pub are : AreOfKind kinds script

-- a number of sets leaves nothing open
searches_agree : (task : SearchTask) → Agree (SameBy false (has_nodes task.budget) false) (search.script task)
searches_agree task = by task.budget refl where
  by : (budget : Budget) → task.budget ≡ budget → Agree (SameBy false (has_nodes budget) false) (search.script task)
  by (Nodes nodes) is = searches.agrees task
  by (Sets sets) is = search_agrees task sets is

trials_agree : (task : TrialTask) → Agree (SameBy false (has_nodes task.budget) false) (trial.script task)
trials_agree task = by task.budget refl where
  by : (budget : Budget) → task.budget ≡ budget → Agree (SameBy false (has_nodes budget) false) (trial.script task)
  by (Nodes nodes) is = tried.agrees task
  by (Sets sets) is = trial_agrees task sets is

-- a row for each command
known : (command : Command) → IsKnown (is_of_contests command) (is_open command) (has_choice command) (kinds_of command) (script_of command)
known (Search task) = record { agree = searches_agree task; are = searches.kinds_are task }
known (SearchFewest task) = record { agree = searches_fewest.agrees task; are = searches_fewest.kinds_are task }
known (Tabulate task) = record { agree = tabulations.agrees task; are = tabulations.kinds_are task }
known (Check task) = record { agree = checks.agrees task; are = checks.kinds_are task }
known (Trim task) = record { agree = trims.agrees task; are = trims.kinds_are task }
known (Adopt task) = record { agree = adopts.agrees task; are = adopts.kinds_are task }
known (Sample task) = record { agree = samples.agrees task; are = samples.kinds_are task }
known (Plan task) = record { agree = plans.agrees task; are = plans.kinds_are task }
known (Open task) = record { agree = opens.agrees task; are = opens.kinds_are task }
known (Audit task) = record { agree = audits.agrees task; are = audits.kinds_are task }
known (Report task) = record { agree = reports.agrees task; are = reports.kinds_are task }
known (Trial task) = record { agree = trials_agree task; are = tried.kinds_are task }
known (Poll task) = record { agree = polls.agrees task; are = polls.kinds_are task }
known (PollEach task) = record { agree = polls_each.agrees task; are = polls_each.kinds_are task }
known (OpenPlurality task) = record { agree = plurality_opens.agrees task; are = plurality_opens.kinds_are task }
known (AuditPlurality task) = record { agree = plurality_audits.agrees task; are = plurality_audits.kinds_are task }
known (Contests task) = record { agree = contest_audits.agrees task; are = contest_audits.kinds_are task }

-- ---- one end

same_status : (d e : Outcome) → Same d e → SameStatus d e
same_status d e same = ap (λ (o : Outcome). o.status) same

in_status : (may_be_open choice : Bool) (d e : Outcome) → SameBy false may_be_open choice d e → SameStatusButBudget d e
in_status true choice d e (inl same) = inl (same_status d e same)
in_status true choice d e (inr spent) = inr spent
in_status false true d e same = inl same
in_status false false d e same = inl (same_status d e same)

-- a script of a command on one contest
agrees_one : (command : Command) → is_of_contests command ≡ false → Agree (SameBy false (is_open command) (has_choice command)) (script_of command)
agrees_one command one = subst (λ b. Agree (SameBy b (is_open command) (has_choice command)) (script_of command)) one (known command).agree

-- Only a budget leaves open with which status a command on one contest ends.
agrees : (command : Command) → is_of_contests command ≡ false → Agree SameStatusButBudget (script_of command)
agrees command one =
    agree-weaker (SameBy false (is_open command) (has_choice command)) SameStatusButBudget (in_status (is_open command) (has_choice command))
    (script_of command) (agrees_one command one)

pub agrees_by : (command : Option Command) → of_contests command ≡ false → AgreeOn SameStatusButBudget (asked_by command)
agrees_by None one = tt
agrees_by (Some command) one = agrees command one

-- Only a budget leaves open what it writes, unless it has a choice.
by_budget : (may_be_open : Bool) (script : Script) → Agree (SameBy false may_be_open false) script → Agree SameButBudget script
by_budget true script agree = agree
by_budget false script agree = agree-weaker Same SameButBudget (λ d e same. inl same) script agree

pub agrees_in_full : (command : Command) → is_of_contests command ≡ false → has_choice command ≡ false → Agree SameButBudget (script_of command)
agrees_in_full command one none =
    by_budget (is_open command) (script_of command)
    (subst (λ choice. Agree (SameBy false (is_open command) choice) (script_of command)) none (agrees_one command one))

-- Only the budget of some contest leaves an audit of all contests open.
pub contests_agree : (task : ContestsTask) → AgreeOn SameButContests (asked_by (Some (Contests task)))
contests_agree task = contest_audits.agrees task

-- Commands that no budget leaves open come to one end.
closed-one : (command : Command) → is_open command ≡ false → is_of_contests command ≡ false
closed-one (Contests task) closed = absurd (false≢true (sym closed))
closed-one _ closed = refl

pub agrees_exactly : (command : Command) → is_open command ≡ false → has_choice command ≡ false → Agree Same (script_of command)
agrees_exactly command closed none =
    subst (λ choice. Agree (SameBy false false choice) (script_of command)) none
    (subst (λ b. Agree (SameBy false b (has_choice command)) (script_of command)) closed (agrees_one command (closed-one command closed)))

pub agrees_in_status : (command : Command) → is_open command ≡ false → Agree SameStatus (script_of command)
agrees_in_status command closed =
    agree-weaker (SameBy false false (has_choice command)) SameStatus (by (has_choice command)) (script_of command)
    (subst (λ b. Agree (SameBy false b (has_choice command)) (script_of command)) closed (agrees_one command (closed-one command closed)))
  where
    by : (choice : Bool) (d e : Outcome) → SameBy false false choice d e → SameStatus d e
    by true d e same = same
    by false d e same = same_status d e same

-- ---- kinds of answers

-- an answer is of one of the kinds of its command
never : (readings : Readings) (kind : AnswerKind) (text : List ℕ) (command : Command) → is_among (kinds_of command) kind ≡ false →
    Concludes readings (script_of command) (Answered kind text) → ⊥
never readings kind text command none comes =
    not_among (kinds_of command) kind none (of_kind (kinds_of command) readings (script_of command) (Answered kind text) (known command).are comes)

-- a command whose kinds have no tie prints no tie
pub tells_no_tie : (readings : Readings) (text : List ℕ) (command : Command) → is_among (kinds_of command) Tie ≡ false →
    Concludes readings (script_of command) (Answered Tie text) → ⊥
tells_no_tie readings text command none comes = never readings Tie text command none comes

-- Only a search calls for a full count.
pub counts_in_full : (words : List (List ℕ)) (readings : Readings) (text : List ℕ) (command : Option Command) → command_of words ≡ command →
    ComesTo readings (asked_by command) (Answered FullCount text) → Asks Search words ⊎ Asks SearchFewest words
counts_in_full words readings text None is comes = absurd comes
counts_in_full words readings text (Some (Search task)) is comes = inl (record { task = task; asked = is })
counts_in_full words readings text (Some (SearchFewest task)) is comes = inr (record { task = task; asked = is })
counts_in_full words readings text (Some command) is comes = absurd (never readings FullCount text command refl comes)
