-- The number of workers doesn't change what a search or a trial is asked, and a budget changes only whether it runs out.
use Rattle.std.proofs.Common.{◌≡◌, ◌∙◌, inl, inr, ℕ, List, Option, Some, Result, Ok, Err, refl, sym, ap, subst}
use Rattle.std.specs.Prelude.{⊤}
use Rattle.command.specs.declared.trial.TrialTask.{TrialTask}
use Rattle.command_line.specs.declared.commands.Command.{Command}
use Rattle.command_line.specs.declared.commands.Command.TheVariants.{Search, SearchFewest, Trial}
use Rattle.desk.specs.Desk.{File}
use Rattle.ballots.specs.Ballots.{BallotFile}
use Rattle.ballots.specs.Grammar.{ballots_of}
use Rattle.budget.specs.declared.budget.Budget.{Budget}
use Rattle.budget.specs.declared.budget.Budget.TheVariants.{Sets}
use Rattle.command.specs.declared.search.SearchTask.{SearchTask}
use Rattle.input_files.specs.Judged.{told, go_on}
use Rattle.input_files.specs.Refusals.{refused_ballots}
use Rattle.cli_base.specs.Outcome.{Outcome, Verdict, outcome}
use Rattle.cli_base.specs.Script.{Bytes, Ends, AsHeld, ByDesk, IsDue, May, MayCome, Same, SameButBudget, SameStatus, stop_of}
use Rattle.cli_base.proofs.Scripts.{determined, some_is}
use Rattle.search_commands.specs.Search.{Searches, script}
use Rattle.raire_cli.specs.Answers.{asked_by, script_of}
use Rattle.call_laws.specs.Laws.{BudgetsComeToTheSame, FewestComeToTheSameStatus, SetsComeToTheSame, TrialsBySetsComeToTheSame, TrialsComeToTheSame, WorkersAskTheSame, WorkersComeToTheSame}
use Rattle.call_laws.proofs.SameWorkers.{tries_the_same}
use Rattle.raire_cli.proofs.EachCommand.{agrees_exactly, agrees_in_full, agrees_in_status}
use Rattle.raire_cli.proofs.EitherBudget.{searched-either}
use Rattle.raire_cli.proofs.Said.{none_is_some}

pub ask_the_same : WorkersAskTheSame
ask_the_same task some more words others one other held due may =
    let Comes = λ (command : Option Command). IsDue (ByDesk held ⊤) (asked_by command) due in
    subst Comes (sym other) (subst Comes one may)

pub come_to_the_same : WorkersComeToTheSame
come_to_the_same task some more words others one other files d e may_d may_e =
    let search = Search task in
    determined SameButBudget (λ d. inl refl) files (script_of search) d e (agrees_in_full search refl refl)
    (subst (λ command. MayCome (AsHeld files) (asked_by command) d) one may_d)
    (subst (λ command. MayCome (AsHeld files) (asked_by command) e) other may_e)

pub sets_come_to_the_same : SetsComeToTheSame
sets_come_to_the_same task sets some more words others one other files d e may_d may_e =
    let search = Search (record task { budget = Sets sets; workers = some }) in
    determined Same (λ d. refl) files (script_of search) d e (agrees_exactly search refl refl)
    (subst (λ command. MayCome (AsHeld files) (asked_by command) d) one may_d)
    (subst (λ command. MayCome (AsHeld files) (asked_by command) e) other may_e)

pub fewest_come_to_the_same_status : FewestComeToTheSameStatus
fewest_come_to_the_same_status task some more words others one other files d e may_d may_e =
    let search = SearchFewest (record task { workers = some }) in
    determined SameStatus (λ d. refl) files (script_of search) d e (agrees_in_status search refl)
    (subst (λ command. MayCome (AsHeld files) (asked_by command) d) one may_d)
    (subst (λ command. MayCome (AsHeld files) (asked_by command) e) other may_e)

pub trials_come_to_the_same : TrialsComeToTheSame
trials_come_to_the_same task some more words others one other files d e may_d may_e =
    let trial = Trial (record task { workers = more }) in
    let (v, tries, is) = subst (λ command. MayCome (AsHeld files) (asked_by command) d) one may_d in
    determined SameButBudget (λ d. inl refl) files (script_of trial) d e (agrees_in_full trial refl refl)
    (v, tries_the_same (record task { workers = some }) more v tries, is)
    (subst (λ command. MayCome (AsHeld files) (asked_by command) e) other may_e)

pub trials_by_sets_come_to_the_same : TrialsBySetsComeToTheSame
trials_by_sets_come_to_the_same task sets some more words others one other files d e may_d may_e =
    let own : TrialTask = record task { budget = Sets sets } in
    let trial = Trial (record own { workers = more }) in
    let (v, tries, is) = subst (λ command. MayCome (AsHeld files) (asked_by command) d) one may_d in
    determined Same (λ d. refl) files (script_of trial) d e (agrees_exactly trial refl refl)
    (v, tries_the_same (record own { workers = some }) more v tries, is)
    (subst (λ command. MayCome (AsHeld files) (asked_by command) e) other may_e)

-- ---- two budgets

module _ (task : SearchTask) (some more : Budget) (few many : ℕ) where
  abbrev with_few : SearchTask
  with_few = record task { budget = some; workers = few }

  abbrev with_many : SearchTask
  with_many = record task { budget = more; workers = many }

  -- the ballots of both are the same, or both are refused
  judged_either : (judged : Result BallotFile Verdict) (d e : Outcome) → (files : List File) →
      May (AsHeld files) (go_on judged (λ ballots. Ends (Searches with_few ballots))) d →
      May (AsHeld files) (go_on judged (λ ballots. Ends (Searches with_many ballots))) e →
      SameButBudget d e
  judged_either (Ok ballots) d e files (v, found, is) (w, its, e_is) =
      subst (λ d. SameButBudget d e) (sym is)
      (subst (SameButBudget (outcome v)) (sym e_is) (searched-either task some more few many ballots v w found its))
  judged_either (Err verdict) d e files (v, found, is) (w, its, e_is) = inl (is ∙ ap outcome (found ∙ sym its) ∙ sym e_is)

pub budgets_come_to_the_same : BudgetsComeToTheSame
budgets_come_to_the_same task some more few many words others one other files d e may_d may_e =
    by (subst (λ command. MayCome (AsHeld files) (asked_by command) d) one may_d)
    (subst (λ command. MayCome (AsHeld files) (asked_by command) e) other may_e)
  where
    judged : List ℕ → Result BallotFile Verdict
    judged bytes = told (refused_ballots task.ballots) (ballots_of bytes task.contest)

    by : May (AsHeld files) (script (record task { budget = some; workers = few })) d →
        May (AsHeld files) (script (record task { budget = more; workers = many })) e → SameButBudget d e
    by (inl (reading, at, stop)) (inl (other, its, stops)) =
        let same : reading ≡ other = at ∙ sym its in
        inl (some_is (sym stop ∙ ap (stop_of task.ballots) same ∙ stops))
    by (inl (reading, at, stop)) (inr (bytes, its, rest)) =
        let same : Bytes bytes ≡ reading = its ∙ sym at in
        absurd (none_is_some (ap (stop_of task.ballots) same ∙ stop))
    by (inr (bytes, at, rest)) (inl (reading, its, stop)) =
        let same : Bytes bytes ≡ reading = at ∙ sym its in
        absurd (none_is_some (ap (stop_of task.ballots) same ∙ stop))
    by (inr (bytes, at, rest)) (inr (more_bytes, its, rests)) =
        let whole : Bytes more_bytes ≡ Bytes bytes = its ∙ sym at in
        let same : more_bytes ≡ bytes = cc whole in
        judged_either task some more few many (judged bytes) d e files rest
        (subst (λ bytes. May (AsHeld files) (go_on (judged bytes) (λ ballots. Ends (Searches (record task { budget = more; workers = many }) ballots))) e)
        same rests)
