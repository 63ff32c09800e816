-- A search or a trial doesn't run out of budget if its budget is large enough.
use Rattle.std.proofs.Common.{◌≡◌, ◌⊎◌, inl, inr, ◌≤◌, ◌<◌, ℕ, List, refl, sym, ◌∙◌, ap, subst, arith}
use Rattle.std.proofs.lemmas.Bool.Decides.{leb_tells}
use Rattle.desk.specs.Desk.{File}
use Rattle.ballots.specs.Ballots.{BallotFile}
use Rattle.ballots.specs.Grammar.{ballots_of}
use Rattle.assertion_file.specs.Text.{assertion_file_text}
use Rattle.budget.specs.declared.budget.Budget.{Budget}
use Rattle.budget.specs.declared.budget.Budget.TheVariants.{Nodes, Sets}
use Rattle.cli_base.specs.Outcome.{Outcome, Verdict, Answered, outcome}
use Rattle.cli_base.specs.Script.{Readings, AsHeld, MayCome, ComesTo}
use Rattle.cli_base.specs.Statuses.{HasAnswer}
use Rattle.cli_base.specs.declared.outcome.AnswerKind.{AnswerKind}
use Rattle.cli_base.specs.declared.outcome.AnswerKind.TheVariants.{Done, Spent, FullCount}
use Rattle.cli_base.proofs.Scripts.{some_is}
use Rattle.cli_base.proofs.Statuses.{status_in}
use Rattle.command.specs.declared.search.SearchTask.{SearchTask}
use Rattle.input_files.specs.Refusals.{refused_ballots}
use Rattle.contest_search.specs.Budget.{certificate_nodes, nodes_for, sets_of, IsInBudget}
use Rattle.contest_search.specs.Contest.{IsOther, IsWon}
use Rattle.contest_search.proofs.Certificates.{won-certificate}
use Rattle.contest_search.proofs.Contests.{winner-one, same_tabulated}
use Rattle.contest_search.proofs.Nodes.{spent_above}
use Rattle.contest_search.proofs.ReadBallots.{ballots_fit}
use Rattle.search_commands.specs.Ends.{HasSpent}
use Rattle.search_commands.specs.Search.{full_count_text, printed, HasCertificate, HasFullCount, Finds}
use Rattle.search_commands.specs.Trial.{contest_of, Tries}
use Rattle.search_commands.proofs.Searches.{found_by, searched_with, spent_is}
use Rattle.raire_cli.specs.Answers.{asked, asked_by}
use Rattle.raire_cli.specs.Budgets.{Suffices}
use Rattle.raire_cli.specs.Promises.{IsSearchable, IsTriable}
use Rattle.raire_cli.proofs.Headline.{search_came, searching}
use Rattle.raire_cli.proofs.Said.{only, saying}

-- ---- a budget that suffices

-- it doesn't run out
suffices_spent : (budget : Budget) (ballots : BallotFile) (winner : ℕ) (won : IsWon ballots winner) (text : List ℕ) → Suffices budget ballots won.order winner →
    HasSpent budget ballots text → ⊥
suffices_spent (Nodes nodes) ballots winner won text suffices spent =
    let is = spent.is in
    let w : is.winner ≡ winner = winner-one ballots is.winner winner is.won won in
    let other : IsOther ballots winner spent.last = subst (λ v. IsOther ballots v spent.last) w is.named in
    let enough : nodes_for ballots won.order winner spent.last ≤ nodes = suffices spent.last other in
    let above : nodes < nodes_for ballots is.won.order is.winner spent.last = spent_above nodes ballots spent.last spent.order spent.margin is in
    let same = ap (λ order. nodes_for ballots order is.winner spent.last) (same_tabulated ballots is.winner winner is.won won)
    ∙ ap (λ v. nodes_for ballots won.order v spent.last) w in
    omega (arith, enough, above, same)
suffices_spent (Sets sets) ballots winner won text suffices spent =
    let is = spent.is in
    let enough : sets_of ballots winner ≤ sets = suffices in
    let above = is.above in
    let same = ap (sets_of ballots) (winner-one ballots is.winner winner is.won won) in
    omega (arith, enough, above, same)

-- and the certificate is within it
in_budget : (budget : Budget) (ballots : BallotFile) (winner : ℕ) (won : IsWon ballots winner) → Suffices budget ballots won.order winner →
    (other : ℕ) → IsWon ballots other → IsInBudget ballots other budget
in_budget (Nodes nodes) ballots winner won suffices v its = λ c other.
    let w : v ≡ winner = winner-one ballots v winner its won in
    let enough : nodes_for ballots won.order winner c ≤ nodes = suffices c (subst (λ v. IsOther ballots v c) w other) in
    let same : certificate_nodes ballots v c ≡ certificate_nodes ballots winner c = ap (λ v. certificate_nodes ballots v c) w in
    omega (arith, enough, same)
in_budget (Sets sets) ballots winner won suffices v its =
    let enough : sets_of ballots winner ≤ sets = suffices in
    let same = ap (sets_of ballots) (winner-one ballots v winner its won) in
    omega (arith, enough, same)

-- ---- a search

module _ (words : List (List ℕ)) (files : List File) (ok : IsSearchable words files) where
  abbrev task : SearchTask
  task = ok.asks.search.task

  -- what the search ends with is found in its ballots, and what is found there it may end with

  found_there : (kind : AnswerKind) (text : List ℕ) → ComesTo (AsHeld files) (asked words) (Answered kind text) →
      Finds task.budget task.floor task.plan ok.ballots (Answered kind text)
  found_there kind text comes =
      let came = search_came words files ok.asks.search kind text comes in
      let whole : came.bytes ≡ ok.asks.bytes = some_is (sym came.held ∙ ok.asks.held) in
      let same : came.value ≡ ok.ballots = only came.is (ap (λ b. ballots_of b task.contest) whole ∙ ok.asks.accepted) in
      subst (λ ballots. Finds task.budget task.floor task.plan ballots (Answered kind text)) same (found_by task came.value kind text came.rest).1

  comes_there : (v : Verdict) → Finds task.budget task.floor task.plan ok.ballots v → ComesTo (AsHeld files) (asked words) v
  comes_there v finds =
      subst (λ command. ComesTo (AsHeld files) (asked_by command) v) (sym ok.asks.search.asked)
      (saying files task.ballots (refused_ballots task.ballots) (λ bytes. ballots_of bytes task.contest) (searching words files ok.asks.search)
      ok.asks.bytes ok.asks.held ok.is_short ok.ballots ok.asks.accepted v (searched_with task ok.ballots v ok.asks.cards finds))

  -- its budget doesn't run out
  pub not_spent : HasAnswer (asked words) files Spent → ⊥
  not_spent (text, comes) =
      suffices_spent task.budget ok.ballots ok.winner ok.asks.won text ok.budget
      (spent_is task.budget task.floor task.plan ok.ballots text (found_there Spent text comes))

  -- it has an answer, or calls for a full count
  pub has_answer : HasAnswer (asked words) files Done ⊎ HasAnswer (asked words) files FullCount
  has_answer =
      let (file, is) = won-certificate ok.ballots ok.winner ok.asks.won ok.decided (ballots_fit ok.asks.bytes task.contest ok.ballots ok.asks.accepted).fewest in
      let within = in_budget task.budget ok.ballots ok.winner ok.asks.won ok.budget is.winner is.won in
      elim (leb_tells task.floor file.margin) [
        | inl (test, le) ↦
            let text = assertion_file_text (printed task.plan file) in
            let has : HasCertificate task.budget task.floor task.plan ok.ballots text = record { file = file; is = is; within = within; floor = le; shown = refl } in
            inl (text, comes_there (Answered Done text) (inl (text, has, refl)))
        | inr (test, lt) ↦
            let text = full_count_text file task.floor in
            let has : HasFullCount task.budget task.floor ok.ballots text = record { file = file; is = is; within = within; floor = lt; shown = refl } in
            inr (text, comes_there (Answered FullCount text) (inr (inr (inr (text, has, refl)))))
      ]

-- ---- a trial

-- a budget that suffices for each winner doesn't run out
each_suffices : (budget : Budget) (ballots : BallotFile) (text : List ℕ) →
    ((winner : ℕ) (won : IsWon ballots winner) → Suffices budget ballots won.order winner) → HasSpent budget ballots text → ⊥
each_suffices (Nodes nodes) ballots text all spent =
    suffices_spent (Nodes nodes) ballots spent.is.winner spent.is.won text (all spent.is.winner spent.is.won) spent
each_suffices (Sets sets) ballots text all spent =
    suffices_spent (Sets sets) ballots spent.is.winner spent.is.won text (all spent.is.winner spent.is.won) spent

module _ (words : List (List ℕ)) (ok : IsTriable words) where
  -- it has its lines, or a tie
  pub tried : (readings : Readings) (due : Outcome) → MayCome readings (asked words) due → (due.status ≡ 0) ⊎ (due.status ≡ 3)
  tried readings due may =
      let (v, tries, is) = subst (λ command. MayCome readings (asked_by command) due) ok.trial.asked may in by v tries is
    where
      by : (v : Verdict) → Tries ok.trial.task v → due ≡ outcome v → (due.status ≡ 0) ⊎ (due.status ≡ 3)
      by v (inl (text, lines, e)) is = inl (ap status_in (is ∙ ap outcome e))
      by v (inr (inl (text, tie, e))) is = inr (ap status_in (is ∙ ap outcome e))
      by v (inr (inr (text, spent, e))) is = absurd (each_suffices ok.trial.task.budget (contest_of ok.trial.task) text ok.budget spent)
