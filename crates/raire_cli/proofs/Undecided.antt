-- Status 3 comes from a contest that isn't decided, with its first tie.
use Rattle.std.proofs.Common.{◌≡◌, ◌⊎◌, inl, inr, ◌+◌, ◌≤◌, ◌<◌, ℕ, List, Option, None, Some, refl, sym, ◌∙◌, ap, subst, arith}
use Rattle.std.proofs.lemmas.List.FromFn.{length-map-range_with_len}
use Rattle.std.specs.Fmt.{decimal}
use Rattle.desk.specs.Desk.{File}
use Rattle.irv_base.specs.Names.{Id}
use Rattle.irv_base.specs.declared.limits.TheConstants.{FEWEST_CANDIDATES}
use Rattle.assertions.proofs.Decided.{positive-decided}
use Rattle.bound_search.specs.Race.{work_for}
use Rattle.ballots.specs.Ballots.{BallotFile}
use Rattle.budget.specs.declared.budget.Budget.{Budget}
use Rattle.budget.specs.declared.budget.Budget.TheVariants.{Nodes, Sets}
use Rattle.ballots.specs.Grammar.{ballots_of}
use Rattle.cli_base.specs.Outcome.{Verdict, Answered}
use Rattle.cli_base.specs.Script.{Script, Read, Ends, AsHeld, Concludes, ComesTo}
use Rattle.cli_base.specs.Statuses.{HasAnswer}
use Rattle.cli_base.specs.declared.outcome.AnswerKind.{AnswerKind}
use Rattle.cli_base.specs.declared.outcome.AnswerKind.TheVariants.{Tie, Spent}
use Rattle.cli_base.proofs.Scripts.{some_is}
use Rattle.command.specs.declared.plan_terms.PlanTerms.{PlanTerms}
use Rattle.command.specs.declared.trial.TrialTask.{TrialTask}
use Rattle.command_line.specs.Laws.{IsChecked}
use Rattle.command_line.specs.Line.{command_of}
use Rattle.command_line.specs.declared.commands.Command.{Command}
use Rattle.command_line.specs.declared.commands.Command.TheVariants.{Search, SearchFewest, Tabulate, Trial, OpenPlurality, AuditPlurality}
use Rattle.command_line.proofs.Checked.{are_checked}
use Rattle.input_files.specs.Judged.{told, go_on}
use Rattle.input_files.specs.Refusals.{refused_ballots}
use Rattle.contest_search.specs.Budget.{IsCertificateSpent, IsRaceSpent, IsSpent, IsTold}
use Rattle.contest_search.specs.Certificate.{margin_of}
use Rattle.contest_search.specs.Contest.{candidate_count, IsOther, IsUndecided, IsWon}
use Rattle.contest_search.proofs.Contests.{winner-below, winner_exists}
use Rattle.contest_search.proofs.FewestNeeded.{never_told}
use Rattle.contest_search.proofs.ReadBallots.{ballots_fit}
use Rattle.search_commands.specs.Ends.{HasSpent, HasTie}
use Rattle.search_commands.specs.Search.{Finds, Searches}
use Rattle.search_commands.specs.SearchFewest as search_fewest
use Rattle.search_commands.specs.Tabulate.{Tabulates}
use Rattle.search_commands.specs.Trial.{contest_of, Tries}
use Rattle.search_commands.proofs.Ends.{undecided_has_tie}
use Rattle.search_commands.proofs.Fewest as fewest_found
use Rattle.search_commands.proofs.Searches.{found_by, searched_with, spent_is}
use Rattle.raire_cli.specs.Answers.{asked, asked_by, script_of}
use Rattle.raire_cli.specs.Held.{AreBallots}
use Rattle.raire_cli.specs.Budgets.{SufficesForTie, budget_of}
use Rattle.raire_cli.specs.PluralityTies.{TellsPluralityTie}
use Rattle.raire_cli.specs.Undecided.{AsksUndecided, IsAbout, TellsTie}
use Rattle.raire_cli.proofs.EachCommand.{tells_no_tie}
use Rattle.raire_cli.proofs.PluralAudited.{round_tie}
use Rattle.raire_cli.proofs.PluralOpened.{opening_tie}
use Rattle.raire_cli.proofs.Said.{only, said, saying, says_of}

-- ---- a tie that is printed

module _ (text : List ℕ) where
  tie_found : (budget : Budget) (least : ℕ) (plan : Option PlanTerms) (ballots : BallotFile) → Finds budget least plan ballots (Answered Tie text) →
      HasTie ballots text
  tie_found budget least plan ballots (inl (other, has, e)) = absurd (cc e)
  tie_found budget least plan ballots (inr (inl (other, has, e))) = let same : other ≡ text = cc in subst (HasTie ballots) same has.0
  tie_found budget least plan ballots (inr (inr (inl (other, has, e)))) = absurd (cc e)
  tie_found budget least plan ballots (inr (inr (inr (other, has, e)))) = absurd (cc e)

  tie_tabulated : (nodes : ℕ) (ballots : BallotFile) → Tabulates nodes ballots (Answered Tie text) → HasTie ballots text
  tie_tabulated nodes ballots (inl (other, has, e)) = absurd (cc e)
  tie_tabulated nodes ballots (inr (inl (other, has, e))) = let same : other ≡ text = cc in subst (HasTie ballots) same has
  tie_tabulated nodes ballots (inr (inr (other, has, e))) = absurd (cc e)

  tie_tried : (task : TrialTask) → Tries task (Answered Tie text) → HasTie (contest_of task) text
  tie_tried task (inl (other, has, e)) = absurd (cc e)
  tie_tried task (inr (inl (other, has, e))) = let same : other ≡ text = cc in subst (HasTie (contest_of task)) same has.0
  tie_tried task (inr (inr (other, has, e))) = absurd (cc e)

-- a command continues with the ballots of a file
module _ (files : List File) (name : List ℕ) (contest : Option Id) (Ended : BallotFile → Verdict → Type 0) where
  abbrev ended_by : List ℕ → BallotFile → Script
  ended_by bytes ballots = Ends (Ended ballots)

  abbrev reading : Script
  reading = Read name (λ bytes. go_on (told (refused_ballots name) (ballots_of bytes contest)) (ended_by bytes))

  pub said_of : (kind : AnswerKind) (text : List ℕ) → Concludes (AsHeld files) reading (Answered kind text) →
      (ballots : BallotFile) × AreBallots files name contest ballots × Ended ballots (Answered kind text)
  said_of kind text comes =
      let is = said files name (refused_ballots name) (λ bytes. ballots_of bytes contest) ended_by kind text (λ why. tt) comes in
      (is.value, says_of is, is.rest)

  module _ (ballots : BallotFile) (are : AreBallots files name contest ballots) where
    pub comes_of : (v : Verdict) → Ended ballots v → Concludes (AsHeld files) reading v
    comes_of v ends =
        saying files name (refused_ballots name) (λ bytes. ballots_of bytes contest) ended_by are.bytes are.held are.is_short ballots are.is v ends

    pub ends_there : (kind : AnswerKind) (text : List ℕ) → Concludes (AsHeld files) reading (Answered kind text) → Ended ballots (Answered kind text)
    ends_there kind text comes =
        let (other, its, ends) = said_of kind text comes in
        let whole : its.bytes ≡ are.bytes = some_is (sym its.held ∙ are.held) in
        let same : other ≡ ballots = only its.is (ap (λ b. ballots_of b contest) whole ∙ are.is) in
        subst (λ ballots. Ended ballots (Answered kind text)) same ends

module _ (words : List (List ℕ)) (files : List File) (text : List ℕ) where
  told_of : (command : Command) (ballots : BallotFile) → command_of words ≡ Some command → IsAbout files command ballots → HasTie ballots text →
      TellsTie words files text
  told_of command ballots is about tie = record {
    ballots = ballots;
    asks = record { command = command; asked = is; about = about };
    undecided = tie.is.undecided;
    tie = tie;
  }

  abbrev Tells : Type 0
  Tells = TellsTie words files text ⊎ TellsPluralityTie words files text

  tells : (command : Option Command) → command_of words ≡ command → ComesTo (AsHeld files) (asked_by command) (Answered Tie text) → Tells
  tells None is comes = absurd comes
  tells (Some (Search task)) is comes =
      let (ballots, are, ends) = said_of files task.ballots task.contest (Searches task) Tie text comes in
      let (cards, finds) = found_by task ballots Tie text ends in
      inl (told_of (Search task) ballots is (are, cards) (tie_found text task.budget task.floor task.plan ballots finds))
  tells (Some (SearchFewest task)) is comes =
      let (ballots, are, ends) = said_of files task.ballots task.contest (search_fewest.Searches task) Tie text comes in
      let (cards, finds) = fewest_found.found_by task ballots Tie text ends in
      inl (told_of (SearchFewest task) ballots is (are, cards) (fewest_found.tie_is task.sets task.gap task.floor task.plan ballots text finds).0)
  tells (Some (Tabulate task)) is comes =
      let (ballots, are, ends) = said_of files task.ballots task.contest (Tabulates task.nodes) Tie text comes in
      inl (told_of (Tabulate task) ballots is are (tie_tabulated text task.nodes ballots ends))
  tells (Some (Trial task)) is ends = inl (told_of (Trial task) (contest_of task) is refl (tie_tried text task ends))
  tells (Some (OpenPlurality task)) is comes =
      inr (opening_tie words files (record { task = task; asked = is }) text
      (subst (λ command. ComesTo (AsHeld files) (asked_by command) (Answered Tie text)) (sym is) comes))
  tells (Some (AuditPlurality task)) is comes =
      inr (round_tie words files (record { task = task; asked = is }) text
      (subst (λ command. ComesTo (AsHeld files) (asked_by command) (Answered Tie text)) (sym is) comes))
  tells (Some command) is comes = absurd (tells_no_tie (AsHeld files) text command refl comes)

  pub tells_tie : ComesTo (AsHeld files) (asked words) (Answered Tie text) → Tells
  tells_tie comes = tells (command_of words) refl comes

-- ---- a tie that is reached

module _ (files : List File) (ballots : BallotFile) where
  fewest_in : (name : List ℕ) (contest : Option Id) → AreBallots files name contest ballots → FEWEST_CANDIDATES ≤ candidate_count ballots
  fewest_in name contest are = let fit = (ballots_fit are.bytes contest ballots are.is).fewest in omega (arith, fit)

  fewest_of : (command : Command) → IsChecked command → IsAbout files command ballots → FEWEST_CANDIDATES ≤ candidate_count ballots
  fewest_of (Search task) checked (are, cards) = fewest_in task.ballots task.contest are
  fewest_of (SearchFewest task) checked (are, cards) = fewest_in task.ballots task.contest are
  fewest_of (Tabulate task) checked are = fewest_in task.ballots task.contest are
  fewest_of (Trial task) checked is =
      let long : candidate_count ballots ≡ task.candidates =
      ap candidate_count is ∙ length-map-range_with_len (λ c. decimal (c + 1)) 0 task.candidates in
      let fewest : FEWEST_CANDIDATES ≤ task.candidates = checked.candidates.0 in
      omega (arith, fewest, long)
  fewest_of _ checked about = absurd about

  comes_to_tie : (text : List ℕ) → HasTie ballots text → (command : Command) → IsAbout files command ballots → IsTold (budget_of command) ballots →
      Concludes (AsHeld files) (script_of command) (Answered Tie text)
  comes_to_tie text tie (Search task) (are, cards) told =
      comes_of files task.ballots task.contest (Searches task) ballots are (Answered Tie text)
      (searched_with task ballots (Answered Tie text) cards (inr (inl (text, (tie, told), refl))))
  comes_to_tie text tie (SearchFewest task) (are, cards) told =
      comes_of files task.ballots task.contest (search_fewest.Searches task) ballots are (Answered Tie text)
      (fewest_found.searched_with task ballots (Answered Tie text) cards (inr (inl (text, (tie, told), refl))))
  comes_to_tie text tie (Tabulate task) are told =
      comes_of files task.ballots task.contest (Tabulates task.nodes) ballots are (Answered Tie text) (inr (inl (text, tie, refl)))
  comes_to_tie text tie (Trial task) is told = inr (inl (text, subst (λ contest. HasTie contest text × IsTold task.budget contest) is (tie, told), refl))
  comes_to_tie text tie _ about told = absurd about

-- ---- and no budget that runs out

module _ (ballots : BallotFile) (nodes : ℕ) (fewest : FEWEST_CANDIDATES ≤ candidate_count ballots) (undecided : IsUndecided ballots)
    (budget : SufficesForTie (Nodes nodes) ballots) where
  within : (winner last : ℕ) (won : IsWon ballots winner) → IsOther ballots winner last → IsRaceSpent nodes ballots won.order last → ⊥
  within winner last won other race =
      let enough : work_for (candidate_count ballots) ballots.rankings won.order last ≤ nodes = budget winner last won other in
      let above : nodes < work_for (candidate_count ballots) ballots.rankings won.order last = race.above in
      omega (arith, enough, above)

  -- a contest that isn't decided has no certificate
  no_certificate : (winner : ℕ) → IsWon ballots winner → 1 ≤ margin_of ballots winner → ⊥
  no_certificate winner won some =
      undecided (
        winner,
        positive-decided (candidate_count ballots) winner ballots.rankings (winner-below ballots winner won) (omega (arith, fewest)) some,
      )

  never_spent_so : (last : ℕ) (order : List ℕ) (margin : ℕ) → IsSpent nodes ballots last order margin → ⊥
  never_spent_so last order margin is = by is.cause where
    by : IsRaceSpent nodes ballots is.won.order last ⊎ IsCertificateSpent nodes ballots is.winner last margin → ⊥
    by (inl race) = within is.winner last is.won is.named race
    by (inr it) = no_certificate is.winner is.won (subst (λ m. 1 ≤ m) it.best is.some)

  never_stopped : (text : List ℕ) → Tabulates nodes ballots (Answered Spent text) → ⊥
  never_stopped text (inl (other, has, e)) = cc e
  never_stopped text (inr (inl (other, has, e))) = cc e
  never_stopped text (inr (inr (other, has, e))) = let is = has.is in within is.winner has.last is.won is.named is.cause

-- both by sets
spent_never : (budget : Budget) (ballots : BallotFile) (text : List ℕ) → FEWEST_CANDIDATES ≤ candidate_count ballots → IsUndecided ballots →
    SufficesForTie budget ballots → HasSpent budget ballots text → ⊥
spent_never (Nodes nodes) ballots text fewest undecided suffices spent =
    never_spent_so ballots nodes fewest undecided suffices spent.last spent.order spent.margin spent.is
spent_never (Sets sets) ballots text fewest undecided suffices spent =
    let is = spent.is in
    let some = is.some in
    let hard = is.hardness in
    let above = is.above in
    let enough = suffices is.winner is.won (omega (arith, some, hard)) in
    omega (arith, above, enough)

-- and then the tie can be printed
told_within : (budget : Budget) (ballots : BallotFile) → FEWEST_CANDIDATES ≤ candidate_count ballots → SufficesForTie budget ballots → IsTold budget ballots
told_within (Nodes nodes) ballots fewest suffices = tt
told_within (Sets sets) ballots fewest suffices =
    let (winner, won) = winner_exists ballots (omega (arith, fewest)) in
    record { winner = winner; won = won; within = suffices winner won }

pub tried_spent : (task : TrialTask) (text : List ℕ) → Tries task (Answered Spent text) → (other : List ℕ) × HasSpent task.budget (contest_of task) other
tried_spent task text (inl (other, has, e)) = absurd (cc e)
tried_spent task text (inr (inl (other, has, e))) = absurd (cc e)
tried_spent task text (inr (inr (other, has, e))) = (other, has)

module _ (files : List File) (ballots : BallotFile) (text : List ℕ) (fewest : FEWEST_CANDIDATES ≤ candidate_count ballots)
    (undecided : IsUndecided ballots) where
  never_spent : (command : Command) → IsAbout files command ballots → SufficesForTie (budget_of command) ballots →
      Concludes (AsHeld files) (script_of command) (Answered Spent text) → ⊥
  never_spent (Search task) (are, cards) budget comes =
      let (has, finds) = found_by task ballots Spent text
      (ends_there files task.ballots task.contest (Searches task) ballots are Spent text comes) in
      spent_never task.budget ballots text fewest undecided budget (spent_is task.budget task.floor task.plan ballots text finds)
  never_spent (SearchFewest task) (are, cards) budget comes =
      let (has, finds) = fewest_found.found_by task ballots Spent text
      (ends_there files task.ballots task.contest (search_fewest.Searches task) ballots are Spent text comes) in
      let its = fewest_found.spent_is task.sets task.gap task.floor task.plan ballots text finds in
      let two : 1 < candidate_count ballots = omega (arith, fewest) in
      never_told ballots task.sets its.order its.margin two undecided
      (record { winner = its.is.winner; won = its.is.won; within = budget its.is.winner its.is.won }) its.is
  never_spent (Tabulate task) are budget comes =
      never_stopped ballots task.nodes fewest undecided budget text
      (ends_there files task.ballots task.contest (Tabulates task.nodes) ballots are Spent text comes)
  never_spent (Trial task) is budget ends =
      let (other, has) = tried_spent task text ends in
      spent_never task.budget ballots other fewest undecided budget (subst (λ contest. HasSpent task.budget contest other) (sym is) has)
  never_spent _ about budget comes = absurd about

-- ---- the call

module _ (words : List (List ℕ)) (files : List File) (ok : AsksUndecided words files) where
  fewest : FEWEST_CANDIDATES ≤ candidate_count ok.ballots
  fewest = fewest_of files ok.ballots ok.asks.command (are_checked words ok.asks.command ok.asks.asked) ok.asks.about

  pub has_tie : HasAnswer (asked words) files Tie
  has_tie =
      let (text, tie) = undecided_has_tie ok.ballots fewest ok.undecided in
      let told = told_within (budget_of ok.asks.command) ok.ballots fewest ok.budget in
      let comes = comes_to_tie files ok.ballots text tie ok.asks.command ok.asks.about told in
      (text, subst (λ command. ComesTo (AsHeld files) (asked_by command) (Answered Tie text)) (sym ok.asks.asked) comes)

  pub never_spent_there : HasAnswer (asked words) files Spent → ⊥
  never_spent_there (text, comes) =
      never_spent files ok.ballots text fewest ok.undecided ok.asks.command ok.asks.about ok.budget
      (subst (λ command. ComesTo (AsHeld files) (asked_by command) (Answered Spent text)) ok.asks.asked comes)
