-- A number of sets runs out exactly when more sets count, and never if it is the number that the candidates need.
use Rattle.std.proofs.Common.{◌≡◌, inl, inr, ℕ, ◌<◌, ◌≤◌, ◌-◌, ◌^◌, List, refl, sym, ap, subst, arith, false}
use Rattle.desk.specs.Desk.{File}
use Rattle.assertions.specs.Hardness.{start_order}
use Rattle.ballots.specs.Ballots.{BallotFile}
use Rattle.budget.specs.declared.budget.Budget.{Budget}
use Rattle.budget.specs.declared.budget.Budget.TheVariants.{Nodes, Sets}
use Rattle.check_command.specs.Check.{Checks}
use Rattle.trim_command.specs.Trim.{Trims}
use Rattle.cli_base.specs.Outcome.{Answered}
use Rattle.cli_base.specs.Script.{AsHeld, Concludes}
use Rattle.cli_base.specs.declared.outcome.AnswerKind.TheVariants.{Spent}
use Rattle.command_line.specs.declared.commands.Command.{Command}
use Rattle.command_line.specs.declared.commands.Command.TheVariants.{Search, SearchFewest, Tabulate, Check, Trim, Adopt, Sample, Plan, Open, Audit, Report, Trial, Poll, PollEach, OpenPlurality, AuditPlurality, Contests}
use Rattle.contest_search.specs.Budget.{sets_of}
use Rattle.contest_search.specs.Contest.{candidate_count}
use Rattle.contest_search.specs.Fewest.{fewest_sets_of}
use Rattle.contest_search.proofs.FewestSets.{fewest_sets_are_few}
use Rattle.contest_search.proofs.SetsNeeded.{sets_are_few}
use Rattle.report.specs.Ends.{spent_sets, spent_sets_text}
use Rattle.search_commands.specs.Ends.{HasSpent}
use Rattle.search_commands.specs.Search.{Finds, Searches}
use Rattle.search_commands.specs.SearchFewest as search_fewest
use Rattle.search_commands.specs.Trial.{contest_of}
use Rattle.search_commands.proofs.Fewest as fewest_found
use Rattle.search_commands.proofs.Searches.{found_by, searched_with, spent_is}
use Rattle.raire_cli.specs.Answers.{has_nodes, is_open, script_of}
use Rattle.raire_cli.specs.Budgets.{budget_of, start_of}
use Rattle.raire_cli.specs.Sets.{FewestNeedMore, MoreCount, NeedsMore}
use Rattle.raire_cli.specs.Undecided.{IsAbout}
use Rattle.raire_cli.proofs.AdoptionsSpent.{adopts_more, claims_said, claims_saying, more_adopts}
use Rattle.raire_cli.proofs.SetsJudged.{both_said, both_saying, checked_more, more_checked, more_open, more_round, more_trims, open_more, round_more, trims_more}
use Rattle.raire_cli.proofs.Undecided.{comes_of, ends_there, said_of, tried_spent}

-- a number of sets leaves nothing open
pub closed_by : (command : Command) (sets : ℕ) → budget_of command ≡ Sets sets → is_open command ≡ false
closed_by (Search task) sets is = ap has_nodes is
closed_by (Tabulate task) sets is = absurd (cc is)
closed_by (Trial task) sets is = ap has_nodes is
closed_by (Contests task) sets is = absurd (cc is)
closed_by _ sets is = refl

-- ---- a search and a trial

module _ (sets : ℕ) (ballots : BallotFile) where
  needed : (text : List ℕ) → HasSpent (Sets sets) ballots text → NeedsMore sets ballots
  needed text spent =
      let is = spent.is in
      let some = is.some in
      let hard = is.hardness in
      record { winner = is.winner; won = is.won; above = is.above; some = omega (arith, some, hard) }

  told_spent : NeedsMore sets ballots → (text : List ℕ) × HasSpent (Sets sets) ballots text
  told_spent more =
      let order = start_order more.won.order in
      let margin = start_of ballots more.won.order in (
        spent_sets_text ballots.candidates sets order margin,
        record {
          order = order;
          margin = margin;
          is = record { winner = more.winner; won = more.won; above = more.above; start = refl; hardness = refl; some = more.some };
          shown = refl;
        },
      )

  -- for the fewest NENs

  fewest_needed : (text : List ℕ) → search_fewest.HasSpent sets ballots text → FewestNeedMore sets ballots
  fewest_needed text spent =
      let is = spent.is in
      let some = is.some in
      let hard = is.hardness in
      record { winner = is.winner; won = is.won; above = is.above; some = omega (arith, some, hard) }

  fewest_told_spent : FewestNeedMore sets ballots → (text : List ℕ) × search_fewest.HasSpent sets ballots text
  fewest_told_spent more =
      let order = start_order more.won.order in
      let margin = start_of ballots more.won.order in (
        spent_sets_text ballots.candidates sets order margin,
        record {
          order = order;
          margin = margin;
          is = record { winner = more.winner; won = more.won; above = more.above; start = refl; hardness = refl; some = more.some };
          shown = refl;
        },
      )

-- the sets that the words give
same_sets : {k sets : ℕ} → Sets k ≡ Sets sets → k ≡ sets
same_sets e = cc

-- ---- each

pub spent_more : (files : List File) (command : Command) (sets : ℕ) (text : List ℕ) → budget_of command ≡ Sets sets →
    Concludes (AsHeld files) (script_of command) (Answered Spent text) → MoreCount files command sets
spent_more files (Search task) sets text is comes =
    let (ballots, are, ends) = said_of files task.ballots task.contest (Searches task) Spent text comes in
    let (cards, finds) = found_by task ballots Spent text ends in
    let spent = spent_is task.budget task.floor task.plan ballots text finds in
    (ballots, (are, cards), needed sets ballots text (subst (λ budget. HasSpent budget ballots text) is spent))
spent_more files (SearchFewest task) sets text is comes =
    let (ballots, are, ends) = said_of files task.ballots task.contest (search_fewest.Searches task) Spent text comes in
    let (cards, finds) = fewest_found.found_by task ballots Spent text ends in
    let spent = fewest_found.spent_is task.sets task.gap task.floor task.plan ballots text finds in
    (ballots, (are, cards), fewest_needed sets ballots text (subst (λ k. search_fewest.HasSpent k ballots text) (same_sets is) spent))
spent_more files (Trial task) sets text is comes =
    let (other, spent) = tried_spent task text comes in
    needed sets (contest_of task) other (subst (λ budget. HasSpent budget (contest_of task) other) is spent)
spent_more files (Check task) sets text is comes =
    let (ballots, file, are, checks) = both_said files task.ballots task.assertions task.contest (Checks task.budget) Spent text comes in
    (ballots, file, are, checked_more sets ballots file task.budget is text checks)
spent_more files (Trim task) sets text is comes =
    let (ballots, file, are, trims) = both_said files task.ballots task.assertions task.contest (Trims task.budget) Spent text comes in
    (ballots, file, are, trims_more sets ballots file task.budget is text trims)
spent_more files (Adopt task) sets text is comes =
    let (ballots, claims, are, adopts) = claims_said files task Spent text comes in
    (ballots, claims, are, adopts_more sets ballots claims task.budget is text adopts)
spent_more files (Open task) sets text is comes = open_more files task sets is text comes
spent_more files (Audit task) sets text is comes = round_more files task sets is text comes
spent_more files (Tabulate task) sets text is comes = absurd (cc is)
spent_more files (Sample task) sets text is comes = absurd (cc is)
spent_more files (Plan task) sets text is comes = absurd (cc is)
spent_more files (Report task) sets text is comes = absurd (cc is)
spent_more files (Poll task) sets text is comes = absurd (cc is)
spent_more files (PollEach task) sets text is comes = absurd (cc is)
spent_more files (OpenPlurality task) sets text is comes = absurd (cc is)
spent_more files (AuditPlurality task) sets text is comes = absurd (cc is)
spent_more files (Contests task) sets text is comes = absurd (cc is)

pub more_spent : (files : List File) (command : Command) (sets : ℕ) → budget_of command ≡ Sets sets → MoreCount files command sets →
    (text : List ℕ) × Concludes (AsHeld files) (script_of command) (Answered Spent text)
more_spent files (Search task) sets is (ballots, (are, cards), more) =
    let (text, spent) = told_spent sets ballots more in
    let finds : Finds task.budget task.floor task.plan ballots (Answered Spent text) =
    inr (inr (inl (text, subst (λ budget. HasSpent budget ballots text) (sym is) spent, refl))) in (
      text,
      comes_of files task.ballots task.contest (Searches task) ballots are (Answered Spent text)
          (searched_with task ballots (Answered Spent text) cards finds),
    )
more_spent files (SearchFewest task) sets is (ballots, (are, cards), more) =
    let (text, spent) = fewest_told_spent sets ballots more in
    let its : search_fewest.HasSpent task.sets ballots text = subst (λ k. search_fewest.HasSpent k ballots text) (sym (same_sets is)) spent in
    let finds : search_fewest.Finds task.sets task.gap task.floor task.plan ballots (Answered Spent text) = inr (inr (inl (text, its, refl))) in (
      text,
      comes_of files task.ballots task.contest (search_fewest.Searches task) ballots are (Answered Spent text)
          (fewest_found.searched_with task ballots (Answered Spent text) cards finds),
    )
more_spent files (Trial task) sets is more =
    let (text, spent) = told_spent sets (contest_of task) more in
    (text, inr (inr (text, subst (λ budget. HasSpent budget (contest_of task) text) (sym is) spent, refl)))
more_spent files (Check task) sets is (ballots, file, are, more) = (
  spent_sets sets,
  both_saying files task.ballots task.assertions task.contest (Checks task.budget) ballots file are (Answered Spent (spent_sets sets))
      (more_checked sets ballots file task.budget is more),
)
more_spent files (Trim task) sets is (ballots, file, are, more) = (
  spent_sets sets,
  both_saying files task.ballots task.assertions task.contest (Trims task.budget) ballots file are (Answered Spent (spent_sets sets))
      (more_trims sets ballots file task.budget is more),
)
more_spent files (Adopt task) sets is (ballots, claims, are, more) = (
  spent_sets sets,
  claims_saying files task ballots claims are (Answered Spent (spent_sets sets)) (more_adopts sets ballots claims task.budget is more),
)
more_spent files (Open task) sets is (ballots, file, are, more) = (spent_sets sets, more_open files task sets is ballots file are more)
more_spent files (Audit task) sets is (ballots, file, are, more) = (spent_sets sets, more_round files task sets is ballots file are more)
more_spent files _ sets is more = absurd more

-- ---- enough sets

enough_of : (sets : ℕ) (ballots : BallotFile) (text : List ℕ) → 2 ^ candidate_count ballots - 3 ≤ sets → HasSpent (Sets sets) ballots text → ⊥
enough_of sets ballots text enough spent =
    let is = spent.is in
    let above : sets < sets_of ballots is.winner = is.above in
    let few : sets_of ballots is.winner ≤ 2 ^ candidate_count ballots - 3 = sets_are_few ballots is.winner is.won in
    omega (arith, enough, above, few)

enough_of_fewest : (sets : ℕ) (ballots : BallotFile) (text : List ℕ) → 2 ^ candidate_count ballots - 3 ≤ sets → search_fewest.HasSpent sets ballots text → ⊥
enough_of_fewest sets ballots text enough spent =
    let is = spent.is in
    let above : sets < fewest_sets_of ballots is.winner = is.above in
    let few : fewest_sets_of ballots is.winner ≤ 2 ^ candidate_count ballots - 3 = fewest_sets_are_few ballots is.winner is.won in
    omega (arith, enough, above, few)

pub never_by_sets : (files : List File) (command : Command) (ballots : BallotFile) (sets : ℕ) (text : List ℕ) → IsAbout files command ballots →
    budget_of command ≡ Sets sets → 2 ^ candidate_count ballots - 3 ≤ sets → Concludes (AsHeld files) (script_of command) (Answered Spent text) → ⊥
never_by_sets files (Search task) ballots sets text (are, cards) is enough comes =
    let (has, finds) = found_by task ballots Spent text
    (ends_there files task.ballots task.contest (Searches task) ballots are Spent text comes) in
    enough_of sets ballots text enough
    (subst (λ budget. HasSpent budget ballots text) is (spent_is task.budget task.floor task.plan ballots text finds))
never_by_sets files (SearchFewest task) ballots sets text (are, cards) is enough comes =
    let (has, finds) = fewest_found.found_by task ballots Spent text
    (ends_there files task.ballots task.contest (search_fewest.Searches task) ballots are Spent text comes) in
    enough_of_fewest sets ballots text enough
    (subst (λ k. search_fewest.HasSpent k ballots text) (same_sets is) (fewest_found.spent_is task.sets task.gap task.floor task.plan ballots text finds))
never_by_sets files (Trial task) ballots sets text same is enough comes =
    let (other, spent) = tried_spent task text comes in
    let its : HasSpent task.budget ballots other = subst (λ contest. HasSpent task.budget contest other) (sym same) spent in
    enough_of sets ballots other enough (subst (λ budget. HasSpent budget ballots other) is its)
never_by_sets files (Tabulate task) ballots sets text are is enough comes = cc is
never_by_sets files _ ballots sets text about is enough comes = absurd about
