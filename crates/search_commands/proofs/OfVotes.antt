-- What a command says of votes, it also says of the ballots that have these votes.
use Rattle.std.proofs.Common.{◌≡◌, inl, inr, refl, subst, Bool, true, false, List, ℕ, Option, Some, None}
use Rattle.std.specs.Bool.{MatchBool}
use Rattle.budget.specs.declared.budget.Budget.{Budget}
use Rattle.budget.specs.declared.budget.Budget.TheVariants.{Nodes, Sets}
use Rattle.ballots.specs.Ballots.{BallotFile, votes_of}
use Rattle.cli_base.specs.Outcome.{Verdict}
use Rattle.command.specs.declared.plan_terms.PlanTerms.{PlanTerms}
use Rattle.command.specs.declared.search.SearchTask.{SearchTask}
use Rattle.contest_search.proofs.FoundThere.{certificate_there, spent_by_sets_there, spent_there, tie_there, told_there, within_there}
use Rattle.search_commands.specs.Ends.{HasSpent, HasTie}
use Rattle.search_commands.specs.Search.{Finds, HasCertificate, HasFullCount, Searches, has_cards, more_ballots}
use Rattle.search_commands.specs.Tabulate.{HasStopped, IsStopped, Tabulates}

module _ (ballots : BallotFile) where
  pub tied : (text : List ℕ) → HasTie (votes_of ballots) text → HasTie ballots text
  tied text has =
      record { round = has.round; tied = has.tied; votes = has.votes; is = tie_there ballots has.round has.tied has.votes has.is; shown = has.shown }

  -- ---- a search

  spent : (budget : Budget) (text : List ℕ) → HasSpent budget (votes_of ballots) text → HasSpent budget ballots text
  spent (Nodes nodes) text has = record {
    last = has.last;
    order = has.order;
    margin = has.margin;
    is = spent_there ballots nodes has.last has.order has.margin has.is;
    shown = has.shown;
  }
  spent (Sets sets) text has =
      record { order = has.order; margin = has.margin; is = spent_by_sets_there ballots sets has.order has.margin has.is; shown = has.shown }

  finds_there : (budget : Budget) (least : ℕ) (plan : Option PlanTerms) (verdict : Verdict) → Finds budget least plan (votes_of ballots) verdict →
      Finds budget least plan ballots verdict
  finds_there budget least plan verdict (inl (text, has, is)) =
      let certificate : HasCertificate budget least plan ballots text = record {
        file = has.file;
        is = certificate_there ballots has.file has.is;
        within = within_there ballots budget has.is.winner has.within;
        floor = has.floor;
        shown = has.shown;
      } in
      inl (text, certificate, is)
  finds_there budget least plan verdict (inr (inl (text, has, is))) = inr (inl (text, (tied text has.0, told_there ballots budget has.1), is))
  finds_there budget least plan verdict (inr (inr (inl (text, has, is)))) = inr (inr (inl (text, spent budget text has, is)))
  finds_there budget least plan verdict (inr (inr (inr (text, has, is)))) =
      let full_count : HasFullCount budget least ballots text = record {
        file = has.file;
        is = certificate_there ballots has.file has.is;
        within = within_there ballots budget has.is.winner has.within;
        floor = has.floor;
        shown = has.shown;
      } in
      inr (inr (inr (text, full_count, is)))

  pub cards_there : (plan : Option PlanTerms) → has_cards plan (votes_of ballots) ≡ has_cards plan ballots
  cards_there None = refl
  cards_there (Some terms) = refl

  pub searches_there : (task : SearchTask) (verdict : Verdict) → Searches task (votes_of ballots) verdict → Searches task ballots verdict
  searches_there task verdict h =
      by (has_cards task.plan ballots)
      (subst (λ b. MatchBool b (Finds task.budget task.floor task.plan (votes_of ballots) verdict) (verdict ≡ more_ballots task.ballots))
      (cards_there task.plan) h)
    where
      by : (b : Bool) → MatchBool b (Finds task.budget task.floor task.plan (votes_of ballots) verdict) (verdict ≡ more_ballots task.ballots) →
          MatchBool b (Finds task.budget task.floor task.plan ballots verdict) (verdict ≡ more_ballots task.ballots)
      by true found = finds_there task.budget task.floor task.plan verdict found
      by false few = few

  -- ---- a tabulation

  stopped_there : (nodes last : ℕ) (order : List ℕ) (margin : ℕ) → IsStopped nodes (votes_of ballots) last order margin →
      IsStopped nodes ballots last order margin
  stopped_there nodes last order margin is = record {
    winner = is.winner;
    won = is.won;
    tied = is.tied;
    named = record { candidate = is.named.candidate; other = is.named.other };
    cause = record { above = is.cause.above };
    alternative = is.alternative;
    hardness = is.hardness;
    within = is.within;
    some = is.some;
  }

  pub tabulates_there : (nodes : ℕ) (verdict : Verdict) → Tabulates nodes (votes_of ballots) verdict → Tabulates nodes ballots verdict
  tabulates_there nodes verdict (inl (text, has, is)) =
      inl (text, record { winner = has.winner; won = has.won; decided = has.decided; shown = has.shown }, is)
  tabulates_there nodes verdict (inr (inl (text, has, is))) = inr (inl (text, tied text has, is))
  tabulates_there nodes verdict (inr (inr (text, has, is))) =
      let stopped : HasStopped nodes ballots text = record {
        last = has.last;
        order = has.order;
        margin = has.margin;
        is = stopped_there nodes has.last has.order has.margin has.is;
        shown = has.shown;
      } in
      inr (inr (text, stopped, is))
