-- What a search for the fewest NENs says of votes, it also says of the ballots that have these votes.
use Rattle.std.proofs.Common.{◌≡◌, inl, inr, subst, Bool, true, false, List, ℕ, Option}
use Rattle.std.specs.Bool.{MatchBool}
use Rattle.budget.specs.declared.budget.Budget.TheVariants.{Sets}
use Rattle.ballots.specs.Ballots.{BallotFile, votes_of}
use Rattle.assertion_file.specs.Content.{Content}
use Rattle.cli_base.specs.Outcome.{Verdict}
use Rattle.command.specs.declared.plan_terms.PlanTerms.{PlanTerms}
use Rattle.command.specs.declared.search_fewest.SearchFewestTask.{SearchFewestTask}
use Rattle.contest_search.specs.Fewest.{IsFewestFoundIn}
use Rattle.contest_search.proofs.FoundThere.{told_there}
use Rattle.search_commands.specs.Search.{has_cards, more_ballots}
use Rattle.search_commands.specs.SearchFewest.{Finds, HasFewest, HasFullCount, HasSpent, Searches}
use Rattle.search_commands.proofs.OfVotes.{cards_there, tied}

module _ (ballots : BallotFile) (sets gap : ℕ) where
  found_there : (file : Content) → IsFewestFoundIn sets gap (votes_of ballots) file → IsFewestFoundIn sets gap ballots file
  found_there file is = record {
    winner = is.winner;
    won = is.won;
    decided = is.decided;
    order = is.order;
    hardest = is.hardest;
    is = is.is;
    claims = is.claims;
    within = is.within;
  }

  spent_there : (text : List ℕ) → HasSpent sets (votes_of ballots) text → HasSpent sets ballots text
  spent_there text has = record {
    order = has.order;
    margin = has.margin;
    is = record {
      winner = has.is.winner;
      won = has.is.won;
      above = has.is.above;
      start = has.is.start;
      hardness = has.is.hardness;
      some = has.is.some;
    };
    shown = has.shown;
  }

  finds_there : (least : ℕ) (plan : Option PlanTerms) (verdict : Verdict) → Finds sets gap least plan (votes_of ballots) verdict → Finds sets gap least plan ballots verdict
  finds_there least plan verdict (inl (text, has, is)) =
      let fewest : HasFewest sets gap least plan ballots text = record { file = has.file; is = found_there has.file has.is; floor = has.floor; shown = has.shown } in
      inl (text, fewest, is)
  finds_there least plan verdict (inr (inl (text, has, is))) = inr (inl (text, (tied ballots text has.0, told_there ballots (Sets sets) has.1), is))
  finds_there least plan verdict (inr (inr (inl (text, has, is)))) = inr (inr (inl (text, spent_there text has, is)))
  finds_there least plan verdict (inr (inr (inr (text, has, is)))) =
      let full_count : HasFullCount sets gap least ballots text =
      record { file = has.file; is = found_there has.file has.is; floor = has.floor; shown = has.shown } in
      inr (inr (inr (text, full_count, is)))

pub searches_there : (ballots : BallotFile) (task : SearchFewestTask) (verdict : Verdict) → Searches task (votes_of ballots) verdict → Searches task ballots verdict
searches_there ballots task verdict h =
    by (has_cards task.plan ballots)
    (subst (λ b. MatchBool b (Finds task.sets task.gap task.floor task.plan (votes_of ballots) verdict) (verdict ≡ more_ballots task.ballots))
    (cards_there ballots task.plan) h)
  where
    by : (b : Bool) → MatchBool b (Finds task.sets task.gap task.floor task.plan (votes_of ballots) verdict) (verdict ≡ more_ballots task.ballots) →
        MatchBool b (Finds task.sets task.gap task.floor task.plan ballots verdict) (verdict ≡ more_ballots task.ballots)
    by true found = finds_there ballots task.sets task.gap task.floor task.plan verdict found
    by false few = few
