-- What is found in votes is found in the ballots that they are of.
use Rattle.std.proofs.Common.{◌≡◌, ◌⊎◌, inl, inr, ℕ, List, subst}
use Rattle.budget.specs.declared.budget.Budget.{Budget}
use Rattle.budget.specs.declared.budget.Budget.TheVariants.{Nodes, Sets}
use Rattle.ballots.specs.Ballots.{BallotFile, votes_of}
use Rattle.assertion_file.specs.Content.{Content}
use Rattle.contest_search.specs.Budget.{IsInBudget, IsTold, IsRaceSpent, IsCertificateSpent, IsSpent, IsSpentBySets, IsSpentIn, IsSpentBySetsIn}
use Rattle.contest_search.specs.Certificate.{IsCertificateOfDecided}
use Rattle.contest_search.specs.Contest.{IsOther, IsTie}
use Rattle.contest_search.specs.Found.{FoundIn}
use Rattle.contest_search.specs.declared.found.Found.{Found}
use Rattle.contest_search.specs.declared.found.Found.TheVariants.{Certificate, Tie, Spent, SpentSets}

module _ (ballots : BallotFile) where
  pub other_there : (winner c : ℕ) → IsOther ballots winner c → IsOther (votes_of ballots) winner c
  other_there winner c other = record { candidate = other.candidate; other = other.other }

  abbrev pub certificate_there : (file : Content) → IsCertificateOfDecided (votes_of ballots) file → IsCertificateOfDecided ballots file
  certificate_there file c = record { winner = c.winner; won = c.won; decided = c.decided; order = c.order; least = c.least; is = c.is }

  cause_there : (nodes : ℕ) (tabulated : List ℕ) (winner last margin : ℕ) →
      IsRaceSpent nodes (votes_of ballots) tabulated last ⊎ IsCertificateSpent nodes (votes_of ballots) winner last margin →
      IsRaceSpent nodes ballots tabulated last ⊎ IsCertificateSpent nodes ballots winner last margin
  cause_there nodes tabulated winner last margin (inl race) = inl (record { above = race.above })
  cause_there nodes tabulated winner last margin (inr it) =
      inr (record { above = it.above; least = λ c other before. it.least c (other_there winner c other) before; best = it.best })

  pub spent_there : (nodes last : ℕ) (order : List ℕ) (margin : ℕ) → IsSpent nodes (votes_of ballots) last order margin → IsSpent nodes ballots last order margin
  spent_there nodes last order margin is = record {
    winner = is.winner;
    won = is.won;
    named = record { candidate = is.named.candidate; other = is.named.other };
    cause = cause_there nodes is.won.order is.winner last margin is.cause;
    alternative = is.alternative;
    hardness = is.hardness;
    within = is.within;
    some = is.some;
  }

  pub spent_by_sets_there : (sets : ℕ) (order : List ℕ) (margin : ℕ) → IsSpentBySets sets (votes_of ballots) order margin → IsSpentBySets sets ballots order margin
  spent_by_sets_there sets order margin is = record {
    winner = is.winner;
    won = is.won;
    above = is.above;
    start = is.start;
    hardness = is.hardness;
    some = is.some;
  }

  pub tie_there : (round tied votes : ℕ) → IsTie (votes_of ballots) round tied votes → IsTie ballots round tied votes
  tie_there round tied votes is = record { counted = is.counted; first = is.first; undecided = is.undecided }

  -- by the budget
  pub within_there : (budget : Budget) (winner : ℕ) → IsInBudget (votes_of ballots) winner budget → IsInBudget ballots winner budget
  within_there (Nodes nodes) winner within = λ c other. within c (other_there winner c other)
  within_there (Sets sets) winner within = within

  pub told_there : (budget : Budget) → IsTold budget (votes_of ballots) → IsTold budget ballots
  told_there (Nodes nodes) told = tt
  told_there (Sets sets) told = record { winner = told.winner; won = told.won; within = told.within }

  pub spent_in_there : (budget : Budget) (last : ℕ) (order : List ℕ) (margin : ℕ) → IsSpentIn budget (votes_of ballots) last order margin →
      IsSpentIn budget ballots last order margin
  spent_in_there (Nodes nodes) last order margin is = spent_there nodes last order margin is
  spent_in_there (Sets sets) last order margin is = is

  pub by_sets_there : (budget : Budget) (told : ℕ) (order : List ℕ) (margin : ℕ) → IsSpentBySetsIn budget (votes_of ballots) told order margin →
      IsSpentBySetsIn budget ballots told order margin
  by_sets_there (Nodes nodes) told order margin is = is
  by_sets_there (Sets sets) told order margin is = (is.0, spent_by_sets_there sets order margin is.1)

  pub found_there : (budget : Budget) (found : Found) → FoundIn budget (votes_of ballots) found → FoundIn budget ballots found
  found_there budget (Certificate file) found =
      record { is = certificate_there file found.is; within = within_there budget found.is.winner found.within }
  found_there budget (Tie round tied votes) (is, told) = (tie_there round tied votes is, told_there budget told)
  found_there budget (Spent last order margin) is = spent_in_there budget last order margin is
  found_there budget (SpentSets sets order margin) is = by_sets_there budget sets order margin is

  -- of the contest of the file, and as that which is told apart
  pub found_of : (budget : Budget) (found is : Found) (contest : BallotFile) → found ≡ is → contest ≡ votes_of ballots → FoundIn budget contest found →
      FoundIn budget ballots is
  found_of budget found is contest same of there =
      found_there budget is (subst (λ contest. FoundIn budget contest is) of (subst (FoundIn budget contest) same there))
