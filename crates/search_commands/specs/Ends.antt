-- How a command on a contest ends without a certificate: with the first tie, or out of budget.
use Rattle.std.specs.Prelude.{◌≡◌, ℕ, List}
use Rattle.budget.specs.declared.budget.Budget.{Budget}
use Rattle.budget.specs.declared.budget.Budget.TheVariants.{Nodes, Sets}
use Rattle.ballots.specs.Ballots.{BallotFile}
use Rattle.contest_search.specs.Budget.{IsSpent, IsSpentBySets, IsTold}
use Rattle.contest_search.specs.Contest.{IsTie}
use Rattle.report.specs.Ends.{spent_sets_text, spent_text, tie_text}

pub record HasTie (ballots : BallotFile) (text : List ℕ) : Type 0 where
  pub round : ℕ
  pub tied : ℕ
  pub votes : ℕ
  pub is : IsTie ballots round tied votes
  pub shown : text ≡ tie_text ballots.candidates round tied votes

-- a search prints a tie, and the budget is enough to find that the contest isn't decided
abbrev pub HasTieIn : Budget → BallotFile → List ℕ → Type 0
HasTieIn budget ballots text = HasTie ballots text × IsTold budget ballots

pub record HasSpentNodes (nodes : ℕ) (ballots : BallotFile) (text : List ℕ) : Type 0 where
  pub last : ℕ
  pub order : List ℕ
  pub margin : ℕ
  pub is : IsSpent nodes ballots last order margin
  pub shown : text ≡ spent_text ballots.candidates last order margin

pub record HasSpentSets (sets : ℕ) (ballots : BallotFile) (text : List ℕ) : Type 0 where
  pub order : List ℕ
  pub margin : ℕ
  pub is : IsSpentBySets sets ballots order margin
  pub shown : text ≡ spent_sets_text ballots.candidates sets order margin

abbrev pub HasSpent : Budget → BallotFile → List ℕ → Type 0
HasSpent (Nodes nodes) ballots text = HasSpentNodes nodes ballots text
HasSpent (Sets sets) ballots text = HasSpentSets sets ballots text
