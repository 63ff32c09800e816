-- What a search of a contest finds.
use Rattle.std.specs.Prelude.{◌≡◌, ◌≤◌, ◌<◌, ℕ, List, length, Some, None, All, IsTrue, ⊤}
use Rattle.budget.specs.declared.budget.Budget.{Budget}
use Rattle.irv_base.specs.Orders.{is_order}
use Rattle.set_tallies.specs.Bags.{Kept, IsOf}
use Rattle.irv_tabulator.specs.Results.{IsTabulation}
use Rattle.irv_tabulator.specs.declared.tabulated.Tabulated.{Tabulated}
use Rattle.bound_search.specs.Race.{IsBest}
use Rattle.bound_search.specs.declared.ends.RaceEnd.{RaceEnd}
use Rattle.certifier.specs.declared.certificate.Certificate.{Certificate}
use Rattle.ballots.specs.Ballots.{BallotFile}
use Rattle.contest_search.specs.Budget.{IsInBudget, IsTold, IsSpentIn, IsSpentBySetsIn}
use Rattle.contest_search.specs.Certificate.{IsCertificateOfDecided}
use Rattle.contest_search.specs.Contest.{candidate_count, IsTie}
use Rattle.contest_search.specs.declared.found.Found.{Found}
use Rattle.contest_search.specs.declared.found.Found.TheVariants.{Certificate as CertificateFound, Tie, Spent, SpentSets}
use Rattle.assertion_file.specs.Content.{Content, IsMargin, IsSoundClaim}

-- the certificate, within the budget
pub record IsFoundIn (budget : Budget) (ballots : BallotFile) (file : Content) : Type 0 where
  pub is : IsCertificateOfDecided ballots file
  pub within : IsInBudget ballots is.winner budget

abbrev pub FoundIn : Budget → BallotFile → Found → Type 0
FoundIn budget ballots (CertificateFound file) = IsFoundIn budget ballots file
FoundIn budget ballots (Tie round tied votes) =
    IsTie ballots round tied votes × IsTold budget ballots
FoundIn budget ballots (Spent last order margin) = IsSpentIn budget ballots last order margin
FoundIn budget ballots (SpentSets sets order margin) =
    IsSpentBySetsIn budget ballots sets order margin

-- the search ran out of budget
abbrev pub IsSpentFound : Found → Type 0
IsSpentFound (CertificateFound file) = ⊥
IsSpentFound (Tie round tied votes) = ⊥
IsSpentFound (Spent last order margin) = ⊤
IsSpentFound (SpentSets sets order margin) = ⊤

-- ---- on the way

-- the ballots are counted and tabulated
pub record IsCounted (ballots : BallotFile) (bag : Kept) (t : Tabulated) : Type 0 where
  pub two : 1 < candidate_count ballots
  pub candidates : bag.n ≡ candidate_count ballots
  pub records : IsOf bag ballots.rankings
  pub tabulated : (records : List (List ℕ)) → IsOf bag records → IsTabulation bag.n records t

-- the race over the counted ballots ended this way
abbrev pub IsBestOf : Kept → Tabulated → RaceEnd → Type 0
IsBestOf bag t end =
    (records : List (List ℕ)) → IsOf bag records → IsBest bag.n records t.winner end

-- what a certificate says about the ballots
abbrev pub content_of : BallotFile → ℕ → Certificate → Content
content_of ballots winner certificate = record {
  contest = ballots.contest;
  candidates = ballots.candidates;
  records = length ballots.rankings;
  winner = winner;
  margin = certificate.margin;
  order = Some certificate.order;
  claims = certificate.claims.items;
  plan = None;
}

-- the certificate satisfies what an assertion file for the ballots must satisfy
pub record IsPrintable (ballots : BallotFile) (winner : ℕ)
    (certificate : Certificate) : Type 0 where
  pub some_records : 1 ≤ length ballots.rankings
  pub candidate : winner < candidate_count ballots
  pub margin : IsMargin (length ballots.rankings) certificate.margin
  pub order : IsTrue (is_order (candidate_count ballots) certificate.order)
  pub claims : All (IsSoundClaim (candidate_count ballots) (length ballots.rankings))
      certificate.claims.items
